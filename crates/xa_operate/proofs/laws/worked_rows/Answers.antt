use Rattle.std.proofs.Common.{refl}
use Rattle.std.specs.Fmt.{digits}
use Rattle.xa_operate.proofs.laws.worked_rows.Goals as goal

pub returns-clause-counted : goal.returns-clause-counted
unfolding digits
returns-clause-counted c =
    record { calls = refl; replies = refl; buckets = refl; last = refl; untold = refl; seconds = refl; microseconds = refl }

pub returns-clause-listed : goal.returns-clause-listed
unfolding digits
returns-clause-listed c =
    record { first = refl; others = refl; some = refl; none = refl; untold = refl; some_json = refl; none_json = refl; untold_json = refl }
