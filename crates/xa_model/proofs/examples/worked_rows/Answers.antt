use Rattle.std.proofs.Common.{refl}
use Rattle.xa_model.proofs.examples.worked_rows.Goals as goal

pub returns-clause-read_back : goal.returns-clause-read_back
returns-clause-read_back c = refl

pub returns-clause-busy : goal.returns-clause-busy
returns-clause-busy c = refl

pub returns-clause-flags : goal.returns-clause-flags
returns-clause-flags c = refl
