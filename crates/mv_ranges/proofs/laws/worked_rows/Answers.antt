use Rattle.std.proofs.Common.{refl}
use Rattle.mv_ranges.proofs.laws.worked_rows.Goals as goal

pub returns-clause-stands : goal.returns-clause-stands
returns-clause-stands c = λ x y is end. rw (is, end) (refl, refl, refl, refl, refl)
