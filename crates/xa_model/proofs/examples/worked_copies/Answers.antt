use Rattle.std.proofs.Common.{refl}
use Rattle.xa_model.proofs.examples.worked_copies.Goals as goal

pub returns-clause-below : goal.returns-clause-below
returns-clause-below c = (tt, ((refl, tt), (tt, tt)))

pub returns-clause-misses : goal.returns-clause-misses
returns-clause-misses c = λ h. cc h.0.0

pub returns-clause-misses_own : goal.returns-clause-misses_own
returns-clause-misses_own c = λ h. cc h.0.0

pub returns-clause-above : goal.returns-clause-above
returns-clause-above c = λ h. cc h.1.0.0

pub returns-clause-records : goal.returns-clause-records
returns-clause-records c = refl
