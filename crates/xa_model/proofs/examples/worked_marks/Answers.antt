use Rattle.std.proofs.Common.{refl}
use Rattle.xa_model.proofs.examples.worked_marks.Goals as goal

pub returns-clause-marks : goal.returns-clause-marks
returns-clause-marks c = refl

pub returns-clause-first_mark : goal.returns-clause-first_mark
returns-clause-first_mark c = refl
