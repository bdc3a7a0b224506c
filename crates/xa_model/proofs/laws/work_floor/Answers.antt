use Rattle.xa_model.proofs.WorkFloors.{works_above, begins_above, floor_never_falls}
use Rattle.xa_model.proofs.laws.work_floor.Goals as goal

pub returns-clause-works : goal.returns-clause-works
returns-clause-works c = works_above

pub returns-clause-begins : goal.returns-clause-begins
returns-clause-begins c = begins_above

pub returns-clause-never_falls : goal.returns-clause-never_falls
returns-clause-never_falls c = floor_never_falls
