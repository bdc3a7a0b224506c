use Rattle.xa_branch.proofs.Returning.{restored_stand}
use Rattle.xa_branch.proofs.laws.restored_stand.Goals as goal

pub returns : goal.returns
returns c = restored_stand
