use Rattle.xa_recovery.proofs.Boots.{begins_with_boot}
use Rattle.xa_recovery.proofs.laws.begins_with_boot.Goals as goal

pub returns : goal.returns
returns c = begins_with_boot
