use Rattle.xa_log.proofs.Which.{stray_law}
use Rattle.xa_log.proofs.laws.stray_is_possible.Goals as goal

pub returns : goal.returns
returns c = stray_law
