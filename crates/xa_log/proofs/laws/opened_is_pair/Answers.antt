use Rattle.xa_log.proofs.Opens.{opened_law}
use Rattle.xa_log.proofs.laws.opened_is_pair.Goals as goal

pub returns : goal.returns
returns g c = opened_law g.D.Disk
