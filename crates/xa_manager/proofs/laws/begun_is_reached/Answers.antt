use Rattle.xa_manager.proofs.Promised as promised
use Rattle.xa_manager.proofs.laws.begun_is_reached.Goals as goal

pub returns : goal.returns
returns g c = promised.begun_is_reached g.D.Disk
