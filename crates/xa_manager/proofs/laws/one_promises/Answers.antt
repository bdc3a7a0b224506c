use Rattle.xa_manager.proofs.Promised as promised
use Rattle.xa_manager.proofs.laws.one_promises.Goals as goal

pub returns : goal.returns
returns g c = promised.one_promises g.D.Disk
