use Rattle.xa_manager.proofs.PendingCrash.{leaves_pending}
use Rattle.xa_manager.proofs.laws.pending_leaves.Goals as goal

pub returns : goal.returns
returns g c = λ log m f s is pends. leaves_pending g.D.Disk log m f s is pends
