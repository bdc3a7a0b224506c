use Rattle.xa_manager.proofs.CrashFiles as files
use Rattle.xa_manager.proofs.laws.read_leaves.Goals as goal

pub returns : goal.returns
returns g c = files.read_leaves g.D.Disk
