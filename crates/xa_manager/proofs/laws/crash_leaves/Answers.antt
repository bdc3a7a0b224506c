use Rattle.xa_manager.proofs.CrashFiles as files
use Rattle.xa_manager.proofs.laws.crash_leaves.Goals as goal

pub returns : goal.returns
returns g c = files.crash_leaves g.D.Disk
