use Rattle.xa_manager.proofs.PlannedLogs as managed
use Rattle.xa_manager.proofs.laws.read_stands.Goals as goal

pub returns : goal.returns
returns g c = managed.read_stands g.D.Disk
