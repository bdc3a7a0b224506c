use Rattle.xa_manager.proofs.PlannedLogs.{planned_stays}
use Rattle.xa_manager.proofs.planning.Manager+MemDisk.stop_other.Goals as goal

pub returns-clause-stays : goal.returns-clause-stays
returns-clause-stays c = planned_stays _ c.args.self.now _ c.stop_other.ensures.untouched c.stop_other.ensures.state
