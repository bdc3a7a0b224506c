use Rattle.xa_manager.proofs.PlannedLogs.{planned_stays}
use Rattle.xa_manager.proofs.planning.Manager+MemDisk.stop.Goals as goal

pub returns-clause-stays : goal.returns-clause-stays
returns-clause-stays c = planned_stays _ c.args.self.now _ c.stop.ensures.untouched c.stop.ensures.state
