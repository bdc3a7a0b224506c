use Rattle.xa_manager.proofs.Reserved.{none_reserved}
use Rattle.xa_manager.proofs.restarting.reserve_next.Goals as goal

pub returns-in-None-clause-ok : goal.returns-in-None-clause-ok
returns-in-None-clause-ok g c = none_reserved _ c.args.log.now
