use Rattle.xa_manager.proofs.Grouping.{HasGrown}
use Rattle.xa_manager.proofs.manager.Manager.gather.Given as goal

abbrev pub invariant-calls : goal.invariant-calls
invariant-calls g l = HasGrown g.D.Disk l.self l.calls l.prepares l.fn.together l.together
