use Rattle.xa_reactor.specs.Believed.Tending.{sessions_of}
use Rattle.xa_reactor.specs.ForAll.{TendsForAll}
use Rattle.xa_reactor.proofs.tools.give_each.Given as goal

abbrev pub invariant-loop : goal.invariant-loop
invariant-loop g l =
    TendsForAll g.D.Reception.connected g.D.Door.called g.D.Door.left (sessions_of l.initial.peers.all) l.initial.door (sessions_of l.peers.all) l.door
