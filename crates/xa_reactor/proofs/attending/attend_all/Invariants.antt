use Rattle.xa_reactor.specs.Believed.Tending.{Tends, sessions_of}
use Rattle.xa_reactor.specs.Users.{users_of}
use Rattle.xa_reactor.proofs.attending.attend_all.Given as goal

abbrev pub invariant-loop : goal.invariant-loop
invariant-loop g l =
    Tends (users_of l.fn.common) g.D.Reception.connected g.D.Door.called g.D.Door.left (sessions_of l.initial.peers.all) l.initial.door (sessions_of l.peers.all) l.door
