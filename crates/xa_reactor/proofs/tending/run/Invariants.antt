use Rattle.xa_reactor.specs.Believed.Tending.{TendsPosting, sessions_of}
use Rattle.xa_reactor.specs.Users.{users_of}
use Rattle.xa_reactor.proofs.tending.run.Given as goal

abbrev pub invariant-loop : goal.invariant-loop
invariant-loop g l = record {
  tends : TendsPosting g.D.Reception.posts (users_of l.fn.common) g.D.Reception.connected g.D.Door.called g.D.Door.left (sessions_of l.initial.peers.all) l.initial.door (sessions_of l.peers.all) l.door;
  settled : g.D.Reception.is_settled l.initial.door → g.D.Reception.is_settled l.door;
}
