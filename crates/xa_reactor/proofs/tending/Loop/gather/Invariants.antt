use Rattle.xa_reactor.specs.Believed.Tending.{sessions_of}
use Rattle.xa_reactor.specs.Together.{HasLent}
use Rattle.xa_reactor.specs.ForAll.{PostsForAll}
use Rattle.xa_reactor.proofs.tending.Loop.gather.Given as goal

abbrev pub invariant-loop-looks : goal.invariant-loop-looks
invariant-loop-looks g l = record {
  tends : PostsForAll g.D.Reception.connected g.D.Door.called g.D.Door.left g.D.Reception.posts (sessions_of l.initial.peers.all) l.initial.door (sessions_of l.peers.all) l.door;
  lent : HasLent (sessions_of l.peers.all) l.self.tools.together;
}
