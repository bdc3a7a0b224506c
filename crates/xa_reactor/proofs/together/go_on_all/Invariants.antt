use Rattle.std.specs.Vec.Iter.{drain_items}
use Rattle.xa_reactor.specs.Believed.Tending.{sessions_of}
use Rattle.xa_reactor.specs.Together.{GoesOnAll}
use Rattle.xa_reactor.specs.declared.peers.Peers.{Peers}
use Rattle.xa_reactor.specs.ForAll.{TendsForAll}
use Rattle.xa_reactor.proofs.together.go_on_all.Given as goal

abbrev pub invariant-loop-key : goal.invariant-loop-key
invariant-loop-key g l = record {
  goes : (final : Peers) → GoesOnAll l.peers (drain_items l.key-iterator) final → GoesOnAll l.fn.peers l.fn.over.items final;
  tends : TendsForAll g.D.Reception.connected g.D.Door.called g.D.Door.left (sessions_of l.fn.peers.all) l.fn.door (sessions_of l.peers.all) l.door;
}
