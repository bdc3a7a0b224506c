use Rattle.std.proofs.Common.{◌≡◌, ◌<◌, ◌≤◌, ℕ, length}
use Rattle.slab.specs.Slab.{get}
use Rattle.xa_reactor.specs.Believed.Tending.{sessions_of}
use Rattle.xa_reactor.specs.Cuts.{left_by}
use Rattle.xa_reactor.specs.ForAll.{TendsForAll}
use Rattle.xa_reactor.proofs.cutting.cut_peers.Given as goal

abbrev pub invariant-loop-key : goal.invariant-loop-key
invariant-loop-key g l = record {
  tends : TendsForAll g.D.Reception.connected g.D.Door.called g.D.Door.left (sessions_of l.initial.peers.all) l.initial.door (sessions_of l.peers.all) l.door;
  left : (key : ℕ) → key < l.key → get l.peers.all key ≡ left_by l.fn.cut (get l.initial.peers.all key);
  rest : (key : ℕ) → l.key ≤ key → get l.peers.all key ≡ get l.initial.peers.all key;
  turns : (l.peers.queue ≡ l.initial.peers.queue) × (l.peers.orders ≡ l.initial.peers.orders);
}
