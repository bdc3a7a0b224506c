use Rattle.std.proofs.Common.{◌≡◌, ◌<◌, ◌≤◌, ℕ}
use Rattle.slab.specs.Slab.{get}
use Rattle.xa_reactor.specs.Believed.Tending.{sessions_of}
use Rattle.xa_reactor.specs.Since.{IsLooked}
use Rattle.xa_reactor.specs.ForAll.{TendsForAll}
use Rattle.xa_reactor.proofs.peers.Peers.end_overdue.Given as goal

abbrev pub invariant-loop-key : goal.invariant-loop-key
invariant-loop-key g l = record {
  tends : TendsForAll g.D.Reception.connected g.D.Door.called g.D.Door.left (sessions_of l.initial.self.all) l.initial.door (sessions_of l.self.all) l.door;
  looked : (key : ℕ) → key < l.key → IsLooked g.D.Reception.ties l.fn.settings l.fn.now (get l.initial.self.all key) (get l.self.all key);
  rest : (key : ℕ) → l.key ≤ key → get l.self.all key ≡ get l.initial.self.all key;
  turns : (l.self.queue ≡ l.initial.self.queue) × (l.self.orders ≡ l.initial.self.orders);
}
