use Rattle.std.proofs.Common.{◌≡◌, ◌<◌, ℕ, None, length}
use Rattle.slab.specs.Slab.{get}
use Rattle.xa_reactor.specs.Believed.Tending.{sessions_of}
use Rattle.xa_reactor.specs.ForAll.{TendsForAll}
use Rattle.xa_reactor.proofs.peers.Peers.end_all.Given as goal

abbrev pub invariant-loop-key : goal.invariant-loop-key
invariant-loop-key g l = record {
  tends : TendsForAll g.D.Reception.connected g.D.Door.called g.D.Door.left (sessions_of l.initial.self.all) l.initial.door (sessions_of l.self.all) l.door;
  none : (key : ℕ) → key < l.key → get l.self.all key ≡ None;
  slots : length l.self.all.slots ≡ length l.initial.self.all.slots;
}
