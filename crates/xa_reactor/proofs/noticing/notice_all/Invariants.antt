use Rattle.std.specs.Prelude.{◌≡◌, ◌||◌}
use Rattle.std.specs.Slice.Iter.{iter_rest}
use Rattle.mio.specs.Events.{items}
use Rattle.xa_reactor.specs.Believed.Tending.{sessions_of}
use Rattle.xa_reactor.specs.Peers.{NoticesAll, tells_of}
use Rattle.xa_reactor.specs.declared.noticing.TheConstants.{LISTENER}
use Rattle.xa_reactor.specs.declared.peers.Peers.{Peers}
use Rattle.xa_reactor.specs.ForAll.{TendsForAll}
use Rattle.xa_reactor.proofs.noticing.notice_all.Given as goal

abbrev pub invariant-loop-event : goal.invariant-loop-event
invariant-loop-event g l = record {
  tends : TendsForAll g.D.Reception.connected g.D.Door.called g.D.Door.left (sessions_of l.initial.peers.all) l.initial.door (sessions_of l.peers.all) l.door;
  noticed : (final : Peers) → NoticesAll l.peers (iter_rest l.event-iterator) final → NoticesAll l.fn.peers (items l.fn.events) final;
  accepts : (l.accepts || tells_of LISTENER (iter_rest l.event-iterator)) ≡ tells_of LISTENER (items l.fn.events);
}
