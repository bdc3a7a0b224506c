use Rattle.std.specs.Prelude.{◌≡◌, ◌||◌, length}
use Rattle.std.specs.Slice.Iter.{iter_rest}
use Rattle.mio.specs.Events.{items}
use Rattle.xa_reactor.specs.Peers.{HasRoom, NoticesAll, tells_of}
use Rattle.xa_reactor.specs.Believed.Tending.{sessions_of}
use Rattle.xa_reactor.specs.declared.noticing.TheConstants.{LISTENER}
use Rattle.xa_reactor.specs.declared.peers.Peers.{Peers}
use Rattle.xa_reactor.proofs.noticing.note_all.Given as goal

abbrev pub invariant-loop-event : goal.invariant-loop-event
invariant-loop-event l = record {
  room : HasRoom l.peers (length (iter_rest l.event-iterator));
  same : sessions_of l.peers.all ≡ sessions_of l.fn.peers.all;
  noticed : (final : Peers) → NoticesAll l.peers (iter_rest l.event-iterator) final → NoticesAll l.fn.peers (items l.fn.events) final;
  accepts : (l.accepts || tells_of LISTENER (iter_rest l.event-iterator)) ≡ tells_of LISTENER (items l.fn.events);
}
