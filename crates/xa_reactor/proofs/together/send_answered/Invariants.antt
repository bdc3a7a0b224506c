use Rattle.std.specs.Prelude.{◌≡◌, ◌+◌, ◌≤◌, All, length}
use Rattle.std.specs.Vec.{vec_capacity, vec_len}
use Rattle.std.specs.Vec.Iter.{drain_items}
use Rattle.std.specs.VecDeque.{deque_len}
use Rattle.xa_reactor.specs.Asking.{IsLeft, IsLent}
use Rattle.xa_reactor.specs.Believed.Tending.{sessions_of}
use Rattle.xa_reactor.specs.Together.{HasKept}
use Rattle.xa_reactor.proofs.together.send_answered.Given as goal

abbrev pub invariant-loop-ask : goal.invariant-loop-ask
invariant-loop-ask g l = record {
  asks : All (IsLeft (sessions_of l.peers.all)) (drain_items l.ask-iterator);
  lent : All (IsLent (sessions_of l.peers.all)) l.left.items;
  count : vec_len l.over + vec_len l.left + length (drain_items l.ask-iterator) + deque_len l.peers.queue
      ≡ vec_len l.fn.over + vec_len l.fn.left + vec_len l.fn.asks + deque_len l.fn.peers.queue;
  more : (vec_len l.fn.over ≤ vec_len l.over) × (vec_len l.fn.left ≤ vec_len l.left) × (deque_len l.fn.peers.queue ≤ deque_len l.peers.queue);
  capacity : (vec_capacity l.over ≡ vec_capacity l.fn.over) × (vec_capacity l.left ≡ vec_capacity l.fn.left);
  same : sessions_of l.peers.all ≡ sessions_of l.fn.peers.all;
  kept : HasKept l.fn.peers l.fn.over.items l.peers l.over.items;
}
