use Rattle.std.specs.Prelude.{ℕ, ◌≡◌, ◌+◌, ◌++◌, All, List, length}
use Rattle.std.specs.Vec.{vec_capacity, vec_len}
use Rattle.std.specs.Vec.Iter.{drain_items}
use Rattle.xa_reactor.specs.Asking.{IsAnswered}
use Rattle.xa_reactor.specs.Believed.Tending.{sessions_of}
use Rattle.xa_reactor.specs.declared.peer.Step.{Step}
use Rattle.xa_reactor.proofs.together.send_all.Given as goal

abbrev pub invariant-loop-ask : goal.invariant-loop-ask
invariant-loop-ask g l = record {
  answered : All IsAnswered (drain_items l.ask-iterator);
  count : vec_len l.over + length (drain_items l.ask-iterator) ≡ vec_len l.fn.over + vec_len l.fn.asks;
  capacity : vec_capacity l.over ≡ vec_capacity l.fn.over;
  same : sessions_of l.peers.all ≡ sessions_of l.fn.peers.all;
  over : (later : List (ℕ × Step)) × (l.over.items ≡ l.fn.over.items ++ later);
  turns : l.peers.queue ≡ l.fn.peers.queue;
}
