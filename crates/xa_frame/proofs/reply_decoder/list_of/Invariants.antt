use Rattle.std.proofs.Common.{◌≡◌, ◌-◌}
use Rattle.xa_frame.specs.Reading.{value_of_first, each_at}
use Rattle.xa_frame.proofs.Loop.{with_front}
use Rattle.xa_frame.proofs.reply_decoder.list_of.Given as goal

abbrev pub invariant-loop : goal.invariant-loop
invariant-loop g l = value_of_first (with_front l.list.items (each_at g.T.Listed.at (l.count - l.counter) l.rest)) ≡ value_of_first (each_at g.T.Listed.at l.count l.bytes)
