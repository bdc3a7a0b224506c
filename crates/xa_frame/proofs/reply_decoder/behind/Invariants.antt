use Rattle.std.proofs.Common.{◌≡◌, ◌-◌}
use Rattle.xa_frame.specs.Reading.{rest_of, each_at}
use Rattle.xa_frame.proofs.reply_decoder.behind.Given as goal

abbrev pub invariant-loop : goal.invariant-loop
invariant-loop g l = rest_of (each_at g.T.Listed.at (l.count - l.counter) l.rest) ≡ rest_of (each_at g.T.Listed.at l.count l.bytes)
