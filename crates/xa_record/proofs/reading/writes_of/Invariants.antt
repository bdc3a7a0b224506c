use Rattle.std.proofs.Common.{◌≡◌, ◌-◌, ◌++◌, [], option_map}
use Rattle.xa_record.specs.Reading.{writes_at}
use Rattle.xa_record.proofs.reading.writes_of.Given as goal

abbrev pub invariant-loop : goal.invariant-loop
invariant-loop l = option_map (λ ws. l.writes.items ++ ws) (writes_at (l.count - l.counter) l.previous l.rest) ≡ writes_at l.count [] l.bytes
