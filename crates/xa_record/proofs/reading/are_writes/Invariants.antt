use Rattle.std.proofs.Common.{◌≡◌, ◌-◌, [], is_some}
use Rattle.xa_record.specs.Reading.{writes_at}
use Rattle.xa_record.proofs.reading.are_writes.Given as goal

abbrev pub invariant-loop : goal.invariant-loop
invariant-loop l = is_some (writes_at (l.count - l.counter) l.previous l.rest) ≡ is_some (writes_at l.count [] l.bytes)
