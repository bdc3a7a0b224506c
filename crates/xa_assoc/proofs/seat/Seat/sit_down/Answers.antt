use Rattle.std.proofs.Common.{rules}
use Rattle.xa_assoc.proofs.seat.Seat.sit_down.Goals as goal

pub returns-clause-own : goal.returns-clause-own
returns-clause-own c = search rules
