use Rattle.std.proofs.Common.{rules}
use Rattle.xa_assoc.proofs.sessions.Sessions.take_seat.Goals as goal

pub returns-then-session-clause-seat : goal.returns-then-session-clause-seat
returns-then-session-clause-seat c = search rules
