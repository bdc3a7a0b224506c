use Rattle.std.proofs.Common.{rules}
use Rattle.xa_assoc.proofs.sessions.Sessions.holds_any.Goals as goal

pub returns-in-Some : goal.returns-in-Some
returns-in-Some c = search rules
