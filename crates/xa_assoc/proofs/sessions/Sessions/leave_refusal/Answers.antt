use Rattle.std.proofs.Common.{rules}
use Rattle.xa_assoc.proofs.sessions.Sessions.leave_refusal.Goals as goal

pub returns-clause-value : goal.returns-clause-value
returns-clause-value c = search rules
