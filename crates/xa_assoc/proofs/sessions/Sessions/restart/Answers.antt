use Rattle.xa_assoc.proofs.Clearing.{cleared_follows}
use Rattle.xa_assoc.proofs.sessions.Sessions.restart.Goals as goal

pub returns-clause-any : goal.returns-clause-any
returns-clause-any c = λ s t sessions none st. cleared_follows c.args.self.now c.clear_seats.new.self s t c.clear_seats.ensures sessions none st
