use Rattle.std.proofs.Common.{rules}
use Rattle.xa_assoc.specs.Company.{company_of}
use Rattle.xa_assoc.proofs.sessions.Sessions.add_seat.Goals as goal

pub returns-in_err-insert-clause-same : goal.returns-in_err-insert-clause-same
unfolding company_of
returns-in_err-insert-clause-same c = search rules
