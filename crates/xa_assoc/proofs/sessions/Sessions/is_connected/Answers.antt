use Rattle.std.proofs.Common.{rules}
use Rattle.xa_assoc.specs.Company.{company_of}
use Rattle.xa_assoc.proofs.sessions.Sessions.is_connected.Goals as goal

pub returns-clause-company : goal.returns-clause-company
unfolding company_of
returns-clause-company c = search rules
