use Rattle.std.proofs.Common.{rules}
use Rattle.xa_desk.proofs.connection.is_too_long.Goals as goal

pub returns-clause-fits : goal.returns-clause-fits
returns-clause-fits c = search rules
