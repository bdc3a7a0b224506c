use Rattle.std.proofs.Common.{rules}
use Rattle.xa_log.proofs.appending.put_synced.Goals as goal

pub returns-clause-durable : goal.returns-clause-durable
returns-clause-durable g c = search rules

pub returns-clause-calls : goal.returns-clause-calls
returns-clause-calls g c = search rules
