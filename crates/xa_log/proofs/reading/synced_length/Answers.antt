use Rattle.std.proofs.Common.{rules}
use Rattle.xa_log.proofs.reading.synced_length.Goals as goal

pub returns-clause-durable : goal.returns-clause-durable
returns-clause-durable g c = search rules

pub returns-clause-calls : goal.returns-clause-calls
returns-clause-calls g c = search rules

pub returns-clause-count : goal.returns-clause-count
returns-clause-count g c = search rules
