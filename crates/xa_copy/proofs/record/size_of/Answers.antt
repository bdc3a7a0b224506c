use Rattle.std.proofs.Common.{rules}
use Rattle.xa_log.specs.Believed.Chain.{size_at}
use Rattle.xa_copy.proofs.record.size_of.Goals as goal

pub returns-clause-value : goal.returns-clause-value
unfolding size_at
returns-clause-value c = search rules
