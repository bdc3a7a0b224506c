use Rattle.xa_log.proofs.Pair.{calm_in_memory}
use Rattle.xa_log.proofs.Parts.{seal_in_memory}
use Rattle.xa_log.proofs.laws.memory_without_chance_beside.Goals as goal

pub returns-clause-header : goal.returns-clause-header
returns-clause-header c = calm_in_memory

pub returns-clause-seal : goal.returns-clause-seal
returns-clause-seal c = seal_in_memory
