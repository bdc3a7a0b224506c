use Rattle.xa_log.proofs.Chance.{no_chance_in_memory}
use Rattle.xa_log.proofs.laws.memory_without_chance.Goals as goal

pub returns : goal.returns
returns c = no_chance_in_memory
