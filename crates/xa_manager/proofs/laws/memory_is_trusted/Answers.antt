use Rattle.xa_log.proofs.Chance.{no_chance_in_memory}
use Rattle.xa_log.proofs.Pair.{calm_in_memory}
use Rattle.xa_log.proofs.Parts.{seal_in_memory}
use Rattle.xa_manager.proofs.laws.memory_is_trusted.Goals as goal

pub returns : goal.returns
returns c = record { disk = tt; appends = no_chance_in_memory; headers = calm_in_memory; seals = seal_in_memory }
