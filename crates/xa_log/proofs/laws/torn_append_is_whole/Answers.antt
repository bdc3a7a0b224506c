use Rattle.xa_log.proofs.Mixed.{mixed_law}
use Rattle.xa_log.proofs.Short.{tail_law}
use Rattle.xa_log.proofs.laws.torn_append_is_whole.Goals as goal

pub returns : goal.returns
returns c = record { snapshot = mixed_law; tail = tail_law }
