use Rattle.xa_log.proofs.Which.{behind_law, pair_law, append_law, header_law}
use Rattle.xa_log.proofs.laws.pair_is_current.Goals as goal

pub returns : goal.returns
returns c = record { behind = behind_law; other = pair_law; appended = append_law; unsealed = header_law }
