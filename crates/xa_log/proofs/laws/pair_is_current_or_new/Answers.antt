use Rattle.xa_log.proofs.Which.{seal_law}
use Rattle.xa_log.proofs.laws.pair_is_current_or_new.Goals as goal

pub returns : goal.returns
returns c = seal_law
