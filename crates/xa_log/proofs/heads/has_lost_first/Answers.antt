use Rattle.std.proofs.Common.{subst}
use Rattle.xa_log.specs.Looking.{IsHead}
use Rattle.xa_log.proofs.First.{none_headless}
use Rattle.xa_log.proofs.heads.has_lost_first.Goals as goal

pub returns-in-None : goal.returns-in-None
returns-in-None c = λ file window head. none_headless file (subst (λ o. IsHead file window o) c.in-None.is head)
