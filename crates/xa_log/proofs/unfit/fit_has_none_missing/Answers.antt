use Rattle.xa_log.proofs.Absent.{missing_law}
use Rattle.xa_log.proofs.unfit.fit_has_none_missing.Goals as goal

pub returns : goal.returns
returns c = missing_law
