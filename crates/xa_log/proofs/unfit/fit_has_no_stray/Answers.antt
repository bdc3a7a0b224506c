use Rattle.xa_log.proofs.Fits.{fit_law}
use Rattle.xa_log.proofs.unfit.fit_has_no_stray.Goals as goal

pub returns : goal.returns
returns c = fit_law
