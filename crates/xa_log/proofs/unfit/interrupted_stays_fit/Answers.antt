use Rattle.xa_log.proofs.Fits.{stays_second, stays_first}
use Rattle.xa_log.proofs.unfit.interrupted_stays_fit.Goals as goal

pub returns : goal.returns
returns c = record { to_second = stays_second; to_first = stays_first }
