use Rattle.xa_model.proofs.RisingMoments.{moments_rise, opens_at_zero}
use Rattle.xa_model.proofs.laws.moments.Goals as goal

pub returns-clause-rise : goal.returns-clause-rise
returns-clause-rise c = moments_rise

pub returns-clause-opening : goal.returns-clause-opening
returns-clause-opening c = opens_at_zero
