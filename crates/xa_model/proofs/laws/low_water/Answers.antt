use Rattle.xa_model.proofs.LowWaters.{below_known, is_reached, below_next, never_falls}
use Rattle.xa_model.proofs.laws.low_water.Goals as goal

pub returns-clause-known : goal.returns-clause-known
returns-clause-known c = below_known

pub returns-clause-reached : goal.returns-clause-reached
returns-clause-reached c = is_reached

pub returns-clause-next : goal.returns-clause-next
returns-clause-next c = below_next

pub returns-clause-never_falls : goal.returns-clause-never_falls
returns-clause-never_falls c = never_falls
