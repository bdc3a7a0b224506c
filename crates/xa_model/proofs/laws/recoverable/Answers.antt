use Rattle.xa_model.proofs.Recoveries.{keeps_recoverable, always_recoverable}
use Rattle.xa_model.proofs.laws.recoverable.Goals as goal

pub returns-clause-step : goal.returns-clause-step
returns-clause-step c = keeps_recoverable

pub returns-clause-history : goal.returns-clause-history
returns-clause-history c = always_recoverable
