use Rattle.xa_control.proofs.Spelled.{one_control}
use Rattle.xa_control.proofs.laws.one_control.Goals as goal

pub returns-clause-spelling : goal.returns-clause-spelling
returns-clause-spelling c = one_control
