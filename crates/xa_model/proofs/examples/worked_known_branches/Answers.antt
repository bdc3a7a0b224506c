use Rattle.std.proofs.Common.{refl}
use Rattle.xa_model.proofs.examples.worked_known_branches.Goals as goal

pub returns-clause-holders : goal.returns-clause-holders
returns-clause-holders c = refl

pub returns-clause-in_order : goal.returns-clause-in_order
returns-clause-in_order c = refl

pub returns-clause-lasting : goal.returns-clause-lasting
returns-clause-lasting c = refl

pub returns-clause-nothing : goal.returns-clause-nothing
returns-clause-nothing c = (refl, refl, refl, refl, refl)
