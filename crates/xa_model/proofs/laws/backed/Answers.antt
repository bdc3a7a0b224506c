use Rattle.xa_model.proofs.LoggedOrder.{logged_in_order}
use Rattle.xa_model.proofs.Booted.{backs_found, settles_group}
use Rattle.xa_model.proofs.LogBehind.{keeps_backed}
use Rattle.xa_model.proofs.laws.backed.Goals as goal

pub returns-clause-order : goal.returns-clause-order
returns-clause-order c = logged_in_order

pub returns-clause-turn : goal.returns-clause-turn
returns-clause-turn c = keeps_backed

pub returns-clause-found : goal.returns-clause-found
returns-clause-found c = backs_found

pub returns-clause-group : goal.returns-clause-group
returns-clause-group c = settles_group
