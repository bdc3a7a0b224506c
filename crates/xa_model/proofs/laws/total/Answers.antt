use Rattle.xa_model.proofs.Totals.{step_is_total, nothing_is_stuck, nobody_answers, restarts_look, openings_look}
use Rattle.xa_model.proofs.laws.total.Goals as goal

pub returns-clause-step : goal.returns-clause-step
returns-clause-step c = λ s h outcome. step_is_total s h outcome

pub returns-clause-some : goal.returns-clause-some
returns-clause-some c = λ s h other. nothing_is_stuck s h other

pub returns-clause-over : goal.returns-clause-over
returns-clause-over c = λ s h outcome over. nobody_answers s h outcome over

pub returns-clause-restart : goal.returns-clause-restart
returns-clause-restart c = λ s k x. restarts_look s k x

pub returns-clause-opening : goal.returns-clause-opening
returns-clause-opening c = λ s name log_bytes k x. openings_look s name log_bytes k x
