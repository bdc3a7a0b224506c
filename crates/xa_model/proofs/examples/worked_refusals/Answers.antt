use Rattle.std.proofs.Common.{refl}
use Rattle.xa_model.proofs.examples.worked_refusals.Goals as goal

pub returns-clause-early : goal.returns-clause-early
returns-clause-early c = refl

pub returns-clause-down : goal.returns-clause-down
returns-clause-down c = refl

pub returns-clause-close : goal.returns-clause-close
returns-clause-close c = refl

pub returns-clause-start : goal.returns-clause-start
returns-clause-start c = refl

pub returns-clause-join : goal.returns-clause-join
returns-clause-join c = refl

pub returns-clause-resume : goal.returns-clause-resume
returns-clause-resume c = refl

pub returns-clause-suspend : goal.returns-clause-suspend
returns-clause-suspend c = refl

pub returns-clause-ends : goal.returns-clause-ends
returns-clause-ends c = refl

pub returns-clause-one_phase : goal.returns-clause-one_phase
returns-clause-one_phase c = refl

pub returns-clause-two_phase : goal.returns-clause-two_phase
returns-clause-two_phase c = refl

pub returns-clause-rollback : goal.returns-clause-rollback
returns-clause-rollback c = refl

pub returns-clause-prepare : goal.returns-clause-prepare
returns-clause-prepare c = refl

pub returns-clause-doom : goal.returns-clause-doom
returns-clause-doom c = refl

pub returns-clause-records : goal.returns-clause-records
returns-clause-records c = refl

pub returns-clause-not_connected : goal.returns-clause-not_connected
returns-clause-not_connected c = refl

pub returns-clause-not_opened : goal.returns-clause-not_opened
returns-clause-not_opened c = refl

pub returns-clause-flags : goal.returns-clause-flags
returns-clause-flags c = refl

pub returns-clause-counts : goal.returns-clause-counts
returns-clause-counts c = refl
