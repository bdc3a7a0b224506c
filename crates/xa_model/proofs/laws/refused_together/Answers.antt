use Rattle.xa_model.proofs.RefusedSteps.{refused_alone, refused_together, refused_no_other, tells_of_one}
use Rattle.xa_model.proofs.laws.refused_together.Goals as goal

pub returns-clause-alone : goal.returns-clause-alone
returns-clause-alone c = refused_alone

pub returns-clause-group : goal.returns-clause-group
returns-clause-group c = refused_together

pub returns-clause-no_other : goal.returns-clause-no_other
returns-clause-no_other c = refused_no_other

pub returns-clause-one : goal.returns-clause-one
returns-clause-one c = tells_of_one
