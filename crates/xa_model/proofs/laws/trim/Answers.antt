use Rattle.xa_model.proofs.TrimLaws.{trim_goes_on, trim_lists}
use Rattle.xa_model.proofs.laws.trim.Goals as goal

pub returns-clause-goes_on : goal.returns-clause-goes_on
returns-clause-goes_on c = trim_goes_on

pub returns-clause-lists : goal.returns-clause-lists
returns-clause-lists c = trim_lists
