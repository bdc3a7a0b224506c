use Rattle.xa_check.proofs.Opening.{current_law, whole_law}
use Rattle.xa_check.proofs.laws.told_as_opened.Goals as goal

pub returns-clause-current : goal.returns-clause-current
returns-clause-current c = current_law

pub returns-clause-whole : goal.returns-clause-whole
returns-clause-whole c = whole_law
