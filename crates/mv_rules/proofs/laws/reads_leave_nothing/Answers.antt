use Rattle.mv_rules.proofs.Noted.{leave_nothing, leave_all}
use Rattle.mv_rules.proofs.laws.reads_leave_nothing.Goals as goal

pub returns-clause-nothing : goal.returns-clause-nothing
returns-clause-nothing c = leave_nothing

pub returns-clause-all : goal.returns-clause-all
returns-clause-all c = leave_all
