use Rattle.xa_model.proofs.LeftMeanwhile.{first_left, last_left, earlier_left, later_left, left_amid}
use Rattle.xa_model.proofs.laws.crash_in_history.Goals as goal

pub returns-clause-first : goal.returns-clause-first
returns-clause-first c = first_left

pub returns-clause-last : goal.returns-clause-last
returns-clause-last c = last_left

pub returns-clause-earlier : goal.returns-clause-earlier
returns-clause-earlier c = earlier_left

pub returns-clause-later : goal.returns-clause-later
returns-clause-later c = later_left

pub returns-clause-amid : goal.returns-clause-amid
returns-clause-amid c = left_amid
