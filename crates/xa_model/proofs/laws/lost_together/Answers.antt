use Rattle.xa_model.proofs.AppliedAll.{supposed_first, supposed_next, finds_first}
use Rattle.xa_model.proofs.Further.{joins_last, joins_each, turns_up, turns_alone}
use Rattle.xa_model.proofs.Grouped.{groups_share}
use Rattle.xa_model.proofs.laws.lost_together.Goals as goal

pub returns-clause-lasts : goal.returns-clause-lasts
returns-clause-lasts c = joins_last

pub returns-clause-each : goal.returns-clause-each
returns-clause-each c = joins_each

pub returns-clause-first : goal.returns-clause-first
returns-clause-first c = supposed_first

pub returns-clause-next : goal.returns-clause-next
returns-clause-next c = supposed_next

pub returns-clause-up : goal.returns-clause-up
returns-clause-up c = turns_up

pub returns-clause-alone : goal.returns-clause-alone
returns-clause-alone c = turns_alone

pub returns-clause-finds : goal.returns-clause-finds
returns-clause-finds c = finds_first

pub returns-clause-share : goal.returns-clause-share
returns-clause-share c = groups_share
