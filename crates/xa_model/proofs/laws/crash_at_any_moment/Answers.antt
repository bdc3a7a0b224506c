use Rattle.xa_model.proofs.Crashes.{lost_fits, lost_fates_are}
use Rattle.xa_model.proofs.LeftMeanwhile.{leaves_before, leaves_behind, leaves_appended, leaves_group, leaves_no_more, leaves_exactly, leaves_found, finds_left, leaves_one_more}
use Rattle.xa_model.proofs.laws.crash_at_any_moment.Goals as goal

pub returns-clause-fits : goal.returns-clause-fits
returns-clause-fits c = lost_fits

pub returns-clause-lost : goal.returns-clause-lost
returns-clause-lost c = lost_fates_are

pub returns-clause-before : goal.returns-clause-before
returns-clause-before c = leaves_before

pub returns-clause-behind : goal.returns-clause-behind
returns-clause-behind c = leaves_behind

pub returns-clause-appended : goal.returns-clause-appended
returns-clause-appended c = leaves_appended

pub returns-clause-no_more : goal.returns-clause-no_more
returns-clause-no_more c = leaves_no_more

pub returns-clause-exactly : goal.returns-clause-exactly
returns-clause-exactly c = leaves_exactly

pub returns-clause-found : goal.returns-clause-found
returns-clause-found c = leaves_found

pub returns-clause-finds : goal.returns-clause-finds
returns-clause-finds c = finds_left

pub returns-clause-one_more : goal.returns-clause-one_more
returns-clause-one_more c = leaves_one_more

pub returns-clause-group : goal.returns-clause-group
returns-clause-group c = leaves_group
