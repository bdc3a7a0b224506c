use Rattle.xa_model.proofs.WorkedGroups.{group_kept, group_refused, completions_refused, group_lost, group_cut, commit_with_prepare, refused_while_down, fates_of_group, what_joins, none_joins_boot, group_leaves, group_reopened, lost_promises, judged_together, which_join}
use Rattle.xa_model.proofs.examples.worked_groups.Goals as goal

pub returns-clause-kept : goal.returns-clause-kept
returns-clause-kept c = group_kept

pub returns-clause-refused : goal.returns-clause-refused
returns-clause-refused c = group_refused

pub returns-clause-completions : goal.returns-clause-completions
returns-clause-completions c = completions_refused

pub returns-clause-lost : goal.returns-clause-lost
returns-clause-lost c = group_lost

pub returns-clause-cut : goal.returns-clause-cut
returns-clause-cut c = group_cut

pub returns-clause-commit : goal.returns-clause-commit
returns-clause-commit c = commit_with_prepare

pub returns-clause-down : goal.returns-clause-down
returns-clause-down c = refused_while_down

pub returns-clause-fates : goal.returns-clause-fates
returns-clause-fates c = fates_of_group

pub returns-clause-joins : goal.returns-clause-joins
returns-clause-joins c = what_joins

pub returns-clause-boot : goal.returns-clause-boot
returns-clause-boot c = none_joins_boot

pub returns-clause-leaves : goal.returns-clause-leaves
returns-clause-leaves c = group_leaves

pub returns-clause-opening : goal.returns-clause-opening
returns-clause-opening c = group_reopened

pub returns-clause-promises : goal.returns-clause-promises
returns-clause-promises c = lost_promises

pub returns-clause-room : goal.returns-clause-room
returns-clause-room c = judged_together

pub returns-clause-which : goal.returns-clause-which
returns-clause-which c = which_join
