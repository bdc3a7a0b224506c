use Rattle.std.proofs.Common.{refl}
use Rattle.xa_model.proofs.examples.worked_versions.Goals as goal

pub returns-clause-late_write : goal.returns-clause-late_write
returns-clause-late_write c = refl

pub returns-clause-late_delete : goal.returns-clause-late_delete
returns-clause-late_delete c = refl

pub returns-clause-blind_write : goal.returns-clause-blind_write
returns-clause-blind_write c = refl

pub returns-clause-busy_below : goal.returns-clause-busy_below
returns-clause-busy_below c = refl

pub returns-clause-busy_in_doubt : goal.returns-clause-busy_in_doubt
returns-clause-busy_in_doubt c = refl

pub returns-clause-shared_branch : goal.returns-clause-shared_branch
returns-clause-shared_branch c = refl

pub returns-clause-not_busy_above : goal.returns-clause-not_busy_above
returns-clause-not_busy_above c = refl

pub returns-clause-deleted : goal.returns-clause-deleted
returns-clause-deleted c = refl

pub returns-clause-deleted_afterwards : goal.returns-clause-deleted_afterwards
returns-clause-deleted_afterwards c = refl

pub returns-clause-read_over : goal.returns-clause-read_over
returns-clause-read_over c = refl
