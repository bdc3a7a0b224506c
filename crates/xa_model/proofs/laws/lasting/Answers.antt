use Rattle.xa_model.proofs.Folds.{fold_reads, one_more, first_fault}
use Rattle.xa_model.proofs.Snapshots.{snapshot_folds}
use Rattle.xa_model.proofs.LogSizes.{snapshot_is_short}
use Rattle.xa_model.proofs.Readings.{fold_is_durable}
use Rattle.xa_model.proofs.Written.{fold_is_by_key, snapshot_is_written}
use Rattle.xa_model.proofs.Keys.{last_writes_stay, one_value}
use Rattle.xa_model.proofs.LeavesForm.{leaves_durable}
use Rattle.xa_model.proofs.LastOfKeys.{writes_of_law}
use Rattle.xa_model.proofs.Tests.{takes_own_boot}
use Rattle.xa_model.proofs.laws.lasting.Goals as goal

pub returns-clause-reads : goal.returns-clause-reads
returns-clause-reads c = fold_reads

pub returns-clause-one_more : goal.returns-clause-one_more
returns-clause-one_more c = one_more

pub returns-clause-first_fault : goal.returns-clause-first_fault
returns-clause-first_fault c = first_fault

pub returns-clause-snapshot : goal.returns-clause-snapshot
returns-clause-snapshot c = snapshot_folds

pub returns-clause-short : goal.returns-clause-short
returns-clause-short c = snapshot_is_short

pub returns-clause-one_form : goal.returns-clause-one_form
returns-clause-one_form c = fold_is_durable

pub returns-clause-written : goal.returns-clause-written
returns-clause-written c = snapshot_is_written

pub returns-clause-by_key : goal.returns-clause-by_key
returns-clause-by_key c = fold_is_by_key

pub returns-clause-one_value : goal.returns-clause-one_value
returns-clause-one_value c = one_value

pub returns-clause-last_writes : goal.returns-clause-last_writes
returns-clause-last_writes c = last_writes_stay

pub returns-clause-leaves : goal.returns-clause-leaves
returns-clause-leaves c = leaves_durable

pub returns-clause-writes : goal.returns-clause-writes
returns-clause-writes c = writes_of_law

pub returns-clause-own_boot : goal.returns-clause-own_boot
returns-clause-own_boot c = takes_own_boot
