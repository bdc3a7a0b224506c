-- What a manager stands for, by its tables and its log, and that planned faults change none of it.
use Rattle.std.proofs.Common.{Bool, true, false, ◌∙◌}
use Rattle.xa_disk.specs.declared.disk.Disk.{Ghosts}
use Rattle.xa_log.specs.Believed.LogStates.{KeepsAll}
use Rattle.xa_log.specs.Believed.Stands.{Untouched}
use Rattle.xa_log.specs.Believed.LogView.{LogView}
use Rattle.xa_model.specs.State.{State}
use Rattle.xa_model.specs.Invariants.Loggable.{IsRecoverable}
use Rattle.xa_manager.specs.declared.manager.Manager.{Manager}
use Rattle.xa_manager.specs.View.{View}
use Rattle.xa_manager.specs.Stands.{TablesStandFor}
use Rattle.xa_manager.specs.Managed.{view}
use Rattle.xa_manager.specs.Believed.Answered.{StaysFor}
use Rattle.xa_manager.specs.Believed.CrashLaws.{ReadStands}
use Rattle.xa_manager.proofs.CrashFiles.{read_leaves}
use Rattle.xa_manager.proofs.LogsBehind.{stands_kept, still_backed}

pub tables_recoverable : (up : Bool) (m : View) (s : State) → TablesStandFor up m s → IsRecoverable s
tables_recoverable true m s t = t.recoverable
tables_recoverable false m s t = t.recoverable

pub read_stands : {D : Type 0} (disks : Ghosts D)
    → ReadStands disks
read_stands disks m s t stands =
    let h = tables_recoverable m.up (view m) s stands.tables in (read_leaves disks m.log s t h (stands.log t), h)

-- a log whose disks' plans alone changed
pub planned_stays : {D : Type 0} (disks : Ghosts D) (m : Manager D) (log : LogView D) → Untouched m.log log → KeepsAll disks m.log log
    → StaysFor disks m (record m { log = log })
planned_stays disks m log u k s stands = record {
  tables = stands.tables;
  roomy = stands.roomy;
  end = λ up. u.end ∙ stands.end up;
  alive = λ up. u.lost ∙ stands.alive up;
  modern = λ up. u.format ∙ stands.modern up;
  log_bytes = u.log_bytes ∙ stands.log_bytes;
  doubt = stands.doubt;
  backed = λ up. still_backed m.log log s u.number (stands.backed up);
  log = λ trusts. stands_kept disks m.log log s k (stands.log trusts);
}
