-- What an audited server tells.
use Rattle.std.specs.Prelude.{ℕ, ◌≡◌, List, Option, Result, is_ok}
use Rattle.xa_disk.specs.declared.disk.Disk as disk
use Rattle.xa_manager.specs.declared.manager.Manager.{Manager}
use Rattle.xa_manager.specs.Believed.Opening.{HasBegun}
use Rattle.xa_model.specs.State.{State}
use Rattle.xa_history.specs.Believed.Manages.{Behaviour}
use Rattle.xa_history.specs.declared.receipt.Receipt.{Receipt}
use Rattle.xa_room.specs.declared.auditing.AuditFault.{AuditFault}
use Rattle.xa_room.specs.Believed.Audit.{Audits}
use Rattle.xa_room.specs.Believed.Recorded.{Recorded, recorded}
use Rattle.xa_sequencer.specs.Believed.GroupManager.{GroupManager, alone, manages_of}
use Rattle.xa_server.specs.Believed.Loops.{ServesByLoops}
use Rattle.xa_server.specs.Believed.Serves.{KeepsServed}
use Rattle.xa_server.specs.declared.audited.Audited.{Audited}
use Rattle.xa_server.specs.declared.report.Report.{Report}
use Rattle.xa_server.specs.declared.workers.Worked.{Worked}
use Rattle.xa_users.specs.declared.users.Users.{Users}

-- By what a room kept, and how much it lost: whether the audit of the loops' receipts found no fault, how many they dropped, and
-- the history.
pub record Tells {M : Type 0} (room : Recorded M) (calls : ℕ) (report : Report) (told : Audited)
    (history : List Receipt) : Type 0 where
  pub calls_are : told.calls ≡ calls
  pub dropped_are : told.dropped ≡ report.dropped
  pub answer : Result (Unit {0}) AuditFault
  pub audits : Audits room.kept room.lost report.receipts.items report.dropped answer
  pub found : told.is_whole ≡ is_ok answer
  -- the history is what the room kept
  pub history_is : history ≡ room.kept

-- Loops served the sessions of a room over the manager, with all that they keep of any manager. The room's receipts, unless it
-- lost one, are those of a legal history to each state that it stands for; with these the audit compared what the loops were
-- told.
pub record ServesAudited {M : Type 0} (m : Behaviour (GroupManager M)) (start : State → Type 0) (base : ℕ × ℕ) (users : Option Users)
    (workers : ℕ) (done : Worked) : Type 0 where
  pub serves : ServesByLoops (recorded m start) start base users workers done.looped
  pub tells : Tells serves.now.manager done.looped.calls done.report done.audited done.history.items

-- ---- law

-- what was served with an audit of a manager that was opened keeps what is promised of it
abbrev pub AuditedPromises : {D : Type 0} → disk.Ghosts D → Type 0
AuditedPromises {D} disks =
    (manager : Manager D) (bodies : List (List ℕ)) (name : List ℕ) (log_bytes : ℕ)
    → HasBegun disks bodies name log_bytes manager
    → (base : ℕ × ℕ) (users : Option Users) (workers : ℕ) (done : Worked)
    → ServesAudited (manages_of disks) ((manages_of disks).stands (alone manager)) base users workers done
    → KeepsServed (manages_of disks) (alone manager) done.looped.calls
