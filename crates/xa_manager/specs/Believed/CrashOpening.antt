-- What a crash at any moment of an opening leaves of two files that stand for a state.
use Rattle.std.specs.Prelude.{◌≡◌, ◌≢◌, ℕ, List, Some, Result, Ok, Err}
use Rattle.xa_disk.specs.declared.disk.Disk.{Ghosts}
use Rattle.xa_log.specs.Believed.TwoFiles.{NoStray, first_of, second_of}
use Rattle.xa_log.specs.Believed.LogView.{LogView}
use Rattle.xa_model.specs.declared.outcome.Appending.{Appending}
use Rattle.xa_model.specs.declared.outcome.Appending.TheVariants.{Kept}
use Rattle.xa_model.specs.declared.outcome.Outcome.TheVariants.{Reread}
use Rattle.xa_model.specs.Invariants.Loggable.{IsRecoverable}
use Rattle.xa_model.specs.Restarting.{reopen_turn}
use Rattle.xa_model.specs.State.{State}
use Rattle.xa_manager.specs.declared.fault.ManagerFault.{ManagerFault}
use Rattle.xa_manager.specs.declared.fault.ManagerFault.TheVariants as fault
use Rattle.xa_manager.specs.declared.manager.Manager.{Manager}
use Rattle.xa_manager.specs.declared.refused.RefusedOpening.{RefusedOpening}
use Rattle.xa_manager.specs.Believed.Crash.{LeavesBoot}
use Rattle.xa_manager.specs.Believed.Files.{FilesStandFor}
use Rattle.xa_manager.specs.Believed.LogStands.{Trusts}
use Rattle.xa_manager.specs.Believed.Parts.{log_of}
use Rattle.xa_manager.specs.Believed.Refused.{IsUnwritten}

-- A look leads from two disks to others: time passes, nothing is written, and a crash at a moment of it leaves of each
-- what one before it could have left. So if each of those stands for the state, each of these does.
pub record LooksOver {D : Type 0} (disks : Ghosts D) (log_bytes : ℕ) (first first' second second' : D)
    (s : State) : Type 0 where
  pub first_is : IsUnwritten disks first first'
  pub second_is : IsUnwritten disks second second'
  pub left : (a b : List ℕ) → disks.left_since first' (disks.moment first) a
      → disks.left_since second' (disks.moment second) b
      → disks.may_leave first a × disks.may_leave second b
  pub stands : ((a b : List ℕ) → disks.may_leave first a → disks.may_leave second b → FilesStandFor log_bytes a b s)
      → (a b : List ℕ) → disks.left_since first' (disks.moment first) a
      → disks.left_since second' (disks.moment second) b
      → FilesStandFor log_bytes a b s

-- An opening that came to write its snapshot, with what became of it. It has a log in the middle, and each of its
-- moments is in one of two phases: the look leads from the two disks to that log, and the checkpoint from there to the
-- log after it. Whatever became of it, a crash in the second one leaves files that stand for the state in which the
-- new boot's record is lost.
pub record LeavesReopening {D : Type 0} (disks : Ghosts D) (first second : D) (s : State) (name : List ℕ)
    (log_bytes : ℕ) (a : Appending) (after : LogView D) : Type 0 where
  pub log : LogView D
  pub survived : ℕ
  pub look : LooksOver disks log_bytes first (first_of log) second (second_of log) s
  pub boot : LeavesBoot disks log (reopen_turn s name log_bytes) (Reread survived (Some a)) after

-- What an opening that was refused leaves of the two disks that it gives back, by its fault: apart from a device call
-- that failed as the snapshot was written, it looked at most.
abbrev pub LeavesUnopened : {D : Type 0} → Ghosts D → D → D → State → List ℕ → ℕ → ManagerFault → D → D → Type 0
LeavesUnopened disks first second s name log_bytes fault.Setting first' second' = (first' ≡ first) × (second' ≡ second)
LeavesUnopened {D} disks first second s name log_bytes fault.Device first' second' =
    (a : Appending) × (after : LogView D) × (a ≢ Kept) × LeavesReopening disks first second s name log_bytes a after
    × (first' ≡ first_of after) × (second' ≡ second_of after)
LeavesUnopened disks first second s name log_bytes _ first' second' =
    LooksOver disks log_bytes first first' second second' s

abbrev pub LeavesOpening : {D : Type 0} → Ghosts D → D → D → State → List ℕ → ℕ
    → Result (Manager D) (RefusedOpening D) → Type 0
LeavesOpening disks first second s name log_bytes (Ok m) =
    LeavesReopening disks first second s name log_bytes Kept (log_of m)
LeavesOpening disks first second s name log_bytes (Err r) =
    LeavesUnopened disks first second s name log_bytes r.fault r.first r.second

-- The same of each state for which the two files stand, unless one begins as no log and has stray records after its
-- first 8 bytes, which would come before those of the other one.
abbrev pub CrashesOpening : {D : Type 0} → Ghosts D → D → D → List ℕ → ℕ
    → Result (Manager D) (RefusedOpening D) → Type 0
CrashesOpening disks first second name log_bytes result =
    (s : State) → Trusts disks → IsRecoverable s → FilesStandFor log_bytes (disks.seen first) (disks.seen second) s
    → NoStray (disks.seen first) (disks.seen second)
    → LeavesOpening disks first second s name log_bytes result
