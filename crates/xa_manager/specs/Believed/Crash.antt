-- What a crash at any moment of a call leaves of the log's two files.
use Rattle.std.specs.Prelude.{◌≡◌, ◌⊎◌, ◌≤◌, ℕ, Bool, true, false, not, if◌then◌else◌, List, [], ◌∷◌, length, map, Some, None, IsSomeAnd}
use Rattle.xa_disk.specs.Time.{LeavesOnly}
use Rattle.xa_disk.specs.declared.disk.Disk.{Ghosts}
use Rattle.xa_record.specs.Spelling.{spelled}
use Rattle.xa_record.specs.declared.record.Record.{Record}
use Rattle.xa_record.specs.declared.record.Record.TheVariants as logged
use Rattle.xa_log.specs.Believed.Group.{IsPlain}
use Rattle.xa_log.specs.Believed.LogStates.{LooksTo, LeftByLook}
use Rattle.xa_log.specs.Believed.Pair.{IsCalm}
use Rattle.xa_log.specs.Believed.TwoFiles.{Pair, first_of, second_of}
use Rattle.xa_log.specs.Believed.LogView.{LogView}
use Rattle.xa_model.specs.declared.event.Event.{Event}
use Rattle.xa_model.specs.declared.outcome.Appending.{Appending}
use Rattle.xa_model.specs.declared.outcome.Appending.TheVariants.{Kept, Refused, Lost}
use Rattle.xa_model.specs.declared.outcome.Outcome.{Outcome}
use Rattle.xa_model.specs.declared.outcome.Outcome.TheVariants.{Quiet, Appended, Joined, Failed, Reread}
use Rattle.xa_model.specs.Invariants.Backing.{Backs}
use Rattle.xa_model.specs.Events.{is_restart}
use Rattle.xa_model.specs.State.{State}
use Rattle.xa_model.specs.Step.{turn}
use Rattle.xa_model.specs.Turn.{Asked, Turn, Nobody, Now, Appends, Checkpoints, Rereads, Joins, taken}
use Rattle.xa_manager.specs.declared.manager.Manager.{Manager}
use Rattle.xa_manager.specs.Believed.CrashLaws.{StandsWithoutChance}
use Rattle.xa_manager.specs.Believed.Files.{FilesStandFor}
use Rattle.xa_manager.specs.Believed.LogStands.{Trusts, snapshot_bodies}
use Rattle.xa_manager.specs.Managed.{ManagerStandsFor}
use Rattle.xa_manager.specs.Believed.Parts.{log_of}

-- the files of a log, by images of the current one and of the other one, stand for a state
abbrev pub StandFor : {D : Type 0} → LogView D → List ℕ → List ℕ → State → Type 0
StandFor log current other s =
    FilesStandFor log.log_bytes (if log.on_first then current else other) (if log.on_first then other else current) s

-- ---- no device call, or a look at the log

-- what a crash now leaves stands for the state for which the log stands
abbrev pub LeavesNow : {D : Type 0} → Ghosts D → LogView D → State → Type 0
LeavesNow disks log s =
    (first second : List ℕ) → disks.may_leave (first_of log) first → disks.may_leave (second_of log) second
    → StandsWithoutChance disks log s first second → FilesStandFor log.log_bytes first second s

-- images of the two files at moments of a look stand for the state for which the log stood
abbrev pub LeavesLook : {D : Type 0} → Ghosts D → LogView D → LogView D → State → Type 0
LeavesLook disks old new s =
    LooksTo disks old new
    × ((first second : List ℕ) → LeftByLook disks old new first second → StandsWithoutChance disks old s first second
    → FilesStandFor old.log_bytes first second s)

-- ---- an append

-- Images of the current file and of the other one at a moment of an append: of the current one since the append began;
-- the other one isn't touched.
pub record LeftByAppend {D : Type 0} (disks : Ghosts D) (old new : LogView D) (current other : List ℕ) : Type 0 where
  pub current_left : disks.left_since new.disk (disks.moment old.disk) current
  pub other_left : disks.may_leave old.other other

-- Nothing of them is left to chance, if the append of these records began on a log that backed a state: after
-- the log's records chain these, from the first on, or none; in front of the other file stands a record of the log that
-- stood there, or none that chains.
pub record AppendsWithoutChance {D : Type 0} (disks : Ghosts D) (log : LogView D) (s : State) (group : List Record)
    (current other : List ℕ) : Type 0 where
  pub records : List Record
  pub backs : Backs records s
  pub stood : List (List ℕ)
  pub pair : Pair disks (map spelled records) stood log
  pub plain : IsPlain log.format (map spelled records) (map spelled group) current
  pub calm : IsCalm stood other

-- They stand for a state whose open records are those that should have been appended: some of the first stand there.
abbrev pub LeavesAppend : {D : Type 0} → Ghosts D → LogView D → LogView D → State → State → Type 0
LeavesAppend disks old new s lost =
    (1 ≤ length lost.open_records)
    × ((current other : List ℕ) → LeftByAppend disks old new current other
    → AppendsWithoutChance disks old s lost.open_records current other → StandFor old current other lost)

-- ---- a checkpoint

-- the file that it wrote, which is the current one once the checkpoint is kept
abbrev pub wrote : {D : Type 0} → Appending → LogView D → D
wrote Kept log = log.disk
wrote Refused log = log.other
wrote Lost log = log.other

-- The current file isn't touched: after a checkpoint that is kept it is the other one, otherwise still the current one.
abbrev pub LeavesCurrent : {D : Type 0} → Appending → LogView D → LogView D → Type 0
LeavesCurrent Kept old new = (new.other ≡ old.disk) × (new.on_first ≡ not old.on_first)
LeavesCurrent Refused old new = (new.disk ≡ old.disk) × (new.on_first ≡ old.on_first)
LeavesCurrent Lost old new = (new.disk ≡ old.disk) × (new.on_first ≡ old.on_first)

-- Beside each image of the current file one of the other stands for the state: until the header of the file that is
-- written is stable unless by chance a record stands in front of it that isn't the first of the log that stood there;
-- from the seal on unless by chance one stands there that isn't the snapshot's first; and between them always.
abbrev pub StandsBeside : {D : Type 0} → Ghosts D → LogView D → List (List ℕ) → List (List ℕ) → State → List ℕ → Type 0
StandsBeside disks log stood fresh s other =
    (current : List ℕ) → disks.may_leave log.disk current
    → (IsCalm stood other → StandFor log current other s)
    ⊎ StandFor log current other s
    ⊎ (IsCalm fresh other → StandFor log current other s)

-- At each moment of it the two files stand for a state whose open record is the new boot's, which stands first in its
-- snapshot: the snapshot is the log, or the old file still is. Of the file that is written that is said of each image
-- since the checkpoint began; one since an earlier moment was left before it, or is such a one.
pub record LeavesCheckpoint {D : Type 0} (disks : Ghosts D) (old : LogView D) (a : Appending) (new : LogView D)
    (lost : State) : Type 0 where
  pub boot : ℕ
  pub opens : lost.open_records ≡ logged.Opened boot ∷ []
  pub stood : List (List ℕ)
  pub records : List Record
  pub pair : Pair disks (map spelled records) stood old
  pub log_bytes : new.log_bytes ≡ old.log_bytes
  pub current : LeavesCurrent a old new
  pub other : LeavesOnly disks old.other (wrote a new) (StandsBeside disks old stood (snapshot_bodies lost boot) lost)

-- ---- a call

-- What a restart leaves once it has looked at the log, by what became of the new boot's record; without one nothing
-- more is done.
abbrev pub LeavesBoot : {D : Type 0} → Ghosts D → LogView D → Turn → Outcome → LogView D → Type 0
LeavesBoot disks mid asked (Reread survived (Some a)) new =
    IsSomeAnd (taken asked (Reread survived (Some Lost))) (λ lost. LeavesCheckpoint disks mid a new lost.after)
LeavesBoot disks mid asked (Reread survived None) new = new ≡ mid
LeavesBoot disks mid asked _ new = ⊥

-- whether a turn writes a new log to the other file, as a trim's does
abbrev pub checkpoints : Turn → Bool
checkpoints Nobody = false
checkpoints (Now answer) = false
checkpoints (Appends appended after) = false
checkpoints (Checkpoints appended after) = true
checkpoints (Rereads failed found) = false
checkpoints (Joins refused appended lost) = false

abbrev pub LeavesWritten : {D : Type 0} → Ghosts D → Bool → LogView D → Appending → LogView D → State → State → Type 0
LeavesWritten disks true old a new s lost = LeavesCheckpoint disks old a new lost
LeavesWritten disks false old a new s lost = LeavesAppend disks old new s lost

-- What a crash at any moment of a call leaves, by what the device did in it: if no device call was made, and if
-- the look at the log failed, what a crash before it leaves; of an append and of a checkpoint, whatever they were
-- answered, what one leaves whose answer never came. A restart has a log in the middle, and each of its moments is in
-- one of two phases: the look leads from the log before it to that log, and the checkpoint from there to the log after
-- it. So an image of the one file in the first never stands beside one of the other in the second. No single call
-- joins the append of another.
abbrev pub LeavesBy : {D : Type 0} → Ghosts D → LogView D → Turn → Outcome → LogView D → State → Type 0
LeavesBy disks old asked Quiet new s = (new ≡ old) × LeavesNow disks old s
LeavesBy disks old asked (Appended a) new s =
    IsSomeAnd (taken asked (Appended Lost))
    (λ lost. LeavesWritten disks (checkpoints asked) old a new s lost.after)
LeavesBy disks old asked (Joined a) new s = ⊥
LeavesBy disks old asked Failed new s = LeavesLook disks old new s
LeavesBy {D} disks old asked (Reread survived appended) new s =
    (mid : LogView D) × LeavesLook disks old mid s × LeavesBoot disks mid asked (Reread survived appended) new

-- the same of each state that the manager stood for
abbrev pub CrashesAs : {D : Type 0} → Ghosts D → Manager D → Event → Outcome → Manager D → Type 0
CrashesAs disks m event outcome m' =
    (s : State) → ManagerStandsFor disks m s → Trusts disks
    → LeavesBy disks (log_of m) (turn s (Asked event)) outcome (log_of m') s

-- What a crash leaves at any moment of an event that ran out of memory: of a restart, which looked at the log at most, what
-- the look leaves; of any other, what a crash before it leaves.
abbrev pub LeavesWanting : {D : Type 0} → Ghosts D → LogView D → Bool → LogView D → State → Type 0
LeavesWanting disks old true new s = LeavesLook disks old new s
LeavesWanting disks old false new s = LeavesNow disks old s

abbrev pub CrashesWanting : {D : Type 0} → Ghosts D → Manager D → Event → Manager D → Type 0
CrashesWanting disks m event m' =
    (s : State) → ManagerStandsFor disks m s → Trusts disks
    → LeavesWanting disks (log_of m) (is_restart event) (log_of m') s
