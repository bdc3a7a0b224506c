-- What an opening does to its two disks, and what one that was refused leaves of them.
use Rattle.std.specs.Prelude.{◌≡◌, ◌≢◌, ◌⊎◌, ◌<◌, ◌+◌, ℕ, Bool, true, not, List, [], ◌∷◌, map}
use Rattle.xa_disk.specs.Disk.{Torn, Same, Only}
use Rattle.xa_disk.specs.Time.{TimePasses, LeavesOnly}
use Rattle.xa_disk.specs.declared.disk.Disk.{Ghosts}
use Rattle.xa_record.specs.Spelling.{spelled}
use Rattle.xa_limits.specs.declared.TheConstants.{MOST_BOOTS}
use Rattle.xa_log.specs.Believed.Chain.{newest}
use Rattle.xa_log.specs.Believed.Checkpoint.{HasBytes, LeavesAny, NeverEmpty}
use Rattle.xa_log.specs.Believed.Pair.{logged_pair}
use Rattle.xa_log.specs.Believed.Stands.{Leaves}
use Rattle.xa_log.specs.Believed.TwoFiles.{Pair, AppendsTo, Checkpoints, written, first_of, second_of}
use Rattle.xa_log.specs.declared.appending.Appended.{Appended}
use Rattle.xa_log.specs.declared.appending.Appended.TheVariants.{Kept, Refused, Lost, Full}
use Rattle.xa_log.specs.declared.format.TheConstants.{PREAMBLE_BYTES}
use Rattle.xa_log.specs.Believed.LogView.{LogView}
use Rattle.xa_model.specs.Durable.{Durable}
use Rattle.xa_model.specs.Fold.{snapshot}
use Rattle.xa_manager.specs.declared.fault.ManagerFault.{ManagerFault}
use Rattle.xa_manager.specs.declared.fault.ManagerFault.TheVariants as fault
use Rattle.xa_manager.specs.Believed.Opening.{ComeTo, IsFound, has_boot_room}

-- Time passes for a disk, and nothing is written.
pub record IsUnwritten {D : Type 0} (disks : Ghosts D) (old new : D) : Type 0 where
  pub seen : disks.seen new ≡ disks.seen old
  pub time : TimePasses disks Same old new

-- Of two empty disks, on which a log was being made, the first may have some of a new log's first bytes. It isn't
-- written to before each crash leaves the second one empty.
pub record IsPartlyMade {D : Type 0} (disks : Ghosts D) (first first' second second' : D) : Type 0 where
  pub empty : disks.seen first ≡ []
  pub empty_second : disks.seen second ≡ []
  pub torn : Torn 0 PREAMBLE_BYTES (disks.seen first) (disks.seen first')
  pub time : TimePasses disks (Torn 0 PREAMBLE_BYTES) first first'
  pub second_is : IsUnwritten disks second second'
  pub second_first : TimePasses disks Same first first' ⊎ Only [] (disks.may_leave second')

-- what looking for a log on two disks leaves of them, whether one was found or not
abbrev pub LeavesFinding : {D : Type 0} → Ghosts D → D → D → D → D → Type 0
LeavesFinding disks first first' second second' =
    (IsUnwritten disks first first' × IsUnwritten disks second second') ⊎ IsPartlyMade disks first first' second second'

-- ---- the first records of a boot, by what became of them

-- The append of the only one, to a log that was made: the other file isn't touched, and at each moment the current one
-- has without chance this record or none.
pub record AppendsFirst {D : Type 0} (disks : Ghosts D) (a : Appended) (fresh : List (List ℕ))
    (old new : LogView D) : Type 0 where
  pub on_first : new.on_first ≡ old.on_first
  pub other : new.other ≡ old.other
  pub body : List ℕ
  pub only : fresh ≡ body ∷ []
  pub left : disks.honest → (stood : List (List ℕ)) → Pair disks [] stood old
      → AppendsTo disks a [] (body ∷ []) stood new
      × LeavesOnly disks old.disk new.disk (Leaves old.log_bytes old.format [] (body ∷ []))

-- the file that was the current one isn't touched by a checkpoint
abbrev pub KeepsCurrent : {D : Type 0} → Appended → LogView D → LogView D → Type 0
KeepsCurrent Kept old new = (new.other ≡ old.disk) × (new.on_first ≡ not old.on_first)
KeepsCurrent Refused old new = (new.disk ≡ old.disk) × (new.on_first ≡ old.on_first)
KeepsCurrent Lost old new = (new.disk ≡ old.disk) × (new.on_first ≡ old.on_first)
KeepsCurrent Full old new = (new.disk ≡ old.disk) × (new.on_first ≡ old.on_first)

-- A checkpoint of them: at each moment the file that it writes is what a checkpoint leaves.
pub record SnapshotsFirst {D : Type 0} (disks : Ghosts D) (a : Appended) (fresh : List (List ℕ))
    (old new : LogView D) : Type 0 where
  pub current : KeepsCurrent a old new
  pub log_bytes : new.log_bytes ≡ old.log_bytes
  pub left : disks.honest → (bodies stood : List (List ℕ)) → Pair disks bodies stood old
      → Checkpoints disks a bodies stood fresh new
      × LeavesOnly disks old.other (written a new) (LeavesAny old.log_bytes newest stood fresh)
  pub filled : disks.honest → NeverEmpty disks old.other → LeavesOnly disks old.other (written a new) HasBytes

abbrev pub LogsFirst : {D : Type 0} → Ghosts D → Bool → Appended → List (List ℕ) → LogView D → LogView D → Type 0
LogsFirst disks is_new a fresh old new =
    ((is_new ≡ true) × AppendsFirst disks a fresh old new) ⊎ SnapshotsFirst disks a fresh old new

-- They are the snapshot of what the log's bodies come to, which leaves the room that is kept free.
pub record LogsBoot {D : Type 0} (disks : Ghosts D) (is_new : Bool) (bodies : List (List ℕ)) (log_bytes : ℕ)
    (a : Appended) (old new : LogView D) : Type 0 where
  pub durable : Durable
  pub comes : ComeTo bodies durable
  pub boots : durable.boot < MOST_BOOTS
  pub room : has_boot_room log_bytes durable (durable.boot + 1) ≡ true
  pub logs : LogsFirst disks is_new a (map spelled (snapshot durable (durable.boot + 1))) old new

-- what a boot that didn't begin leaves of its log: there are no device calls but those that log its first records
abbrev pub LeavesBegin : {D : Type 0} → Ghosts D → ManagerFault → Bool → List (List ℕ) → ℕ → LogView D → LogView D → Type 0
LeavesBegin disks fault.Device is_new bodies log_bytes old new =
    (a : Appended) × (a ≢ Kept) × LogsBoot disks is_new bodies log_bytes a old new
LeavesBegin disks _ is_new bodies log_bytes old new = new ≡ old

-- ---- an opening

-- An opening that came to log its first records. The log in the middle is the one that was found: until it was, the
-- disks are left as by looking for one, and from there on as by logging the first records.
pub record LeavesLogging {D : Type 0} (disks : Ghosts D) (log_bytes : ℕ) (first second : D) (a : Appended)
    (after : LogView D) : Type 0 where
  pub is_new : Bool
  pub bodies : List (List ℕ)
  pub log : LogView D
  pub finding : disks.honest → LeavesFinding disks first (first_of log) second (second_of log)
  pub read : disks.honest → logged_pair (disks.seen first) (disks.seen second) ≡ bodies
  pub found : disks.honest → IsFound disks is_new bodies log
  pub log_bytes_is : log.log_bytes ≡ log_bytes
  pub made : disks.honest → is_new ≡ true → (disks.seen first ≡ []) × (disks.seen second ≡ [])
  pub logs : LogsBoot disks is_new bodies log_bytes a log after

-- What an opening leaves of the two disks that it gives back, by the fault that it reports: for a bad setting they are
-- what they were.
abbrev pub LeavesRefused : {D : Type 0} → Ghosts D → ManagerFault → ℕ → D → D → D → D → Type 0
LeavesRefused disks fault.Setting log_bytes first first' second second' = (first' ≡ first) × (second' ≡ second)
LeavesRefused {D} disks fault.Device log_bytes first first' second second' =
    (a : Appended) × (after : LogView D) × (a ≢ Kept) × LeavesLogging disks log_bytes first second a after
    × (first' ≡ first_of after) × (second' ≡ second_of after)
LeavesRefused disks _ log_bytes first first' second second' =
    disks.honest → LeavesFinding disks first first' second second'
