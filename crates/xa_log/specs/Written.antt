-- A group on its way into a log: its records are written after the log's end, and their sync has to follow.
use Rattle.std.specs.Prelude.{◌≡◌, ◌≢◌, ℕ, ◌+◌, ◌-◌, ◌≤◌, ◌<◌, ◌==◌, if◌then◌else◌, true, false, List, length, Result}
use Rattle.std.specs.List.{AllByRecursion}
use Rattle.xa_disk.specs.Counts.{top}
use Rattle.xa_disk.specs.Disk.{Torn}
use Rattle.xa_disk.specs.Time.{LeavesOnly, TimePasses}
use Rattle.xa_disk.specs.declared.disk.Disk.{Ghosts}
use Rattle.xa_disk.specs.declared.disk.DiskFault.{DiskFault}
use Rattle.xa_limits.specs.declared.TheConstants.{FIRST_OFFSET, LENGTH_BYTES}
use Rattle.xa_log.specs.Ahead.{AppendsBy, IsKnown, Writes, ready_for}
use Rattle.xa_log.specs.Answers.{LeftWritten}
use Rattle.xa_log.specs.Buffer.{KeepsRoom}
use Rattle.xa_log.specs.Calls.{WritesAhead}
use Rattle.xa_log.specs.Believed.Chain.{IsBody, last}
use Rattle.xa_log.specs.Believed.Damage.{AreAppended}
use Rattle.xa_log.specs.Believed.Group.{as_one, closed, closed_by, first_of_group, group_bytes}
use Rattle.xa_log.specs.Believed.Pair.{number_in}
use Rattle.xa_log.specs.Believed.Stands.{Answers, Leaves, Moves, Renumbers, Stands}
use Rattle.xa_log.specs.Believed.TwoFiles.{AppendsTo, Pair}
use Rattle.xa_log.specs.declared.appending.Appended.{Appended}
use Rattle.xa_log.specs.declared.appending.Appended.TheVariants.{Full, Kept}
use Rattle.xa_log.specs.Believed.LogView.{LogView}
use Rattle.xa_log.specs.declared.written.Written.{Written}

-- what its write returned
abbrev pub write_of : Written → Result (Unit {0}) DiskFault
write_of w = w.write

-- a group's records and its closing length, as they go to the end of a log
abbrev pub range_of : {D : Type 0} → LogView D → List (List ℕ) → List ℕ
range_of log group = closed log.digest group

-- and with the zeros that make its file ready
abbrev pub ready_range_of : {D : Type 0} → LogView D → List (List ℕ) → List ℕ
ready_range_of log group = closed_by (ready_for log (as_one group)) log.digest group

-- What is written begins at the log's end, within the log's bytes, and it has room for as many.
abbrev pub IsRange : {D : Type 0} → Written → LogView D → Type 0
IsRange w log =
    (log.end + LENGTH_BYTES ≤ w.to) × (w.to ≤ log.log_bytes) × (w.to - log.end ≤ log.room)

-- The records of a group were written after the end of a log. Until they are settled the log counts as lost: nothing else
-- is appended.
pub record HasWritten {D : Type 0} (disks : Ghosts D) (group : List (List ℕ)) (w : Written) (old new : LogView D)
    : Type 0 where
  pub alive : old.lost ≡ false
  pub some : 1 ≤ length group
  pub sizes : AllByRecursion (IsBody old.format) group
  -- where they end, and what the log's digest and its generation are with them
  pub to : w.to ≡ old.end + group_bytes group + LENGTH_BYTES
  pub digest : w.digest ≡ last old.digest group
  pub number : w.generation ≡ (if old.end == FIRST_OFFSET then number_in (first_of_group group) else old.generation)
  pub fits : w.to + ready_for old (as_one group) ≤ old.log_bytes
  pub range : IsRange w new
  -- by what the write returned
  pub went : disks.honest
      → LeftWritten disks w.write old.end (range_of old group) (ready_range_of old group) old.disk new.disk
  pub time : disks.honest → TimePasses disks (Torn old.end (length (ready_range_of old group))) old.disk new.disk
  -- what a crash at any moment since then leaves
  pub leaves : disks.honest → (stand : List (List ℕ)) → Stands disks stand old
      → LeavesOnly disks old.disk new.disk (Leaves old.log_bytes old.format stand group)
  pub calls : WritesAhead (ready_for old (as_one group)) w.write
      (disks.failures old.disk) (disks.failures new.disk) (disks.counts old.disk) (disks.counts new.disk)
  pub other : (new.other ≡ old.other) × (new.on_first ≡ old.on_first)
  pub settings : (new.log_bytes ≡ old.log_bytes) × (new.format ≡ old.format)
  pub ends : (new.end ≡ old.end) × (new.digest ≡ old.digest) × (new.generation ≡ old.generation)
  pub known : (new.known ≡ old.known) × (new.other_known ≡ old.other_known)
  pub lost : new.lost ≡ true
  pub room : KeepsRoom old new

-- A group was appended to a log, with this answer: what became of it, what a crash at any moment since then leaves, and
-- which calls were made.
pub record AppendsGroup {D : Type 0} (disks : Ghosts D) (group : List (List ℕ)) (o : Appended) (old new : LogView D)
    : Type 0 where
  pub answer : disks.honest → (stand : List (List ℕ)) → Stands disks stand old → AreAppended stand group
      → Answers disks o stand group new
  pub any_moment : disks.honest → (stand : List (List ℕ)) → Stands disks stand old
      → LeavesOnly disks old.disk new.disk (Leaves old.log_bytes old.format stand group)
  pub pair : disks.honest → (stand stood : List (List ℕ)) → Pair disks stand stood old → AreAppended stand group
      → AppendsTo disks o stand group stood new
  pub moves : Moves o (as_one group) old new
  pub numbers : Renumbers o (first_of_group group) old new
  pub calls : AppendsBy disks (as_one group) o old new
  pub kept : disks.failures old.disk < top → disks.failures new.disk ≡ disks.failures old.disk → o ≡ Kept
  pub not_full : o ≢ Full
  pub settings : new.log_bytes ≡ old.log_bytes
  pub other : (new.other ≡ old.other) × (new.on_first ≡ old.on_first)
  pub writes : disks.honest → o ≡ Kept → Writes disks group old new
  pub known : disks.honest → IsKnown disks old → IsKnown disks new
  pub room : KeepsRoom old new
