-- What a log stands for.
use Rattle.std.specs.Prelude.{◌≡◌, ◌≤◌, ℕ, ◌+◌, ◌==◌, max, if◌then◌else◌, true, false, List, ◌++◌, length, take, replicate, None}
use Rattle.xa_disk.specs.Disk.{Only}
use Rattle.xa_disk.specs.declared.disk.Disk.{Ghosts}
use Rattle.xa_log.specs.Believed.Chain.{start, last, text, behind_text, Rests}
use Rattle.xa_log.specs.Believed.Damage.{breaks_off}
use Rattle.xa_log.specs.Believed.Group.{group_bytes, IsFirstPart, IsPlain, NoChance}
use Rattle.xa_log.specs.Believed.Pair.{number_in, generation}
use Rattle.xa_log.specs.Reading.{fault_of}
use Rattle.xa_log.specs.declared.format.Format.{Format}
use Rattle.xa_log.specs.declared.appending.Appended.{Appended}
use Rattle.xa_log.specs.declared.appending.Appended.TheVariants.{Kept, Refused, Lost, Full}
use Rattle.xa_log.specs.Believed.LogView.{LogView}
use Rattle.xa_limits.specs.declared.TheConstants.{AROUND_BODY, AROUND_CLOSED, FIRST_OFFSET, LENGTH_BYTES}

-- a log of these bodies, which a read gives and each crash leaves
pub record Stands {D : Type 0} (disks : Ghosts D) (bodies : List (List ℕ)) (log : LogView D) : Type 0 where
  pub file : Rests log.format bodies (disks.seen log.disk)
  pub fits : length (disks.seen log.disk) ≤ log.log_bytes
  pub end : log.end ≡ length (text log.format bodies)
  pub digest : log.digest ≡ last (start log.format) bodies
  pub number : log.generation ≡ generation bodies
  pub durable : Only (disks.seen log.disk) (disks.may_leave log.disk)
  pub alive : log.lost ≡ false
  pub whole : breaks_off log.format bodies (disks.seen log.disk) ≡ false

-- What a crash leaves of a log of at most this many bytes while a group is appended to these bodies: a log that `open`
-- accepts, and that begins with the bodies; without chance it is the bodies and some first part of the group.
pub record Leaves (most : ℕ) (format : Format) (bodies group : List (List ℕ)) (file : List ℕ) : Type 0 where
  pub fits : length file ≤ most
  pub front : take (length (text format bodies)) file ≡ text format bodies
  pub opens : fault_of most file ≡ None
  pub reads : IsPlain format bodies group file → IsFirstPart format bodies group file

-- what a crash leaves of a log that nothing is appended to
pub record LeavesLog (most : ℕ) (format : Format) (bodies : List (List ℕ)) (file : List ℕ) : Type 0 where
  pub fits : length file ≤ most
  pub opens : fault_of most file ≡ None
  pub rests : Rests format bodies file
  pub whole : breaks_off format bodies file ≡ false

-- The append of a group to these was lost: without chance, a read and a crash give the bodies and some first part of it.
pub record MayStand {D : Type 0} (disks : Ghosts D) (bodies group : List (List ℕ)) (log : LogView D) : Type 0 where
  pub some : 1 ≤ length group
  pub seen_is : Leaves log.log_bytes log.format bodies group (disks.seen log.disk)
  -- the same, if the disk's failed writes leave nothing by chance to a read
  pub seen_on : NoChance disks.tears group → IsFirstPart log.format bodies group (disks.seen log.disk)
  pub left_is : (c : List ℕ) → disks.may_leave log.disk c → Leaves log.log_bytes log.format bodies group c
  pub lost : log.lost ≡ true

-- Whatever its disks hold: the next record begins after these bodies, and none was lost.
pub record EndsBehind {D : Type 0} (bodies : List (List ℕ)) (log : LogView D) : Type 0 where
  pub end : log.end ≡ length (text log.format bodies)
  pub alive : log.lost ≡ false

-- what each answer says of a group
abbrev pub Answers : {D : Type 0} → Ghosts D → Appended → List (List ℕ) → List (List ℕ) → LogView D → Type 0
Answers disks Kept bodies group log = Stands disks (bodies ++ group) log
-- a read gives zeros over the whole range that the records and the closing length took
Answers disks Refused bodies group log =
    Stands disks bodies log
    × (take (group_bytes group + LENGTH_BYTES) (behind_text log.format bodies (disks.seen log.disk))
    ≡ replicate (group_bytes group + LENGTH_BYTES) 0)
Answers disks Lost bodies group log = MayStand disks bodies group log
Answers disks Full bodies group log = Stands disks bodies log

-- a log's own fields stay
pub record Untouched {D : Type 0} (old new : LogView D) : Type 0 where
  pub on_first : new.on_first ≡ old.on_first
  pub log_bytes : new.log_bytes ≡ old.log_bytes
  pub format : new.format ≡ old.format
  pub end : new.end ≡ old.end
  pub digest : new.digest ≡ old.digest
  pub number : new.generation ≡ old.generation
  pub lost : new.lost ≡ old.lost
  pub known : new.known ≡ old.known
  pub other_known : new.other_known ≡ old.other_known

-- Where a log's next record begins after an append of this many bytes, and how far the files are known to reach: the
-- current one as far as the record and its closing length, the zeros after it not counted.
abbrev pub Moves : {D : Type 0} → Appended → ℕ → LogView D → LogView D → Type 0
Moves Kept n old new =
    (new.end ≡ old.end + (AROUND_BODY + n)) × (new.format ≡ old.format) × (new.lost ≡ old.lost)
    × (new.known ≡ max old.known (old.end + AROUND_CLOSED + n)) × (new.other_known ≡ old.other_known)
Moves Refused n old new =
    (new.end ≡ old.end) × (new.format ≡ old.format) × (new.digest ≡ old.digest) × (new.lost ≡ old.lost)
    × (new.known ≡ old.known) × (new.other_known ≡ old.other_known)
Moves Lost n old new =
    (new.end ≡ old.end) × (new.format ≡ old.format) × (new.digest ≡ old.digest) × (new.lost ≡ true)
    × (new.known ≡ old.known) × (new.other_known ≡ old.other_known)
Moves Full n old new = new ≡ old

-- a log's generation after an append of a body: if it had no record, the body's number
abbrev pub Renumbers : {D : Type 0} → Appended → List ℕ → LogView D → LogView D → Type 0
Renumbers Kept body old new =
    new.generation ≡ (if old.end == FIRST_OFFSET then number_in body else old.generation)
Renumbers Refused body old new = new.generation ≡ old.generation
Renumbers Lost body old new = new.generation ≡ old.generation
Renumbers Full body old new = new.generation ≡ old.generation
