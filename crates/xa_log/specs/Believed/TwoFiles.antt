-- What a log of two files stands for.
use Rattle.std.specs.Prelude.{◌≡◌, ◌⊎◌, ◌+◌, ◌≤◌, ◌<◌, ℕ, max, true, false, not, if◌then◌else◌, List, [], ◌++◌, length, take}
use Rattle.xa_disk.specs.Disk.{Only}
use Rattle.xa_disk.specs.declared.disk.Disk.{Ghosts}
use Rattle.xa_limits.specs.declared.TheConstants.{LENGTH_BYTES}
use Rattle.xa_log.specs.Ahead.{Shortens}
use Rattle.xa_log.specs.Believed.Chain.{newest, start, last, text, Rests, logged}
use Rattle.xa_log.specs.Believed.Pair.{generation, beats, has_log, IsCalm, CalmTears}
use Rattle.xa_log.specs.Believed.Checkpoint.{IsOther, IsQuiet, LeavesSealed, NeverEmpty, SealTears}
use Rattle.xa_log.specs.Believed.Damage.{breaks_off}
use Rattle.xa_log.specs.Believed.Stands.{Stands, MayStand}
use Rattle.xa_log.specs.declared.appending.Appended.{Appended}
use Rattle.xa_log.specs.declared.appending.Appended.TheVariants.{Kept, Refused, Lost, Full}
use Rattle.xa_log.specs.Believed.LogView.{LogView}

-- The current file is a log of these bodies; of the other one, each image is without chance a log that comes after
-- it, of those bodies that stood there, or none.
pub record Pair {D : Type 0} (disks : Ghosts D) (bodies stood : List (List ℕ)) (log : LogView D) : Type 0 where
  pub current : Stands disks bodies log
  pub other : IsOther disks log.log_bytes stood log.other
  pub calm_on : CalmTears disks.tears → IsCalm stood (disks.seen log.other)
  pub older : beats log.on_first bodies stood ≡ true

-- The append of a group to these was lost; of the other file the same is said as before, and it comes after whichever
-- first part stands.
pub record MayStandPair {D : Type 0} (disks : Ghosts D) (bodies group stood : List (List ℕ))
    (log : LogView D) : Type 0 where
  pub current : MayStand disks bodies group log
  pub other : IsOther disks log.log_bytes stood log.other
  pub calm_on : CalmTears disks.tears → IsCalm stood (disks.seen log.other)
  pub older : (many : ℕ) → beats log.on_first (bodies ++ take many group) stood ≡ true

-- The checkpoint of new bodies was lost: the other file begins as a log, and without chance it is one of them or of
-- none.
pub record MaySeal {D : Type 0} (disks : Ghosts D) (bodies fresh : List (List ℕ)) (log : LogView D) : Type 0 where
  pub file : Rests log.format bodies (disks.seen log.disk)
  pub fits : length (disks.seen log.disk) ≤ log.log_bytes
  pub durable : Only (disks.seen log.disk) (disks.may_leave log.disk)
  pub whole : breaks_off log.format bodies (disks.seen log.disk) ≡ false
  pub other : LeavesSealed log.log_bytes fresh (disks.seen log.other)
  pub calm_on : SealTears disks.tears → IsCalm fresh (disks.seen log.other)
  pub left : (c : List ℕ) → disks.may_leave log.other c → LeavesSealed log.log_bytes fresh c
  pub above : generation bodies < generation fresh
  pub lost : log.lost ≡ true

-- what each answer of a checkpoint says
abbrev pub Checkpoints : {D : Type 0} → Ghosts D → Appended → List (List ℕ) → List (List ℕ) → List (List ℕ)
    → LogView D → Type 0
Checkpoints disks Kept bodies stood fresh log = Pair disks fresh bodies log × IsQuiet disks bodies log.other
-- by a fault in the first part, or after it
Checkpoints disks Refused bodies stood fresh log =
    Pair disks bodies stood log ⊎ (Pair disks bodies [] log × IsQuiet disks [] log.other)
Checkpoints disks Lost bodies stood fresh log = MaySeal disks bodies fresh log
Checkpoints disks Full bodies stood fresh log = Pair disks bodies stood log

-- the file that a checkpoint wrote, by its answer: the current one is not touched
abbrev pub written : {D : Type 0} → Appended → LogView D → D
written Kept log = log.disk
written Refused log = log.other
written Lost log = log.other
written Full log = log.other

-- where a checkpoint of new bodies ends in its file, closing length included
abbrev pub closed_end : List (List ℕ) → ℕ
closed_end fresh = length (text newest fresh) + LENGTH_BYTES

-- How much a checkpoint of new bodies leaves to their file: as much as they take there, or the log that they replace takes in
-- its own, since the new one may grow as long.
abbrev pub kept_end : {D : Type 0} → List (List ℕ) → LogView D → ℕ
kept_end fresh old = max (closed_end fresh) old.end

-- A log's fields after a checkpoint of new bodies: what was known of the two files changes places with them, and the
-- one that was written is known to reach as far as the new log's closing length. It may have been cut.
abbrev pub Swaps : {D : Type 0} → Appended → List (List ℕ) → LogView D → LogView D → Type 0
Swaps Kept fresh old new =
    (new.other ≡ old.disk) × (new.on_first ≡ not old.on_first) × (new.format ≡ newest)
    × (new.end ≡ length (text newest fresh)) × (new.digest ≡ last (start newest) fresh) × (new.lost ≡ old.lost)
    × (new.generation ≡ generation fresh)
    × Shortens (kept_end fresh old) (max old.other_known (closed_end fresh)) new.known × (new.other_known ≡ old.known)
Swaps Refused fresh old new =
    (new.disk ≡ old.disk) × (new.on_first ≡ old.on_first) × (new.format ≡ old.format)
    × (new.end ≡ old.end) × (new.digest ≡ old.digest) × (new.lost ≡ old.lost)
    × (new.generation ≡ old.generation) × (new.known ≡ old.known) × Shortens (kept_end fresh old) old.other_known new.other_known
Swaps Lost fresh old new =
    (new.disk ≡ old.disk) × (new.on_first ≡ old.on_first) × (new.format ≡ old.format)
    × (new.end ≡ old.end) × (new.digest ≡ old.digest) × (new.lost ≡ true)
    × (new.generation ≡ old.generation) × (new.known ≡ old.known) × Shortens (kept_end fresh old) old.other_known new.other_known
Swaps Full fresh old new = new ≡ old

-- what each answer of an append of a group says of two files
abbrev pub AppendsTo : {D : Type 0} → Ghosts D → Appended → List (List ℕ) → List (List ℕ) → List (List ℕ) → LogView D
    → Type 0
AppendsTo disks Kept bodies group stood log = Pair disks (bodies ++ group) stood log
AppendsTo disks Refused bodies group stood log = Pair disks bodies stood log
AppendsTo disks Lost bodies group stood log = MayStandPair disks bodies group stood log
AppendsTo disks Full bodies group stood log = Pair disks bodies stood log

-- Two files that were read: the current one stands, and the other one is what it was, and each crash leaves that. It comes after
-- if both are logs; if it isn't one, that is a premise on what stands after its first 8 bytes, NoStray.
pub record IsOpenPair {D : Type 0} (disks : Ghosts D) (bodies stood : List (List ℕ)) (log : LogView D) : Type 0 where
  pub current : Stands disks bodies log
  pub other : IsOther disks log.log_bytes stood log.other
  pub quiet : IsQuiet disks stood log.other
  pub durable : Only (disks.seen log.other) (disks.may_leave log.other)
  pub older : (has_log (disks.seen log.other) ≡ true) → beats log.on_first bodies stood ≡ true

-- A log is made in the first file, and goes on in the second one with its second generation: the other file isn't empty and
-- no crash leaves it so, unless the log is in the first one and still of the first generation.
abbrev pub HasOther : {D : Type 0} → Ghosts D → LogView D → Type 0
HasOther disks log =
    NeverEmpty disks log.other ⊎ ((log.on_first ≡ true) × (generation (logged (disks.seen log.disk)) ≤ 1))

-- What was read is a pair, and nothing of the other file is left to chance.
abbrev pub IsReadPair : {D : Type 0} → Ghosts D → List (List ℕ) → LogView D → Type 0
IsReadPair disks bodies log =
    Pair disks bodies (logged (disks.seen log.other)) log × IsQuiet disks (logged (disks.seen log.other)) log.other

-- The premise of an opening on the first and the second file: if one begins as no log, the records that chain after
-- its first 8 bytes, if any do, come after those of the other one.
abbrev pub NoStray : List ℕ → List ℕ → Type 0
NoStray first second =
    (has_log first ≡ false → beats false (logged second) (logged first) ≡ true)
    × (has_log second ≡ false → beats true (logged first) (logged second) ≡ true)

-- the two disks in the order in which they were given
abbrev pub first_of : {D : Type 0} → LogView D → D
first_of log = if log.on_first then log.disk else log.other

abbrev pub second_of : {D : Type 0} → LogView D → D
second_of log = if log.on_first then log.other else log.disk
