-- The states that a log may be in before a look at its two files, what the look may find, and what a crash leaves of
-- both files meanwhile.
use Rattle.std.specs.Prelude.{◌≡◌, ◌⊎◌, ℕ, if◌then◌else◌, List, None}
use Rattle.xa_disk.specs.Disk.{Same}
use Rattle.xa_disk.specs.Time.{TimePasses}
use Rattle.xa_disk.specs.declared.disk.Disk.{Ghosts}
use Rattle.xa_log.specs.Ahead.{IsKnown}
use Rattle.xa_log.specs.Believed.Checkpoint.{IsQuiet, LeavesOf, LeavesSealed, SealTears}
use Rattle.xa_log.specs.Believed.Group.{HasFirstPart, IsPlain, NoChance}
use Rattle.xa_log.specs.Believed.Pair.{CalmTears, IsCalm, logged_pair, pair_fault}
use Rattle.xa_log.specs.Believed.Stands.{Leaves, LeavesLog, MayStand, Stands}
use Rattle.xa_log.specs.Believed.TwoFiles.{HasOther, MaySeal, MayStandPair, Pair, first_of, second_of}
use Rattle.xa_log.specs.declared.format.Format.{Format}
use Rattle.xa_log.specs.Believed.LogView.{LogView}

-- It stands, and so does what stood in the other file; or the append of a group to it was lost; or the checkpoint
-- of fresh bodies was.
pub data LogState : Type 0 where
  Whole : (bodies stood : List (List ℕ)) → LogState
  LostAppend : (bodies group stood : List (List ℕ)) → LogState
  LostCheckpoint : (bodies fresh : List (List ℕ)) → LogState

-- a log is in this state
abbrev pub IsIn : {D : Type 0} → Ghosts D → LogState → LogView D → Type 0
IsIn disks (Whole bodies stood) log = Pair disks bodies stood log
IsIn disks (LostAppend bodies group stood) log = MayStandPair disks bodies group stood log
IsIn disks (LostCheckpoint bodies fresh) log = MaySeal disks bodies fresh log

-- what a look may find: the log without what was lost, or with it; for a group, with some first part
abbrev pub MayFind : LogState → List (List ℕ) → Type 0
MayFind (Whole bodies stood) found = found ≡ bodies
MayFind (LostAppend bodies group stood) found = HasFirstPart bodies group found
MayFind (LostCheckpoint bodies fresh) found = (found ≡ bodies) ⊎ (found ≡ fresh)

-- without chance the other file is a log of these, or of none
abbrev pub beside : LogState → List (List ℕ)
beside (Whole bodies stood) = stood
beside (LostAppend bodies group stood) = stood
beside (LostCheckpoint bodies fresh) = fresh

-- ---- what a read gives: the premises on a disk's failed writes

-- what was lost left nothing by chance to a read of the current file
abbrev pub LostTears : (List ℕ → ℕ → List ℕ → List ℕ → Type 0) → LogState → Type 0
LostTears tears (Whole bodies stood) = Unit {0}
LostTears tears (LostAppend bodies group stood) = NoChance tears group
LostTears tears (LostCheckpoint bodies fresh) = Unit {0}

-- and nothing to one of the other file
abbrev pub BesideTears : (List ℕ → ℕ → List ℕ → List ℕ → Type 0) → LogState → Type 0
BesideTears tears (Whole bodies stood) = CalmTears tears
BesideTears tears (LostAppend bodies group stood) = CalmTears tears
BesideTears tears (LostCheckpoint bodies fresh) = SealTears tears

-- that, or whatever was left to chance of the other file came out well
abbrev pub IsCalmBeside : {D : Type 0} → Ghosts D → LogState → LogView D → Type 0
IsCalmBeside disks state log = BesideTears disks.tears state ⊎ IsQuiet disks (beside state) log.other

-- ---- what a crash leaves

-- of the current file
abbrev pub LeavesCurrent : LogState → ℕ → Format → List ℕ → Type 0
LeavesCurrent (Whole bodies stood) most format c = LeavesLog most format bodies c
LeavesCurrent (LostAppend bodies group stood) most format c = Leaves most format bodies group c
LeavesCurrent (LostCheckpoint bodies fresh) most format c = LeavesLog most format bodies c

-- nothing of an image of the current file is left to chance
abbrev pub IsPlainIn : LogState → Format → List ℕ → Type 0
IsPlainIn (Whole bodies stood) format c = Unit {0}
IsPlainIn (LostAppend bodies group stood) format c = IsPlain format bodies group c
IsPlainIn (LostCheckpoint bodies fresh) format c = Unit {0}

-- nor of one of the other file
abbrev pub IsWithoutChance : LogState → Format → List ℕ → List ℕ → Type 0
IsWithoutChance state format current other = IsPlainIn state format current × IsCalm (beside state) other

-- of the other file
abbrev pub LeavesBeside : LogState → ℕ → List ℕ → Type 0
LeavesBeside (Whole bodies stood) most c = LeavesOf most stood c
LeavesBeside (LostAppend bodies group stood) most c = LeavesOf most stood c
LeavesBeside (LostCheckpoint bodies fresh) most c = LeavesSealed most fresh c

-- Images of the first and of the second file of a log in this state: each is as the state says of it, and without
-- chance an opening takes the two, and finds what a look may find.
pub record LeavesBoth {D : Type 0} (state : LogState) (log : LogView D) (first second : List ℕ) : Type 0 where
  pub current : LeavesCurrent state log.log_bytes log.format (if log.on_first then first else second)
  pub other : LeavesBeside state log.log_bytes (if log.on_first then second else first)
  pub opens :
      IsWithoutChance state log.format
      (if log.on_first then first else second) (if log.on_first then second else first)
      → (pair_fault log.log_bytes first second ≡ None) × MayFind state (logged_pair first second)

-- ---- a look

-- A look at a log leads to another: for each of the two files time passes, and nothing is written.
pub record LooksTo {D : Type 0} (disks : Ghosts D) (old new : LogView D) : Type 0 where
  pub log_bytes : new.log_bytes ≡ old.log_bytes
  pub first : TimePasses disks Same (first_of old) (first_of new)
  pub second : TimePasses disks Same (second_of old) (second_of new)
  pub first_same : disks.seen (first_of new) ≡ disks.seen (first_of old)
  pub second_same : disks.seen (second_of new) ≡ disks.seen (second_of old)

-- images of the first and of the second file at moments of it
pub record LeftByLook {D : Type 0} (disks : Ghosts D) (old new : LogView D) (first second : List ℕ) : Type 0 where
  pub first_left : disks.left_since (first_of new) (disks.moment (first_of old)) first
  pub second_left : disks.left_since (second_of new) (disks.moment (second_of old)) second

-- whatever state a log was in it still is in
pub record KeepsAll {D : Type 0} (disks : Ghosts D) (old new : LogView D) : Type 0 where
  pub state : (state : LogState) → IsIn disks state old → IsIn disks state new
  pub quiet : (stood : List (List ℕ)) → IsQuiet disks stood old.other → IsQuiet disks stood new.other
  pub known : IsKnown disks old → IsKnown disks new
  pub other : HasOther disks old → HasOther disks new
  -- of the current file alone
  pub stands : (bodies : List (List ℕ)) → Stands disks bodies old → Stands disks bodies new
  pub may_stand : (bodies group : List (List ℕ)) → MayStand disks bodies group old → MayStand disks bodies group new
