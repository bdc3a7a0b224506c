-- What a checkpoint's parts do to the file that they write.
use Rattle.std.specs.Prelude.{◌≡◌, ◌⊎◌, ℕ, ◌+◌, ◌-◌, ◌≤◌, min, true, false, List, [], ◌∷◌, ◌++◌, length, take, drop, replicate}
use Rattle.std.specs.List.{AllByRecursion}
use Rattle.std.specs.Int.{w32, to_be_bytes}
use Rattle.xa_disk.specs.Disk.{Only}
use Rattle.xa_disk.specs.declared.disk.Disk.{Ghosts}
use Rattle.xa_log.specs.declared.appending.Appended.{Appended}
use Rattle.xa_log.specs.declared.appending.Appended.TheVariants.{Kept, Refused, Lost, Full}
use Rattle.xa_log.specs.Answers.{FailedPut}
use Rattle.xa_log.specs.declared.format.Format.{Format}
use Rattle.xa_log.specs.declared.format.TheConstants.{PREAMBLE_BYTES}
use Rattle.xa_limits.specs.declared.TheConstants.{AROUND_BODY, FIRST_OFFSET, LENGTH_BYTES}
use Rattle.xa_log.specs.declared.checkpointing.TheConstants.{CLEARED_BYTES}
use Rattle.xa_log.specs.Believed.Chain.{start, closing, preamble, record_of, records, text, behind_text, IsBody, Rests}
use Rattle.xa_log.specs.Believed.Damage.{breaks_off, is_damaged}
use Rattle.xa_log.specs.Believed.Pair.{has_log, IsCalm, Behind, AllOrNoBodies, CalmTears}

-- a record, and this many zeros
abbrev pub tailed : List ℕ → List ℕ → ℕ → List ℕ
tailed prev body zeros = record_of prev body ++ replicate zeros 0

-- where the writing of a record at this offset begins: the preamble is left out
abbrev pub behind_preamble : ℕ → ℕ
behind_preamble at = at + (PREAMBLE_BYTES - at)

-- how many bytes of a body's record are then written, with this many zeros
abbrev pub bytes_behind : ℕ → List ℕ → ℕ → ℕ
bytes_behind at body zeros = AROUND_BODY + length body + zeros - (PREAMBLE_BYTES - at)

-- how many bytes the records of these bodies have: as many as stand after the preamble, with a closing length
abbrev pub records_bytes : Format → List (List ℕ) → ℕ
records_bytes format bodies = length (records (start format) bodies)

-- what stands after the preamble: the records without the first length, and a closing length
abbrev pub behind_front : Format → List (List ℕ) → List ℕ
behind_front format bodies = drop LENGTH_BYTES (records (start format) bodies) ++ closing

-- After a log of these bodies stand zeros, as many as have room: its closing length, and the first byte of what would
-- be a body.
abbrev pub IsCleared : ℕ → Format → List (List ℕ) → List ℕ → Type 0
IsCleared most format bodies file =
    take (min CLEARED_BYTES (most - length (text format bodies))) (behind_text format bodies file)
    ≡ replicate (min CLEARED_BYTES (most - length (text format bodies))) 0

-- a log of these bodies that lacks its first length
pub record IsReady (format : Format) (bodies : List (List ℕ)) (file : List ℕ) : Type 0 where
  pub rest : List ℕ
  pub split : file ≡ preamble format ++ (behind_front format bodies ++ rest)
  pub sizes : AllByRecursion (IsBody format) bodies
  pub some : 1 ≤ length bodies

-- one with a zero after its closing length, if the file goes on
pub record IsComplete (format : Format) (bodies : List (List ℕ)) (file : List ℕ) : Type 0 where
  pub ready : IsReady format bodies file
  pub cleared : (ready.rest ≡ []) ⊎ (take 1 ready.rest ≡ 0 ∷ [])

-- Enough zeros go after a checkpoint's closing length that one is there, or the file ends before it.
abbrev pub IsTailed : ℕ → ℕ → Format → List (List ℕ) → Type 0
IsTailed more most format bodies = (1 ≤ more) ⊎ (most ≤ PREAMBLE_BYTES + records_bytes format bodies)

abbrev pub first_length : List (List ℕ) → ℕ
first_length [] = 0
first_length (body ∷ bodies) = length body

-- Of the other file: no longer than a log may be, and after the preamble as the log that stood there, if one
-- did. The same holds of each image that a crash may leave of it.
pub record IsOther {D : Type 0} (disks : Ghosts D) (most : ℕ) (stood : List (List ℕ)) (disk : D) : Type 0 where
  pub fits : length (disks.seen disk) ≤ most
  pub behind : Behind stood (disks.seen disk)
  pub left_fits : (c : List ℕ) → disks.may_leave disk c → length c ≤ most
  pub left_behind : (c : List ℕ) → disks.may_leave disk c → Behind stood c

-- it has a byte
abbrev pub HasBytes : List ℕ → Type 0
HasBytes file = 1 ≤ length file

-- A file isn't empty, and no crash leaves it so.
pub record NeverEmpty {D : Type 0} (disks : Ghosts D) (disk : D) : Type 0 where
  pub seen : HasBytes (disks.seen disk)
  pub left : (c : List ℕ) → disks.may_leave disk c → HasBytes c

-- Nothing of it is left to chance.
pub record IsQuiet {D : Type 0} (disks : Ghosts D) (stood : List (List ℕ)) (disk : D) : Type 0 where
  pub calm : IsCalm stood (disks.seen disk)
  pub left_calm : (c : List ℕ) → disks.may_leave disk c → IsCalm stood c

-- an image of a file that a checkpoint writes: no longer than a log may be, and without chance a log of these bodies or
-- of none
pub record LeavesOf (most : ℕ) (bodies : List (List ℕ)) (c : List ℕ) : Type 0 where
  pub fits : length c ≤ most
  pub reads : IsCalm bodies c → AllOrNoBodies bodies c

-- an image of a file with a whole header and a length 0
pub record LeavesNone (most : ℕ) (format : Format) (c : List ℕ) : Type 0 where
  pub fits : length c ≤ most
  pub front : take PREAMBLE_BYTES c ≡ preamble format

-- an image of a file from the seal on: its header is whole, and without chance its log doesn't break off
abbrev pub LeavesSealed : ℕ → List (List ℕ) → List ℕ → Type 0
LeavesSealed most bodies c =
    LeavesOf most bodies c × (has_log c ≡ true) × (IsCalm bodies c → is_damaged c ≡ false)

-- An image of a file at any moment of a checkpoint: until the header is synced it has without chance what stood there
-- or nothing, until the seal nothing, whatever was left, and from the seal on without chance these bodies or nothing.
abbrev pub LeavesAny : ℕ → Format → List (List ℕ) → List (List ℕ) → List ℕ → Type 0
LeavesAny most format stood bodies c = LeavesOf most stood c ⊎ LeavesNone most format c ⊎ LeavesSealed most bodies c

-- The premise on a disk's failed writes: a seal that was lost leaves nothing by chance to a read.
abbrev pub SealTears : (List ℕ → ℕ → List ℕ → List ℕ → Type 0) → Type 0
SealTears tears = (format : Format) (bodies : List (List ℕ)) (old mid new : List ℕ) → IsReady format bodies old
    → FailedPut tears old FIRST_OFFSET (to_be_bytes w32 (first_length bodies)) mid → FailedPut tears mid FIRST_OFFSET closing new
    → IsCalm bodies new

-- what a checkpoint left of the file that it wrote
abbrev pub Checkpointed : {D : Type 0} → Ghosts D → Appended → ℕ → Format → List (List ℕ) → List (List ℕ)
    → D → D → Type 0
Checkpointed disks Kept most format stood bodies old new =
    Rests format bodies (disks.seen new) × (length (disks.seen new) ≤ most)
    × Only (disks.seen new) (disks.may_leave new) × (breaks_off format bodies (disks.seen new) ≡ false)
-- by a fault in the first part, or after it
Checkpointed disks Refused most format stood bodies old new =
    (IsOther disks most stood new
    × (CalmTears disks.tears → IsCalm stood (disks.seen old) → IsCalm stood (disks.seen new)))
    ⊎ (IsOther disks most [] new × IsQuiet disks [] new)
Checkpointed disks Lost most format stood bodies old new =
    -- the seal is after the first 8 bytes, which were synced
    LeavesSealed most bodies (disks.seen new) × (SealTears disks.tears → IsCalm bodies (disks.seen new))
    × ((c : List ℕ) → disks.may_leave new c → LeavesSealed most bodies c)
Checkpointed disks Full most format stood bodies old new = ⊥
