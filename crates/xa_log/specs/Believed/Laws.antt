-- Which log two files have, from what an image of each is.
use Rattle.std.specs.Prelude.{◌≡◌, ◌⊎◌, ℕ, ◌+◌, ◌≤◌, ◌<◌, Bool, true, false, List, [], ◌∷◌, ◌++◌, length, take, drop, slice_index, None}
use Rattle.std.specs.List.{AllByRecursion}
use Rattle.xa_log.specs.declared.format.Format.{Format}
use Rattle.xa_log.specs.declared.format.TheConstants.{PREAMBLE_BYTES}
use Rattle.xa_disk.specs.Disk.{put, Torn}
use Rattle.xa_disk.specs.declared.disk.Disk.{Ghosts}
use Rattle.xa_log.specs.Believed.Chain.{start, last, text, Rests, body_at, behind_text, chains_on, is_record, logged}
use Rattle.xa_log.specs.Believed.Group.{closed_by, group_bytes, HasFirstPart, IsPlain}
use Rattle.xa_log.specs.Believed.Pair.{generation, has_log, beats, logged_of, fault_pair, IsCalm, Behind}
use Rattle.xa_log.specs.Believed.Checkpoint.{IsCleared, LeavesOf, LeavesNone, LeavesSealed}
use Rattle.xa_log.specs.Believed.Damage.{breaks_off, is_appended, is_cut}
use Rattle.xa_log.specs.Believed.LeftOut.{is_own, stops_short}
use Rattle.xa_log.specs.declared.left_out.TheConstants.{MOST_GROUP}
use Rattle.xa_log.specs.declared.checkpointing.TheConstants.{CLEARED_BYTES}
use Rattle.xa_limits.specs.declared.TheConstants.{LENGTH_BYTES}
use Rattle.xa_log.specs.Believed.Stands.{Leaves}
use Rattle.xa_log.specs.Believed.TwoFiles.{Pair, IsOpenPair, NoStray, first_of, second_of}
use Rattle.xa_log.specs.Believed.LogView.{LogView}

-- an image that is a log of these bodies, and doesn't break off
pub record IsLogOf (most : ℕ) (bodies : List (List ℕ)) (file : List ℕ) : Type 0 where
  pub format : Format
  pub fits : length file ≤ most
  pub rests : Rests format bodies file
  pub whole : breaks_off format bodies file ≡ false

-- any image of the other file that has after the first 12 bytes what stood there
abbrev pub BehindLaw : Type 0
BehindLaw = (most : ℕ) (stood : List (List ℕ)) (other : List ℕ)
    → length other ≤ most → Behind stood other → LeavesOf most stood other

-- until a checkpoint's header is synced, and beside a log that nothing is appended to: whichever image the other file
-- is
abbrev pub PairLaw : Type 0
PairLaw = (most : ℕ) (first : Bool) (bodies stood : List (List ℕ)) (current other : List ℕ)
    → IsLogOf most bodies current → LeavesOf most stood other → IsCalm stood other → beats first bodies stood ≡ true
    → (fault_pair most first current other ≡ None) × (logged_of first current other ≡ bodies)

-- beside an append of a group: whichever images the two files are
abbrev pub AppendLaw : Type 0
AppendLaw = (most : ℕ) (first : Bool) (format : Format) (bodies group stood : List (List ℕ)) (current other : List ℕ)
    → Leaves most format bodies group current → IsPlain format bodies group current
    → LeavesOf most stood other → IsCalm stood other → beats first bodies stood ≡ true
    → (fault_pair most first current other ≡ None) × HasFirstPart bodies group (logged_of first current other)

-- between the header and the seal: whatever was left of the records
abbrev pub HeaderLaw : Type 0
HeaderLaw = (most : ℕ) (first : Bool) (format : Format) (bodies : List (List ℕ)) (current other : List ℕ)
    → IsLogOf most bodies current → LeavesNone most format other
    → (fault_pair most first current other ≡ None) × (logged_of first current other ≡ bodies)

-- from the seal on
abbrev pub SealLaw : Type 0
SealLaw = (most : ℕ) (first : Bool) (bodies fresh : List (List ℕ)) (current other : List ℕ)
    → IsLogOf most bodies current → LeavesSealed most fresh other → IsCalm fresh other
    → generation bodies < generation fresh
    → (fault_pair most first current other ≡ None)
    × ((logged_of first current other ≡ bodies) ⊎ (logged_of first current other ≡ fresh))

-- What was read of two files is a pair, of which the other file comes after, if no stray records would come before
-- it.
abbrev pub OpenedLaw : {D : Type 0} → Ghosts D → Type 0
OpenedLaw {D} disks = (bodies : List (List ℕ)) (log : LogView D)
    → IsOpenPair disks bodies (logged (disks.seen log.other)) log
    → NoStray (disks.seen (first_of log)) (disks.seen (second_of log))
    → Pair disks bodies (logged (disks.seen log.other)) log

-- Chance is possible, and not only by a digest: what stands after 8 bytes that are no log's may be a log's records. So
-- if a file isn't a log, that none chain there which would come before the other file's log is a premise of its own.
abbrev pub StrayLaw : Type 0
StrayLaw = (format : Format) (bodies : List (List ℕ)) (file : List ℕ) → Rests format bodies file
    → (old : List ℕ) × (has_log old ≡ false) × Torn 0 PREAMBLE_BYTES old file × (logged file ≡ bodies)

-- No stale record follows a checkpoint: if its log has room for another record, whichever length is written over the
-- closing length and nothing after it, what chains there has a body that begins with 0. No record's body does; so
-- nothing that was ever logged comes back when an append is torn after its length.
abbrev pub StaleLaw : Type 0
StaleLaw = (most : ℕ) (format : Format) (bodies : List (List ℕ)) (size file : List ℕ)
    → IsCleared most format bodies file → length (text format bodies) + CLEARED_BYTES ≤ most
    → length size ≡ LENGTH_BYTES → chains_on format bodies (put file (length (text format bodies)) size) ≡ true
    → take 1 (body_at (behind_text format bodies (put file (length (text format bodies)) size))) ≡ 0 ∷ []

-- Each byte is the one's or the other's, or a zero; if one of the two has ended that is a zero too. Such is a file whose
-- write was torn between bytes, or between sectors of any size, and then cleared or not.
pub record IsMixed (old new file : List ℕ) : Type 0 where
  pub no_shorter : length old ≤ length file
  pub each : (i : ℕ) → (slice_index file i ≡ slice_index old i) ⊎ (slice_index file i ≡ slice_index new i) ⊎ (slice_index file i ≡ 0)

-- An append that is torn like this leaves no snapshot that is cut: that takes a byte that neither stood there nor was written.
abbrev pub MixedLaw : Type 0
MixedLaw = (format : Format) (bodies group : List (List ℕ)) (more : ℕ) (old file : List ℕ)
    → Rests format bodies old → 1 ≤ length bodies → is_cut format bodies old ≡ false
    → 1 ≤ length group → AllByRecursion (λ body. is_appended (slice_index body 0) ≡ true) group
    → IsMixed old (put old (length (text format bodies)) (closed_by more (last (start format) bodies) group)) file
    → is_cut format bodies file ≡ false

-- No record of a log of this generation begins at an offset or after it, on whichever digest.
abbrev pub NoOwn : Format → ℕ → ℕ → List ℕ → Type 0
NoOwn format generation from file = (at : ℕ) (prev : List ℕ) → from ≤ at → is_record format prev (drop at file) ≡ true
    → is_own generation (body_at (drop at file)) ≡ false

-- Whatever an append of a group leaves of its records, and however it was torn: the log doesn't stop short by them, if the
-- group is within its bound. Only by what begins after all that it wrote: records of its own, which never stood there.
abbrev pub TailLaw : Type 0
TailLaw = (format : Format) (bodies group : List (List ℕ)) (many : ℕ) (file : List ℕ)
    → group_bytes group + LENGTH_BYTES ≤ MOST_GROUP
    → NoOwn format (generation bodies) (length (text format bodies) + (group_bytes group + LENGTH_BYTES)) file
    → stops_short format (bodies ++ take many group) file ≡ false
