-- A group: several records that are appended by one write and one sync. An append of one body is the group of one.
use Rattle.std.specs.Prelude.{◌≡◌, ℕ, ◌+◌, ◌≤◌, ◌<◌, true, false, List, [], ◌∷◌, ◌++◌, length, take, replicate, slice_index}
use Rattle.std.specs.List.{AllByRecursion}
use Rattle.xa_limits.specs.declared.TheConstants.{AROUND_BODY, LENGTH_BYTES}
use Rattle.xa_log.specs.Answers.{FailedPut, FailedPutAhead}
use Rattle.xa_log.specs.Believed.Chain.{start, last, text, closing, record_of}
use Rattle.xa_log.specs.Believed.Chain.{records, body_at, chains_on, behind_text, IsBody, Rests}
use Rattle.xa_log.specs.Believed.Damage.{breaks_off, AreAppended}
use Rattle.xa_log.specs.Reading.{bodies_of}
use Rattle.xa_log.specs.declared.format.Format.{Format}
use Rattle.xa_log.specs.declared.group.Group.{Group}
use Rattle.xa_log.specs.declared.group.Group.TheVariants.{One, Many}

-- the bodies of a group, in their order
abbrev pub bodies_in : Group → List (List ℕ)
bodies_in (One body) = body.now ∷ []
bodies_in (Many bodies) = bodies_of bodies.now

-- how many bytes the records of these bodies have
abbrev pub group_bytes : List (List ℕ) → ℕ
group_bytes [] = 0
group_bytes (body ∷ group) = AROUND_BODY + length body + group_bytes group

-- how many bytes a body has whose record is as long as these together: what is said of an append of this many bytes holds
-- of a group
abbrev pub as_one : List (List ℕ) → ℕ
as_one [] = 0
as_one (body ∷ group) = length body + group_bytes group

-- a group's first body
abbrev pub first_of_group : List (List ℕ) → List ℕ
first_of_group [] = []
first_of_group (body ∷ group) = body

-- their records and a closing length
abbrev pub closed : List ℕ → List (List ℕ) → List ℕ
closed prev group = records prev group ++ closing

-- and this many more zeros, which make the bytes after it ready
abbrev pub closed_by : ℕ → List ℕ → List (List ℕ) → List ℕ
closed_by more prev group = closed prev group ++ replicate more 0

-- these bodies and some first part of the group
pub record HasFirstPart (bodies group found : List (List ℕ)) : Type 0 where
  pub many : ℕ
  pub within : many ≤ length group
  pub is : found ≡ bodies ++ take many group

-- a log of the bodies and some first part of the group, that doesn't break off
pub record IsFirstPart (format : Format) (bodies group : List (List ℕ)) (file : List ℕ) : Type 0 where
  pub many : ℕ
  pub within : many ≤ length group
  pub rests : Rests format (bodies ++ take many group) file
  pub whole : breaks_off format (bodies ++ take many group) file ≡ false

-- ---- chance

-- Without chance: after the bodies no records chain but the group's, in their order and from the first on; and if none
-- does, the log doesn't break off: what a torn append leaves after a snapshot isn't what a body of a snapshot begins with,
-- and no records of the log's own chain after what it wrote.
abbrev pub IsPlain : Format → List (List ℕ) → List (List ℕ) → List ℕ → Type 0
IsPlain format bodies [] file = (chains_on format bodies file ≡ false) × (breaks_off format bodies file ≡ false)
IsPlain format bodies (body ∷ group) file =
    (chains_on format bodies file ≡ false → breaks_off format bodies file ≡ false)
    × (chains_on format bodies file ≡ true
    → (take (AROUND_BODY + length body) (behind_text format bodies file) ≡ record_of (last (start format) bodies) body)
    × IsPlain format (bodies ++ body ∷ []) group file)

-- the records that chain after the bodies have the group's bodies, in their order and from the first on, and the log
-- doesn't break off after them
abbrev pub HasBodiesOf : Format → List (List ℕ) → List (List ℕ) → List ℕ → Type 0
HasBodiesOf format bodies [] file = (chains_on format bodies file ≡ false) × (breaks_off format bodies file ≡ false)
HasBodiesOf format bodies (body ∷ group) file =
    (chains_on format bodies file ≡ false → breaks_off format bodies file ≡ false)
    × (chains_on format bodies file ≡ true
    → (body_at (behind_text format bodies file) ≡ body) × HasBodiesOf format (bodies ++ body ∷ []) group file)

-- Of bytes that is enough: lengths and digests follow.
abbrev pub PlainByBody : Type 0
PlainByBody = (format : Format) (bodies group : List (List ℕ)) (file : List ℕ)
    → ((i : ℕ) → slice_index file i < 256) → HasBodiesOf format bodies group file → IsPlain format bodies group file

-- The premise on a disk's failed writes: what a lost append of this group leaves to a read is without chance, if the log
-- didn't break off before it.
abbrev pub NoChance : (List ℕ → ℕ → List ℕ → List ℕ → Type 0) → List (List ℕ) → Type 0
NoChance tears group = (format : Format) (bodies : List (List ℕ)) (old mid new : List ℕ) (more : ℕ)
    → Rests format bodies old → breaks_off format bodies old ≡ false
    → 1 ≤ length group → AllByRecursion (IsBody format) group → AreAppended bodies group
    → FailedPutAhead tears old (length (text format bodies))
    (closed (last (start format) bodies) group) (closed_by more (last (start format) bodies) group) mid
    → FailedPut tears mid (length (text format bodies)) (replicate (group_bytes group + LENGTH_BYTES) 0) new
    → IsPlain format bodies group new
