-- How far a log was copied.
use Rattle.std.specs.Prelude.{◌≡◌, ℕ, suc, ◌+◌, ◌≤◌, Bool, true, false, not, ◌&&◌, slice_index, List, [], ◌∷◌, ◌++◌, length, take, drop}
use Rattle.std.specs.List.{AllByRecursion}
use Rattle.xa_log.specs.Believed.Chain.{IsBody, closing, digest, last, record_of, start, text}
use Rattle.xa_limits.specs.declared.TheConstants.{AROUND_BODY, LENGTH_BYTES}
use Rattle.xa_log.specs.Believed.Damage.{breaks_off, goes_on, is_appended, is_snapshot}
use Rattle.xa_log.specs.declared.format.Format.{Format}
use Rattle.xa_log.specs.declared.format.Format.TheVariants.{Two}
use Rattle.xa_copy.specs.declared.copying.Copying.{Copying}
use Rattle.xa_copy.specs.Gathers.{Gathers, end_of}
use Rattle.xa_copy.specs.Moving.{Goes, HasLog, State}

-- these bodies were read
pub record Has (bodies : List (List ℕ)) (copying : Copying) : Type 0 where
  pub sizes : AllByRecursion (IsBody copying.format) bodies
  pub digest : copying.digest ≡ last (start copying.format) bodies
  pub records : copying.records ≡ length bodies
  pub end : end_of copying.gather ≡ length (text copying.format bodies)
  pub snapshot : copying.is_snapshot ≡ is_snapshot bodies

-- within a log of at most this many bytes, with a closing length
pub record IsWithin (most : ℕ) (copying : Copying) : Type 0 where
  pub room : copying.gather.pending ≤ length copying.gather.buffer.items
  pub within : end_of copying.gather + LENGTH_BYTES ≤ most
  pub counted : copying.records ≤ end_of copying.gather

-- Since a moment, and while its log wasn't begun anew, the file begins with a log of these bodies.
pub record Follows (format : Format) (bodies : List (List ℕ)) (begin now : State) : Type 0 where
  pub goes : Goes begin now
  pub holds : now.life ≡ begin.life → HasLog format bodies now.file

-- the same, and a closing length stands after them, where the log doesn't break off
pub record Closes (format : Format) (bodies : List (List ℕ)) (file : List ℕ) : Type 0 where
  pub whole : breaks_off format bodies file ≡ false
  pub rest : List ℕ
  pub split : file ≡ text format bodies ++ (closing ++ rest)
  pub sizes : AllByRecursion (IsBody format) bodies

-- These bodies were read of a source since a moment, and are written to a file or gathered, if both are honest.
pub record Stands (source_honest disk_honest : Type 0) (begin now : State) (file : List ℕ)
    (bodies : List (List ℕ)) (copying : Copying) : Type 0 where
  pub has : Has bodies copying
  pub gathers : disk_honest → Gathers (text copying.format bodies) file copying.gather
  pub follows : source_honest → Follows copying.format bodies begin now

-- One record more was taken, which stands at an offset of what a source is now, if that is honest.
pub record Takes (source_honest : Type 0) (at : ℕ) (now : State) (old new : Copying) : Type 0 where
  pub body : List ℕ
  pub ok : IsBody old.format body
  pub read : source_honest → take (AROUND_BODY + length body) (drop at now.file) ≡ record_of old.digest body
  pub buffer : take new.gather.pending new.gather.buffer.items
      ≡ take old.gather.pending old.gather.buffer.items ++ record_of old.digest body
  pub pending : new.gather.pending ≡ old.gather.pending + (AROUND_BODY + length body)
  pub written : new.gather.written ≡ old.gather.written
  pub digest : new.digest ≡ digest old.digest body
  pub records : new.records ≡ suc old.records
  pub format : new.format ≡ old.format
  pub snapshot : new.is_snapshot ≡ (old.is_snapshot && not (is_appended (slice_index body 0)))

-- What stands after a log that ends in a closing length may do so: after a checkpoint's records of format 2 there are zeros,
-- or what is appended.
abbrev pub GoesOn : Copying → List ℕ → Type 0
GoesOn copying tail = copying.format ≡ Two → copying.is_snapshot ≡ true → goes_on tail ≡ true

-- One record more was copied, or there is none: a closing length stands after those before.
abbrev pub Steps : Type 0 → Type 0 → State → State → List ℕ → List (List ℕ) → Copying → Bool → Type 0
Steps source_honest disk_honest begin now file bodies copying true =
    (body : List ℕ) × Stands source_honest disk_honest begin now file (bodies ++ body ∷ []) copying
Steps source_honest disk_honest begin now file bodies copying false =
    Stands source_honest disk_honest begin now file bodies copying
    × (source_honest → now.life ≡ begin.life → Closes copying.format bodies now.file)

-- All was copied that the source had at a moment.
pub record Ends (source_honest disk_honest : Type 0) (begin now : State) (file : List ℕ) (copying : Copying) : Type 0 where
  pub bodies : List (List ℕ)
  pub stands : Stands source_honest disk_honest begin now file bodies copying
  pub closes : source_honest → now.life ≡ begin.life → Closes copying.format bodies now.file
