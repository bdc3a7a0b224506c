-- What stands in one of a log's two files.
use Rattle.std.specs.Prelude.{◌≡◌, ◌⊎◌, ◌<◌, ℕ, Bool, true, false, ◌&&◌, ◌||◌, ◌==◌, if◌then◌else◌, List, [], ◌∷◌, take, slice_index}
use Rattle.xa_disk.specs.Disk.{Torn}
use Rattle.xa_limits.specs.declared.TheConstants.{FORMAT_BYTES}
use Rattle.xa_log.specs.declared.format.Format.{Format}
use Rattle.xa_log.specs.declared.format.Format.TheVariants.{One, Two}
use Rattle.xa_log.specs.declared.format.TheConstants.{PREAMBLE_BYTES}
use Rattle.xa_log.specs.Believed.Chain.{preamble}
use Rattle.xa_log.specs.Believed.Pair.{has_log}
use Rattle.xa_log.specs.Reading.{is_newer}
use Rattle.xa_log.specs.declared.standing.Standing.{Standing}
use Rattle.xa_log.specs.declared.standing.Standing.TheVariants.{Nothing, Log, Later, Stray}

-- no more bytes than should have been written, and each is what should be at its place, or 0
abbrev pub is_part_of : List ℕ → List ℕ → Bool
is_part_of written [] = true
is_part_of [] (byte ∷ file) = false
is_part_of (new ∷ written) (byte ∷ file) = (byte == 0 || byte == new) && is_part_of written file

-- no byte, or what an interrupted write of a log's first 12 bytes leaves of an empty file
abbrev pub is_remnant : List ℕ → Bool
is_remnant file = is_part_of (preamble One) file || is_part_of (preamble Two) file

-- A log; one of a later format; nothing but what may be left of one that was being made; or something else.
abbrev pub standing : List ℕ → Standing
standing file =
    if has_log file then Log
    else (if is_newer (take FORMAT_BYTES file) then Later
    else (if is_remnant file then Nothing else Stray))

-- An interrupted write of a log's first 12 bytes: each byte is what stood there, 0 past the old end, or what was written.
pub record Interrupted (format : Format) (old new : List ℕ) : Type 0 where
  pub torn : Torn 0 PREAMBLE_BYTES old new
  pub bytes : (i : ℕ) → i < PREAMBLE_BYTES
      → (slice_index new i ≡ slice_index old i) ⊎ (slice_index new i ≡ slice_index (preamble format) i)

-- It makes no stray: of nothing it leaves nothing or a log, and of a log it leaves a log.
pub record InterruptedLaw : Type 0 where
  pub of_nothing : (format : Format) (old new : List ℕ) → Interrupted format old new → standing old ≡ Nothing
      → (standing new ≡ Nothing) ⊎ (standing new ≡ Log)
  pub of_log : (format : Format) (old new : List ℕ) → Interrupted format old new → standing old ≡ Log
      → standing new ≡ Log
