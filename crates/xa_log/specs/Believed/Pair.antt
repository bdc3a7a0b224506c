-- Two files, of which one has the log: which of them is the current one.
use Rattle.std.specs.Prelude.{◌≡◌, ◌⊎◌, ℕ, Bool, true, false, ◌&&◌, ◌||◌, not, nat_lt, ◌==◌}
use Rattle.std.specs.Prelude.{if◌then◌else◌, List, [], ◌∷◌, length, take, drop, Option, Some, None, is_some}
use Rattle.xa_disk.specs.Disk.{Torn}
use Rattle.xa_log.specs.declared.fault.OpenFault.{OpenFault}
use Rattle.xa_log.specs.declared.fault.OpenFault.TheVariants.{NotALog, TooNew, TooLong, Damaged}
use Rattle.xa_log.specs.declared.format.Format.{Format}
use Rattle.xa_log.specs.declared.format.TheConstants.{PREAMBLE_BYTES}
use Rattle.xa_limits.specs.declared.TheConstants.{FORMAT_BYTES}
use Rattle.xa_log.specs.Believed.Chain.{preamble, format_of, body_at, begins, logged}
use Rattle.xa_log.specs.Reading.{is_newer}
use Rattle.xa_log.specs.Believed.Damage.{is_damaged, is_headless}
unfoldable pub use Rattle.xa_log.specs.Believed.Generation.{number_in}
pub use Rattle.xa_log.specs.Believed.Generation.{generation}

abbrev pub is_nil : List (List ℕ) → Bool
is_nil [] = true
is_nil (body ∷ bodies) = false

-- These bodies take precedence over those of the other file: by generation, on a tie by having records, then by
-- standing in the first file. If neither file has a record, both say the same.
abbrev pub beats : Bool → List (List ℕ) → List (List ℕ) → Bool
beats first mine other =
    nat_lt (generation other) (generation mine)
    || ((generation other == generation mine) && (is_nil other || (first && not (is_nil mine))))

-- the file begins as a log
abbrev pub has_log : List ℕ → Bool
has_log file = is_some (format_of (take FORMAT_BYTES file))

-- the first file is the current one
abbrev pub on_first : List ℕ → List ℕ → Bool
on_first first second = has_log first && (not (has_log second) || beats true (logged first) (logged second))

-- the current file
abbrev pub current_of : List ℕ → List ℕ → List ℕ
current_of first second = if on_first first second then first else second

-- its bodies
abbrev pub logged_pair : List ℕ → List ℕ → List (List ℕ)
logged_pair first second = if on_first first second then logged first else logged second

-- either of two files breaks off before its first record, or the current one after some
abbrev pub is_broken : List ℕ → List ℕ → Bool
is_broken first second = is_headless first || (is_headless second || is_damaged (current_of first second))

-- why two files have no log of at most this length
abbrev pub pair_fault : ℕ → List ℕ → List ℕ → Option OpenFault
pair_fault most first second =
    if nat_lt most (length first) || nat_lt most (length second) then Some TooLong
    else (if is_newer (take FORMAT_BYTES first) || is_newer (take FORMAT_BYTES second) then Some TooNew
    else (if has_log first || has_log second
    then (if is_broken first second then Some Damaged else None) else Some NotALog))

-- the same of the current file and the other one; the flag says whether the current one is the first
abbrev pub logged_of : Bool → List ℕ → List ℕ → List (List ℕ)
logged_of first current other = if first then logged_pair current other else logged_pair other current

abbrev pub fault_pair : ℕ → Bool → List ℕ → List ℕ → Option OpenFault
fault_pair most first current other = if first then pair_fault most current other else pair_fault most other current

-- ---- an image of the other file

-- Without chance: it isn't a later format's, and if a record chains at its front, that is the first of these, and as
-- many chain as these are: if the name of another format came before them, its limit of bodies cuts none off, and
-- takes none more.
pub record IsCalm (stood : List (List ℕ)) (file : List ℕ) : Type 0 where
  pub known : is_newer (take FORMAT_BYTES file) ≡ false
  pub only : begins file ≡ true → take 1 stood ≡ body_at (drop FORMAT_BYTES file) ∷ []
  pub many : begins file ≡ true → length (logged file) ≡ length stood
  -- nor does it show a first record that doesn't chain
  pub headed : is_headless file ≡ false

-- what stands after the first 12 bytes is what stood after them in a log of these bodies, or they are none
abbrev pub Behind : List (List ℕ) → List ℕ → Type 0
Behind stood file = (stood ≡ []) ⊎ ((base : List ℕ) × (logged base ≡ stood) × Torn 0 PREAMBLE_BYTES base file)

-- it has these bodies, or none
abbrev pub AllOrNoBodies : List (List ℕ) → List ℕ → Type 0
AllOrNoBodies bodies file = (logged file ≡ bodies) ⊎ (logged file ≡ [])

-- The premise on a disk's failed writes: a header that was lost leaves nothing by chance to a read.
abbrev pub CalmTears : (List ℕ → ℕ → List ℕ → List ℕ → Type 0) → Type 0
CalmTears tears = (format : Format) (stood : List (List ℕ)) (old new : List ℕ)
    → IsCalm stood old → tears old 0 (preamble format) new → IsCalm stood new
