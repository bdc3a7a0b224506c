-- What stands in a file.
use Rattle.std.proofs.Common.{◌≡◌, ◌≢◌, ◌⊎◌, inl, inr, ℕ, ◌+◌, ◌<◌, Bool, true, false, ◌&&◌, ◌||◌, ◌==◌, List, [], ◌∷◌, length, take, drop, refl, sym, ◌∙◌, ap, arith, cond, min, slice_index, Option, Some, None}
use Rattle.std.specs.Prelude.{is_some}
use Rattle.std.proofs.lemmas.List.{drop_more, take_min}
use Rattle.std.proofs.lemmas.Bool.{cases_Bool, or_from}
use Rattle.std.proofs.lemmas.Bool.Decides.{nat_tests}
use Rattle.xa_log.specs.declared.fault.OpenFault.{OpenFault}
use Rattle.xa_log.specs.declared.fault.OpenFault.TheVariants.{TooNew}
use Rattle.xa_log.specs.declared.format.Format.{Format}
use Rattle.xa_log.specs.declared.format.Format.TheVariants.{One, Two}
use Rattle.xa_log.specs.Believed.Chain.{preamble, format_of}
use Rattle.xa_log.specs.Believed.Pair.{has_log}
use Rattle.xa_log.specs.Reading.{is_newer, front_fault}
use Rattle.xa_log.specs.Believed.Standing.{is_part_of, is_remnant, standing}
use Rattle.xa_log.specs.declared.standing.Standing.TheVariants.{Nothing, Log, Later, Stray}
use Rattle.xa_log.proofs.Choosing.{fault_says}

-- ---- byte by byte

-- the byte at a place may be left of what was to be written there
abbrev may_stand : List ℕ → List ℕ → ℕ → Bool
may_stand written file i = (slice_index file i == 0) || (slice_index file i == slice_index written i)

part_on : (written file : List ℕ) (i : ℕ) → i < length file → i < length written
    → is_part_of (drop i written) (drop i file) ≡ (may_stand written file i && is_part_of (drop (i + 1) written) (drop (i + 1) file))
part_on written file i in_file in_written =
    λ j. is_part_of (drop_more written i 0 in_written j) (drop_more file i 0 in_file j)

pub part_goes_on : (written file : List ℕ) (i : ℕ) → i < length file → i < length written
    → (slice_index file i ≡ 0) ⊎ (slice_index file i ≡ slice_index written i)
    → is_part_of (drop i written) (drop i file) ≡ is_part_of (drop (i + 1) written) (drop (i + 1) file)
part_goes_on written file i in_file in_written stands =
    let may : may_stand written file i ≡ true = grind (arith, nat_tests, stands) in
    part_on written file i in_file in_written ∙ ap (λ (t : Bool). t && is_part_of (drop (i + 1) written) (drop (i + 1) file)) may

pub part_ends : (written file : List ℕ) (i : ℕ) → i < length file → i < length written
    → slice_index file i ≢ 0 → slice_index file i ≢ slice_index written i
    → is_part_of (drop i written) (drop i file) ≡ false
part_ends written file i in_file in_written some other =
    let not : may_stand written file i ≡ false = grind (arith, nat_tests, some, other) in
    part_on written file i in_file in_written ∙ ap (λ (t : Bool). t && is_part_of (drop (i + 1) written) (drop (i + 1) file)) not

pub part_long : (written file : List ℕ) → length written < length file → is_part_of written file ≡ false
part_long written [] long = absurd (omega (arith, long))
part_long [] (byte ∷ file) long = refl
part_long (new ∷ written) (byte ∷ file) long =
    let rest : is_part_of written file ≡ false = part_long written file (omega (arith, long)) in
    elim (cases_Bool ((byte == 0) || (byte == new))) [
      | inl may ↦ ap (λ (t : Bool). t && is_part_of written file) may ∙ rest
      | inr other ↦ ap (λ (t : Bool). t && is_part_of written file) other
    ]

-- a longer file isn't what is left of so short a write
pub remnant_long : (file : List ℕ) → 12 < length file → is_remnant file ≡ false
remnant_long file long =
    or_from (is_part_of (preamble One) file) (is_part_of (preamble Two) file) (part_long (preamble One) file long) (part_long (preamble Two) file long)

-- ---- by its name

pub standing_log : (file : List ℕ) (format : Format) → format_of (take 8 file) ≡ Some format → Log ≡ standing file
standing_log file format is =
    let log : has_log file ≡ true = ap (λ (o : Option Format). is_some o) is in rw log refl

pub standing_later : (file : List ℕ) → front_fault (take 8 file) ≡ Some TooNew → Later ≡ standing file
standing_later file is =
    let says = fault_says (take 8 file) TooNew is in
    let none : has_log file ≡ false = ap (λ (o : Option Format). is_some o) (sym says.format) in
    let newer : is_newer (take 8 file) ≡ true = sym (says.newer refl) in
    rw (none, newer) refl

unnamed : (file : List ℕ) → None ≡ format_of (take 8 file) → is_newer (take 8 file) ≡ false → standing file ≡ cond (is_remnant file) Nothing Stray
unnamed file none old =
    let no : has_log file ≡ false = ap (λ (o : Option Format). is_some o) (sym none) in
    rw (no, old) refl

pub standing_other : (file : List ℕ) (e : OpenFault) → front_fault (take 8 file) ≡ Some e → e ≢ TooNew → standing file ≡ cond (is_remnant file) Nothing Stray
standing_other file e is old =
    let says = fault_says (take 8 file) e is in
    unnamed file says.format (sym (says.older old))

-- ---- by its first bytes

pub first_bytes : (file bytes : List ℕ) (n : ℕ) → length bytes ≡ min n (length file) → bytes ≡ take (length bytes) file → bytes ≡ take n file
first_bytes file bytes n long are = are ∙ ap (λ (k : ℕ). take k file) long ∙ take_min n file
