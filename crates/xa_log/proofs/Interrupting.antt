-- What an interrupted write of a log's first 12 bytes leaves.
use Rattle.std.proofs.Common.{◌≡◌, ◌≢◌, ◌⊎◌, inl, inr, ⊎_elim, ℕ, zero, suc, ◌<◌, ◌≤◌, Bool, true, false, ◌&&◌, ◌||◌, ◌==◌, List, [], ◌∷◌, ◌++◌, length, take, refl, sym, ◌∙◌, ap, subst, arith, cond, nat_le, slice_index, Option, Some, None}
use Rattle.std.specs.Prelude.{is_some}
use Rattle.std.specs.Str.{bytes_eq}
use Rattle.std.proofs.lemmas.Bool.{cases_Bool, cases_lt, both_ways, cases_eq, and_from, and_left, and_right, or_left, or_right}
use Rattle.std.proofs.lemmas.List.{ext_get_or, get_or-take, length-take}
use Rattle.std.proofs.lemmas.Bool.Decides.{nat_tests}
use Rattle.xa_log.specs.declared.format.Format.{Format}
use Rattle.xa_log.specs.declared.format.Format.TheVariants.{One, Two}
use Rattle.xa_log.specs.Believed.Chain.{magic, preamble, format_of}
use Rattle.xa_log.specs.Believed.Pair.{has_log}
use Rattle.xa_log.specs.Reading.{is_newer}
use Rattle.xa_log.specs.Believed.Standing.{is_part_of, is_remnant, standing, Interrupted}
use Rattle.xa_log.specs.declared.standing.Standing.TheVariants.{Nothing, Log, Later, Stray}
use Rattle.xa_log.proofs.Choosing.{magic_of}
use Rattle.xa_log.proofs.Header.{length-preamble}
use Rattle.xa_log.proofs.Standings.{part_long}

-- ---- byte by byte

both : (x y : Bool) → (x && y) ≡ true → (x ≡ true) × (y ≡ true)
both true y is = (refl, is)
both false y is = absurd (cc is)

either_byte : (byte new : ℕ) → ((byte == 0) || (byte == new)) ≡ true → (byte ≡ 0) ⊎ (byte ≡ new)
either_byte byte new is = grind (arith, nat_tests)

is_either : (byte new : ℕ) → (byte ≡ 0) ⊎ (byte ≡ new) → ((byte == 0) || (byte == new)) ≡ true
is_either byte new is = grind (arith, nat_tests)

part_byte : (written file : List ℕ) (i : ℕ) → is_part_of written file ≡ true → (slice_index file i ≡ 0) ⊎ (slice_index file i ≡ slice_index written i)
part_byte written [] i is = inl refl
part_byte [] (byte ∷ file) i is = absurd (cc is)
part_byte (new ∷ written) (byte ∷ file) zero is = either_byte byte new (both ((byte == 0) || (byte == new)) (is_part_of written file) is).0
part_byte (new ∷ written) (byte ∷ file) (suc i) is = part_byte written file i (both ((byte == 0) || (byte == new)) (is_part_of written file) is).1

pub part_short : (written file : List ℕ) → is_part_of written file ≡ true → length file ≤ length written
part_short written file is = elim (cases_lt (length written) (length file)) [
  | inl long ↦ absurd (both_ways (is_part_of written file) (part_long written file long) is)
  | inr short ↦ short
]

part_from : (written file : List ℕ) → length file ≤ length written
    → ((i : ℕ) → i < length file → (slice_index file i ≡ 0) ⊎ (slice_index file i ≡ slice_index written i)) → is_part_of written file ≡ true
part_from written [] short each = refl
part_from [] (byte ∷ file) short each = absurd (omega (arith, short))
part_from (new ∷ written) (byte ∷ file) short each =
    and_from ((byte == 0) || (byte == new)) (is_part_of written file) (is_either byte new (each 0 (omega arith)))
    (part_from written file (omega (arith, short)) (λ i within. each (suc i) (omega (arith, within))))

-- ---- the two formats' first bytes

away : (xs ys : List ℕ) (a b i : ℕ) → i ≢ length xs → slice_index (xs ++ (a ∷ ys)) i ≡ slice_index (xs ++ (b ∷ ys)) i
away [] ys a b zero other = absurd (other refl)
away [] ys a b (suc i) other = refl
away (x ∷ xs) ys a b zero other = refl
away (x ∷ xs) ys a b (suc i) other = away xs ys a b i (λ same. other (ap suc same))

-- they differ in the digit alone
agree : (f g : Format) (i : ℕ) → i ≢ 7 → slice_index (preamble f) i ≡ slice_index (preamble g) i
agree One One i other = refl
agree Two Two i other = refl
agree One Two i other = away (88 ∷ 65 ∷ 82 ∷ 77 ∷ 76 ∷ 79 ∷ 71 ∷ []) (0 ∷ 0 ∷ 0 ∷ 0 ∷ []) 49 50 i other
agree Two One i other = away (88 ∷ 65 ∷ 82 ∷ 77 ∷ 76 ∷ 79 ∷ 71 ∷ []) (0 ∷ 0 ∷ 0 ∷ 0 ∷ []) 50 49 i other

digit : (f : Format) → slice_index (preamble f) 7 < 51
digit One = omega arith
digit Two = omega arith

low_digit : (front : List ℕ) → slice_index front 7 < 51 → is_newer front ≡ false
low_digit front low =
    let no : nat_le 51 (slice_index front 7) ≡ false = grind (arith, nat_tests, low) in
    and_right (bytes_eq (take 7 front) (take 7 (magic One))) _ (and_left (nat_le 51 (slice_index front 7)) _ no)

-- ---- of nothing

remnant_of : (file : List ℕ) → standing file ≡ Nothing → is_remnant file ≡ true
remnant_of file is = by (has_log file) (is_newer (take 8 file)) (is_remnant file) is
  where
    by : (log newer left : Bool) → cond log Log (cond newer Later (cond left Nothing Stray)) ≡ Nothing → left ≡ true
    by true newer left is = absurd (cc is)
    by false true left is = absurd (cc is)
    by false false true is = refl
    by false false false is = absurd (cc is)

pub part_of : (file : List ℕ) → is_remnant file ≡ true → (f : Format) × (is_part_of (preamble f) file ≡ true)
part_of file is = elim (cases_Bool (is_part_of (preamble One) file)) [
  | inl one ↦ (One, one)
  | inr other ↦ (Two, sym (ap (λ (t : Bool). t || is_part_of (preamble Two) file) other) ∙ is)
]

remnant : (g : Format) (file : List ℕ) → is_part_of (preamble g) file ≡ true → is_remnant file ≡ true
remnant One file is = or_left (is_part_of (preamble One) file) (is_part_of (preamble Two) file) is
remnant Two file is = or_right (is_part_of (preamble One) file) (is_part_of (preamble Two) file) is

-- what is left of a format's first bytes names no later one
left_of : (g : Format) (file : List ℕ) → is_part_of (preamble g) file ≡ true → (standing file ≡ Nothing) ⊎ (standing file ≡ Log)
left_of g file is =
    let left : is_remnant file ≡ true = remnant g file is in
    let seventh : slice_index (take 8 file) 7 ≡ slice_index file 7 = get_or-take 8 file 7 0 (omega arith) in
    let low : slice_index (take 8 file) 7 < 51 = ⊎_elim (λ none. omega (arith, seventh, none)) (λ same. omega (arith, seventh, same, digit g)) (part_byte (preamble g) file 7 is) in
    let old : is_newer (take 8 file) ≡ false = low_digit (take 8 file) low in
    elim (cases_Bool (has_log file)) [
      | inl log ↦ inr (rw log refl)
      | inr none ↦ inl (rw (none, old, left) refl)
    ]

module _ (f format : Format) (old new : List ℕ) (it : Interrupted format old new) (part : is_part_of (preamble f) old ≡ true) where
  -- each byte is of either format
  each : (i : ℕ) → i < 12
      → (slice_index new i ≡ 0) ⊎ (slice_index new i ≡ slice_index (preamble f) i) ⊎ (slice_index new i ≡ slice_index (preamble format) i)
  each i within =
      ⊎_elim
      (λ stood. ⊎_elim (λ none. inl (stood ∙ none)) (λ same. inr (inl (stood ∙ same))) (part_byte (preamble f) old i part))
      (λ written. inr (inr written)) (it.bytes i within)

  short : length new ≤ 12
  short = omega (arith, it.torn.no_longer, part_short (preamble f) old part, length-preamble f)

  -- all of that which has the digit
  by_digit : (g : Format) → (slice_index new 7 ≡ 0) ⊎ (slice_index new 7 ≡ slice_index (preamble g) 7)
      → is_part_of (preamble g) new ≡ true
  by_digit g seventh =
      part_from (preamble g) new (omega (arith, short, length-preamble g))
      (λ i within. elim (cases_eq i 7) [
        | inl same ↦ subst (λ (k : ℕ). (slice_index new k ≡ 0) ⊎ (slice_index new k ≡ slice_index (preamble g) k)) (sym same) seventh
        | inr other ↦
            ⊎_elim (λ none. inl none)
            (λ some. inr (⊎_elim (λ stood. stood ∙ agree f g i other) (λ written. written ∙ agree format g i other) some))
            (each i (omega (arith, within, short)))
      ])

  left_new : (standing new ≡ Nothing) ⊎ (standing new ≡ Log)
  left_new =
      ⊎_elim (λ none. left_of f new (by_digit f (inl none)))
      (λ some. ⊎_elim (λ stood. left_of f new (by_digit f (inr stood))) (λ written. left_of format new (by_digit format (inr written))) some)
      (each 7 (omega arith))

pub interrupted_nothing : (format : Format) (old new : List ℕ) → Interrupted format old new → standing old ≡ Nothing
    → (standing new ≡ Nothing) ⊎ (standing new ≡ Log)
interrupted_nothing format old new it nothing =
    let part = part_of old (remnant_of old nothing) in
    left_new part.0 format old new it part.1

-- ---- of a log

log_of : (file : List ℕ) → standing file ≡ Log → (f : Format) × (format_of (take 8 file) ≡ Some f)
log_of file is = by (format_of (take 8 file)) refl (is_newer (take 8 file)) (is_remnant file) is
  where
    by : (o : Option Format) → format_of (take 8 file) ≡ o → (newer left : Bool) → cond (is_some o) Log (cond newer Later (cond left Nothing Stray)) ≡ Log
        → (f : Format) × (format_of (take 8 file) ≡ Some f)
    by (Some f) named newer left is = (f, named)
    by None named true left is = absurd (cc is)
    by None named false true is = absurd (cc is)
    by None named false false is = absurd (cc is)

named : (g : Format) (file : List ℕ) → take 8 file ≡ take 8 (preamble g) → standing file ≡ Log
named One file is = let log : has_log file ≡ true = ap (λ (l : List ℕ). is_some (format_of l)) is in rw log refl
named Two file is = let log : has_log file ≡ true = ap (λ (l : List ℕ). is_some (format_of l)) is in rw log refl

magic_front : (f : Format) → magic f ≡ take 8 (preamble f)
magic_front One = refl
magic_front Two = refl

module _ (f format : Format) (old new : List ℕ) (it : Interrupted format old new) (log : take 8 old ≡ take 8 (preamble f)) where
  stood : (i : ℕ) → i < 8 → slice_index old i ≡ slice_index (preamble f) i
  stood i within = sym (get_or-take 8 old i 0 within) ∙ ap (λ (l : List ℕ). slice_index l i) log ∙ get_or-take 8 (preamble f) i 0 within

  each_name : (i : ℕ) → i < 8 → (slice_index new i ≡ slice_index (preamble f) i) ⊎ (slice_index new i ≡ slice_index (preamble format) i)
  each_name i within = ⊎_elim (λ same. inl (same ∙ stood i within)) (λ written. inr written) (it.bytes i (omega (arith, within)))

  eight : length (take 8 new) ≡ 8
  eight =
      omega (arith, it.torn.no_shorter, length-take 8 new, length-take 8 old, ap (λ (l : List ℕ). length l) log, length-take 8 (preamble f), length-preamble f)

  by_name : (g : Format) → slice_index new 7 ≡ slice_index (preamble g) 7 → take 8 new ≡ take 8 (preamble g)
  by_name g seventh =
      ext_get_or 0 (take 8 new) (take 8 (preamble g)) (omega (arith, eight, length-take 8 (preamble g), length-preamble g))
      (λ i within.
      let inside : i < 8 = omega (arith, within, eight) in
      get_or-take 8 new i 0 inside
      ∙ elim (cases_eq i 7) [
        | inl same ↦ subst (λ (k : ℕ). slice_index new k ≡ slice_index (preamble g) k) (sym same) seventh
        | inr other ↦ ⊎_elim (λ same. same ∙ agree f g i other) (λ written. written ∙ agree format g i other) (each_name i inside)
      ]
      ∙ sym (get_or-take 8 (preamble g) i 0 inside))

  log_new : standing new ≡ Log
  log_new = ⊎_elim (λ same. named f new (by_name f same)) (λ written. named format new (by_name format written)) (each_name 7 (omega arith))

pub interrupted_log : (format : Format) (old new : List ℕ) → Interrupted format old new → standing old ≡ Log
    → standing new ≡ Log
interrupted_log format old new it log =
    let is = log_of old log in
    log_new is.0 format old new it (magic_of (take 8 old) is.0 is.1 ∙ magic_front is.0)
