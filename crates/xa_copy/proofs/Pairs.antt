-- Two files that a copy is.
use Rattle.std.proofs.Common.{◌≡◌, inl, ℕ, ◌≤◌, Bool, true, false, cond, List, [], ◌∷◌, ◌++◌, length, take, refl, sym, ◌∙◌, ap, arith, append_assoc, Option, Some, None}
use Rattle.std.specs.Prelude.{nat_lt, is_some, ◌||◌, ◌&&◌, not}
use Rattle.std.specs.List.{AllByRecursion}
use Rattle.std.proofs.lemmas.Bool.{or_right, eq-eqb}
use Rattle.std.proofs.lemmas.Bool.Decides.{nat_tests}
use Rattle.std.proofs.lemmas.List.{take_at}
use Rattle.xa_log.specs.Believed.Chain.{IsBody, Rests, closing, format_of, last, logged, magic, records, start, text}
use Rattle.xa_log.specs.Believed.Damage.{is_damaged, is_headless}
use Rattle.xa_log.specs.Believed.Generation.{number_in}
use Rattle.xa_log.specs.Believed.Pair.{beats, current_of, has_log, is_broken, on_first, pair_fault}
use Rattle.xa_log.specs.Believed.Standing.{standing}
use Rattle.xa_log.specs.Believed.Unfit.{generation_in, unfit_by, unfit_of}
use Rattle.xa_log.specs.Reading.{is_newer}
use Rattle.xa_log.specs.declared.fault.OpenFault.TheVariants.{Damaged, NotALog, TooLong, TooNew}
use Rattle.xa_log.specs.declared.format.Format.{Format}
use Rattle.xa_log.specs.declared.standing.Standing.TheVariants.{Log}
use Rattle.xa_log.specs.declared.unfit.Unfit.TheVariants.{Neither}
use Rattle.xa_log.proofs.Choosing.{newer_not}
use Rattle.xa_log.proofs.Records.{closed_zeros, format_magic, length-magic, rests_logged}
use Rattle.xa_log.proofs.Standings.{standing_log}
use Rattle.xa_log.proofs.Whole.{behind_closing, damaged_headed, whole_file}
use Rattle.xa_copy.specs.Copies.{IsPairOf}

-- a log with a closing length
module _ (format : Format) (bodies : List (List ℕ)) (sizes : AllByRecursion (IsBody format) bodies) (file : List ℕ) (is : file ≡ text format bodies ++ closing) where
  pub rests : Rests format bodies file
  rests = record { rest = closing; split = is; sizes = sizes; closed = closed_zeros format (last (start format) bodies) [] }

  pub logged_is : logged file ≡ bodies
  logged_is = rests_logged format bodies file rests

  front : take 8 file ≡ magic format
  front =
      ap (λ (l : List ℕ). take 8 l) (is ∙ append_assoc (magic format) (records (start format) bodies) closing)
      ∙ take_at (magic format) (records (start format) bodies ++ closing) 8 (length-magic format)

  pub named : format_of (take 8 file) ≡ Some format
  named = ap format_of front ∙ format_magic format

  pub has : has_log file ≡ true
  has = ap (λ (o : Option Format). is_some o) named

  pub older : is_newer (take 8 file) ≡ false
  older = newer_not (take 8 file) format named

  pub whole : is_damaged file ≡ false
  whole = whole_file format bodies file rests (behind_closing format bodies file [] is (inl refl))

  pub headed : is_headless file ≡ false
  headed = damaged_headed file whole

  pub stands : standing file ≡ Log
  stands = sym (standing_log file format named)

-- equal generations, and both have a record
first_wins : (body : List ℕ) (bodies : List (List ℕ)) → beats true (body ∷ bodies) (body ∷ []) ≡ true
first_wins body bodies = or_right (nat_lt (number_in body) (number_in body)) _ (ap (λ (b : Bool). b && true) (eq-eqb (number_in body) (number_in body) refl))

no_longer : (most : ℕ) (file : List ℕ) → length file ≤ most → nat_lt most (length file) ≡ false
no_longer most file fits = grind (arith, nat_tests, fits)

-- such a pair
module _ (most : ℕ) (format : Format) (body : List ℕ) (bodies : List (List ℕ)) (sizes : AllByRecursion (IsBody format) (body ∷ bodies))
    (first second : List ℕ) (first_is : first ≡ text format (body ∷ bodies) ++ closing) (second_is : second ≡ text format (body ∷ []) ++ closing)
    (fits : length first ≤ most) (fits_second : length second ≤ most) where
  one : AllByRecursion (IsBody format) (body ∷ [])
  one = (sizes.0, tt)

  a : Bool
  a = has_log first

  on : on_first first second ≡ true
  on =
      let log : has_log first ≡ true = has format (body ∷ bodies) sizes first first_is in
      let log' : has_log second ≡ true = has format (body ∷ []) one second second_is in
      let wins : beats true (logged first) (logged second) ≡ true =
      (λ i. beats true (logged_is format (body ∷ bodies) sizes first first_is i) (logged_is format (body ∷ []) one second second_is i)) ∙ first_wins body bodies in
      (λ i. log i && (not (log' i) || wins i))

  unbroken : is_broken first second ≡ false
  unbroken =
      let current : is_damaged (current_of first second) ≡ false =
      ap (λ (b : Bool). is_damaged (cond b first second)) on ∙ whole format (body ∷ bodies) sizes first first_is in
      (λ i. headed format (body ∷ bodies) sizes first first_is i || (headed format (body ∷ []) one second second_is i || current i))

  opens : pair_fault most first second ≡ None
  opens =
      let long = no_longer most first fits in
      let long' = no_longer most second fits_second in
      let new = older format (body ∷ bodies) sizes first first_is in
      let new' = older format (body ∷ []) one second second_is in
      let log = has format (body ∷ bodies) sizes first first_is in
      (λ i. cond (long i || long' i) (Some TooLong) (cond (new i || new' i) (Some TooNew)
      (cond (log i || has_log second) (cond (unbroken i) (Some Damaged) None) (Some NotALog))))

  fit : unfit_of most first second ≡ Neither
  fit =
      let long = no_longer most first fits in
      let long' = no_longer most second fits_second in
      (λ i. cond (long i || long' i) Neither
      (unfit_by (stands format (body ∷ bodies) sizes first first_is i) (stands format (body ∷ []) one second second_is i) (generation_in first)))

  pub pair_by : IsPairOf most format (body ∷ bodies) first second
  pair_by = record {
    first_is = first_is;
    second_is = second_is;
    logged = ap (λ (b : Bool). cond b (logged first) (logged second)) on ∙ logged_is format (body ∷ bodies) sizes first first_is;
    opens = opens;
    fits = fit;
  }
