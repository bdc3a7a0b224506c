-- Which of two files is missing.
use Rattle.std.proofs.Common.{◌≡◌, ◌≢◌, ℕ, ◌≤◌, ◌<◌, Bool, true, false, not, ◌&&◌, ◌||◌, List, [], ◌∷◌, length, take, refl, sym, ◌∙◌, ap, subst, arith, cond, nat_lt, Some, None}
use Rattle.std.proofs.lemmas.Bool.Decides.{nat_tests}
use Rattle.xa_log.specs.Believed.Checkpoint.{HasBytes}
use Rattle.xa_log.specs.declared.fault.OpenFault.TheVariants.{NotALog, TooNew, TooLong, Damaged}
use Rattle.xa_log.specs.Believed.Chain.{logged}
use Rattle.xa_log.specs.Believed.Pair.{generation, beats, has_log, is_broken, on_first, pair_fault}
use Rattle.xa_log.specs.Believed.Standing.{is_remnant, standing}
use Rattle.xa_log.specs.Believed.Unfit.{MissingLaw, generation_in, is_empty, missing_of, unfit_by, unfit_of}
use Rattle.xa_log.specs.Reading.{is_newer, bodies_of, IsScan}
use Rattle.xa_log.specs.declared.standing.Standing.{Standing}
use Rattle.xa_log.specs.declared.standing.Standing.TheVariants.{Nothing, Log, Later, Stray}
use Rattle.xa_log.specs.declared.unfit.Unfit.TheVariants.{Neither, MissingFirst, MissingSecond}
use Rattle.xa_log.specs.Opened.{WasFound}
use Rattle.xa_log.specs.declared.opened.Opened.{Opened}
use Rattle.xa_log.proofs.Opens.{scan_logged}

no_bytes : (file : List ℕ) → length file ≡ 0 → is_empty file ≡ true
no_bytes [] none = refl
no_bytes (x ∷ file) none = absurd (omega (arith, none))

some_bytes : (file : List ℕ) → 1 ≤ length file → is_empty file ≡ false
some_bytes [] some = absurd (omega (arith, some))
some_bytes (x ∷ file) some = refl

log_filled : (file : List ℕ) → has_log file ≡ true → is_empty file ≡ false
log_filled [] is = absurd (cc is)
log_filled (b ∷ file) is = refl

-- one of two files without a fault is a log
some_log : (most : ℕ) (a b : List ℕ) → pair_fault most a b ≡ None → (has_log a || has_log b) ≡ true
some_log most a b none = by (nat_lt most (length a) || nat_lt most (length b)) (is_newer (take 8 a) || is_newer (take 8 b)) (has_log a || has_log b) (is_broken a b) none
  where
    by : (s t l d : Bool) → cond s (Some TooLong) (cond t (Some TooNew) (cond l (cond d (Some Damaged) None) (Some NotALog))) ≡ None → l ≡ true
    by true t l d e = absurd (cc e)
    by false true l d e = absurd (cc e)
    by false false false d e = absurd (cc e)
    by false false true d e = refl

second_log : (most : ℕ) (a b : List ℕ) → pair_fault most a b ≡ None → false ≡ on_first a b → has_log b ≡ true
second_log most a b none other = by (has_log a) (has_log b) (beats true (logged a) (logged b)) (some_log most a b none) other
  where
    by : (x y z : Bool) → (x || y) ≡ true → false ≡ (x && (not y || z)) → y ≡ true
    by x true z some other = refl
    by true false z some other = absurd (cc other)
    by false false z some other = absurd (cc some)

first_log : (a b : List ℕ) → true ≡ on_first a b → has_log a ≡ true
first_log a b one = by (has_log a) (not (has_log b) || beats true (logged a) (logged b)) one
  where
    by : (x y : Bool) → true ≡ (x && y) → x ≡ true
    by true y is = refl
    by false y is = absurd (cc is)

-- ---- by the two files

pub gone_first : (a b : List ℕ) → length a ≡ 0 → has_log b ≡ true → missing_of a b ≡ MissingFirst
gone_first [] b none has = ap (λ (t : Bool). cond (true && t) MissingFirst (cond (is_empty b && nat_lt 1 0) MissingSecond Neither)) has
gone_first (x ∷ a) b none has = absurd (omega (arith, none))

none_gone : (a b : List ℕ) → length a ≢ 0 → has_log b ≡ true → missing_of a b ≡ Neither
none_gone [] b some has = absurd (some refl)
none_gone (x ∷ a) b some has = ap (λ (t : Bool). cond (t && nat_lt 1 (generation_in (x ∷ a))) MissingSecond Neither) (log_filled b has)

pub own_generation : (a : List ℕ) → has_log a ≡ true → generation_in a ≡ generation (logged a)
own_generation a has = ap (λ (t : Bool). cond t (generation (logged a)) 0) has

by_second : (a b : List ℕ) → has_log a ≡ true → missing_of a b ≡ cond (is_empty b && nat_lt 1 (generation (logged a))) MissingSecond Neither
by_second [] b has = absurd (cc has)
by_second (x ∷ a) b has = ap (λ (n : ℕ). cond (is_empty b && nat_lt 1 n) MissingSecond Neither) (own_generation (x ∷ a) has)

-- ---- by what was found of them

module _ (a b : List ℕ) (o : Opened) (f : WasFound a b o) where
  abbrev bodies : List (List ℕ)
  bodies = bodies_of o.scan.bodies.items

  pub found_no_first : o.on_first ≡ false → o.len ≡ 0 → missing_of a b ≡ MissingFirst
  found_no_first other none = gone_first a b (sym f.len ∙ none) (second_log o.log_bytes a b f.fault (sym other ∙ f.current.choice))

  pub found_first : o.on_first ≡ false → o.len ≢ 0 → missing_of a b ≡ Neither
  found_first other some = none_gone a b (λ none. some (f.len ∙ none)) (second_log o.log_bytes a b f.fault (sym other ∙ f.current.choice))

  by_bodies : o.on_first ≡ true → (t : Bool) → is_empty b ≡ t → missing_of a b ≡ cond (t && nat_lt 1 (generation bodies)) MissingSecond Neither
  by_bodies one t is =
      by_second a b (first_log a b (sym one ∙ f.current.choice))
      ∙ ap (λ (u : Bool). cond (u && nat_lt 1 (generation (logged a))) MissingSecond Neither) is
      ∙ ap (λ (l : List (List ℕ)). cond (t && nat_lt 1 (generation l)) MissingSecond Neither) (scan_logged a o.scan (subst (λ (t : Bool). IsScan (cond t a b) o.scan) one f.current.scan_is))

  pub found_second : o.on_first ≡ true → 1 ≤ o.second_len → missing_of a b ≡ Neither
  found_second one some = by_bodies one false (some_bytes b (omega (arith, some, f.second_len)))

  pub found_no_second : o.on_first ≡ true → o.second_len ≡ 0 → 1 < generation bodies → missing_of a b ≡ MissingSecond
  found_no_second one none more =
      let later : nat_lt 1 (generation bodies) ≡ true = grind (arith, nat_tests) in
      by_bodies one true (no_bytes b (omega (arith, none, f.second_len))) ∙ ap (λ (t : Bool). cond t MissingSecond Neither) later

  pub found_new : o.on_first ≡ true → o.second_len ≡ 0 → generation bodies ≤ 1 → missing_of a b ≡ Neither
  found_new one none few =
      let early : nat_lt 1 (generation bodies) ≡ false = grind (arith, nat_tests) in
      by_bodies one true (no_bytes b (omega (arith, none, f.second_len))) ∙ ap (λ (t : Bool). cond t MissingSecond Neither) early

-- ---- of two that fit

-- what stands in an empty file is nothing, and what is a log is one
log_stands : (file : List ℕ) → has_log file ≡ true → standing file ≡ Log
log_stands file has = ap (λ (t : Bool). cond t Log (cond (is_newer (take 8 file)) Later (cond (is_remnant file) Nothing Stray))) has

fits_by : (most : ℕ) (a b : List ℕ) → pair_fault most a b ≡ None → unfit_of most a b ≡ unfit_by (standing a) (standing b) (generation_in a)
fits_by most a b none = by (nat_lt most (length a) || nat_lt most (length b)) (cond (is_newer (take 8 a) || is_newer (take 8 b)) (Some TooNew) (cond (has_log a || has_log b) (cond (is_broken a b) (Some Damaged) None) (Some NotALog))) none
  where
    by : (s : Bool) (o : _) → cond s (Some TooLong) o ≡ None → cond s Neither (unfit_by (standing a) (standing b) (generation_in a)) ≡ unfit_by (standing a) (standing b) (generation_in a)
    by true o e = absurd (cc e)
    by false o e = refl

pub missing_law : MissingLaw
missing_law most a b fits none = by a b (has_log a) (has_log b) refl refl (sym (fits_by most a b none) ∙ fits) (some_log most a b none)
  where
    by : (a b : List ℕ) (x y : Bool) → has_log a ≡ x → has_log b ≡ y → unfit_by (standing a) (standing b) (generation_in a) ≡ Neither → (has_log a || has_log b) ≡ true → missing_of a b ≡ Neither
    by [] b x true p q fits some = absurd (cc (sym (ap (λ (s : Standing). unfit_by Nothing s 0) (log_stands b q)) ∙ fits))
    by [] b x false p q fits some = absurd (cc (sym q ∙ some))
    by (v ∷ a) [] x y p q fits some =
        let has : has_log (v ∷ a) ≡ true = first_of (has_log (v ∷ a)) some in
        by_second (v ∷ a) [] has ∙ small (v ∷ a) has (sym (ap (λ (s : Standing). unfit_by s Nothing (generation_in (v ∷ a))) (log_stands (v ∷ a) has)) ∙ fits)
      where
        first_of : (t : Bool) → (t || false) ≡ true → t ≡ true
        first_of true e = refl
        first_of false e = absurd (cc e)

        small : (a : List ℕ) → has_log a ≡ true → cond (nat_lt 1 (generation_in a)) MissingSecond Neither ≡ Neither → cond (nat_lt 1 (generation (logged a))) MissingSecond Neither ≡ Neither
        small a has e = ap (λ (n : ℕ). cond (nat_lt 1 n) MissingSecond Neither) (sym (own_generation a has)) ∙ e
    by (v ∷ a) (w ∷ b) x y p q fits some = refl

-- ---- none is

pub both_there : (a b : List ℕ) → HasBytes a → HasBytes b → missing_of a b ≡ Neither
both_there [] b some other = absurd (omega (arith, some))
both_there (x ∷ a) [] some other = absurd (omega (arith, other))
both_there (x ∷ a) (y ∷ b) some other = refl

few_by : (t : Bool) (n : ℕ) → n ≤ 1 → cond (t && nat_lt 1 n) MissingSecond Neither ≡ Neither
few_by false n few = refl
few_by true n few = let k : nat_lt 1 n ≡ false = grind (arith, nat_tests) in rw k refl

few_in : (a : List ℕ) (t : Bool) → generation (logged a) ≤ 1 → cond t (generation (logged a)) 0 ≤ 1
few_in a true few = few
few_in a false few = omega arith

-- of the first generation no second file is
pub second_free : (a b : List ℕ) → HasBytes a → generation (logged a) ≤ 1 → missing_of a b ≡ Neither
second_free [] b some few = absurd (omega (arith, some))
second_free (x ∷ a) b some few = few_by (is_empty b) (generation_in (x ∷ a)) (few_in (x ∷ a) (has_log (x ∷ a)) few)
