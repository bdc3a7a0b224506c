-- The receipts from one on.
use Rattle.std.proofs.Common.{◌≡◌, ◌≢◌, ◌==◌, ◌||◌, ℕ, ◌+◌, ◌-◌, ◌<◌, ◌≤◌, inl, inr, Bool, true, false, List, ◌∷◌, length, set, refl, sym, ap, ◌∙◌, subst, arith, get_or, drop, drop-cons, length-set, add-one, Result, Err, Some}
use Rattle.std.specs.Prelude.{slice_get}
use Rattle.std.proofs.lemmas.Bool.{eqb-true, eqb-false}
use Rattle.std.proofs.lemmas.List.{get_or-set_other}
use Rattle.std.proofs.lemmas.Grind.{get_or-set_at}
use Rattle.std.proofs.lemmas.Option.{get_or_from_slice_get, slice_get-get_or}
use Rattle.xa_history.specs.declared.receipt.Receipt.{Receipt}
use Rattle.xa_room.specs.declared.auditing.AuditFault.{AuditFault}
use Rattle.xa_room.specs.declared.auditing.AuditFault.TheVariants.{Repeats, Differs}
use Rattle.xa_room.specs.Believed.Audit.{HasFault, IsKept, IsOutside, IsSound, Judges, is_met}
use Rattle.xa_room.specs.HasMet.{HasMet}

pub front : {X : Type 0} (rs : List X) (i : ℕ) (r : X) → i < length rs → r ≡ get_or rs i r → drop i rs ≡ r ∷ drop (i + 1) rs
front rs i r lt e = (rw (add-one, drop-cons rs i r lt) refl) ∙ ap (λ x. x ∷ drop (i + 1) rs) (sym e)

pub judges_good : (kept : List Receipt) (met : List ℕ) (rs : List Receipt) (i : ℕ) (r : Receipt) (answer : Result (Unit {0}) AuditFault)
    → i < length rs → r ≡ get_or rs i r → IsSound kept met r
    → Judges kept (r.place ∷ met) (i + 1) (drop (i + 1) rs) answer → Judges kept met i (drop i rs) answer
judges_good kept met rs i r answer lt e good js =
    let P : List Receipt → Type 0 = λ xs. Judges kept met i xs answer in
    subst P (sym (front rs i r lt e)) (inr (good, js))

pub judges_bad : (kept : List Receipt) (met : List ℕ) (rs : List Receipt) (i : ℕ) (r : Receipt) (f : AuditFault)
    → i < length rs → r ≡ get_or rs i r → HasFault kept met i r f → Judges kept met i (drop i rs) (Err f)
judges_bad kept met rs i r f lt e bad =
    let P : List Receipt → Type 0 = λ xs. Judges kept met i xs (Err f) in
    subst P (sym (front rs i r lt e)) (inl (f, bad, refl))

-- ---- one receipt, whose place is that of one that is kept

inside : (kept : List Receipt) (r : Receipt) → 0 < r.place → r.place ≤ length kept → IsOutside kept r → ⊥
inside kept r low high (inl none) = omega arith
inside kept r low high (inr above) = omega arith

-- what the bit of a place says
met_says : (bits : List Bool) (met : List ℕ) (place : ℕ) (b : Bool) → HasMet bits met → 0 < place → place ≤ length bits → slice_get bits (place - 1) ≡ Some b → is_met met place ≡ b
met_says bits met place b h low high bit =
    let on : place - 1 + 1 ≡ place = omega arith in
    let below : place - 1 < length bits = omega arith in
    let told : slice_get bits (place - 1) ≡ Some (is_met met place) = subst (λ p. slice_get bits (place - 1) ≡ Some (is_met met p)) on (h (place - 1) below) in
    cc

bit_set : (bits : List Bool) (met : List ℕ) (place p : ℕ) (b : Bool) → (place == p + 1) ≡ b → HasMet bits met → 0 < place → place ≤ length bits → p < length (set bits (place - 1) true)
    → slice_get (set bits (place - 1) true) p ≡ Some (b || is_met met (p + 1))
bit_set bits met place p true e h low high below =
    let same : place ≡ p + 1 = eqb-true place (p + 1) e in
    slice_get-get_or (set bits (place - 1) true) p true below ∙ ap Some (get_or-set_at bits (place - 1) p true true (omega arith) (omega arith))
bit_set bits met place p false e h low high below =
    let other : place ≢ p + 1 = eqb-false place (p + 1) e in
    let elsewhere : p ≢ place - 1 = omega arith in
    let within : p < length bits = omega (arith, length-set bits (place - 1) true) in
    slice_get-get_or (set bits (place - 1) true) p true below
    ∙ (ap Some (get_or-set_other bits (place - 1) p true true elsewhere) ∙ (sym (slice_get-get_or bits p true within) ∙ h p within))

one_more_met : (bits : List Bool) (met : List ℕ) (place : ℕ) → HasMet bits met → 0 < place → place ≤ length bits → HasMet (set bits (place - 1) true) (place ∷ met)
one_more_met bits met place h low high = λ p below. bit_set bits met place p (place == p + 1) refl h low high below

other_kept : (kept : List Receipt) (r : Receipt) (e : Receipt) → e ≡ get_or kept (r.place - 1) e → (r ≡ e → ⊥) → IsKept kept r → ⊥
other_kept kept r e at differs is = differs (sym (at ∙ get_or_from_slice_get kept (r.place - 1) r e is))

module _ (kept : List Receipt) (bits : List Bool) (met : List ℕ) (i : ℕ) (r : Receipt) (as_many : length bits ≡ length kept) (h : HasMet bits met)
    (low : 0 < r.place) (high : r.place ≤ length kept) where
  pub repeats : slice_get bits (r.place - 1) ≡ Some true → HasFault kept met i r (Repeats i)
  repeats bit = inr (inl (inside kept r low high, met_says bits met r.place true h low (omega arith) bit, refl))

  pub differs : slice_get bits (r.place - 1) ≡ Some false → (e : Receipt) → e ≡ get_or kept (r.place - 1) e → (r ≡ e → ⊥) → HasFault kept met i r (Differs i)
  differs bit e at other =
      inr (inr (inside kept r low high, met_says bits met r.place false h low (omega arith) bit, other_kept kept r e at other, refl))

  pub sound : slice_get bits (r.place - 1) ≡ Some false → (e : Receipt) → e ≡ get_or kept (r.place - 1) e → r ≡ e → HasMet (set bits (r.place - 1) true) (r.place ∷ met) × IsSound kept met r
  sound bit e at same =
      let found : slice_get kept (r.place - 1) ≡ Some r = slice_get-get_or kept (r.place - 1) e (omega arith) ∙ ap Some (sym at ∙ sym same) in
      (one_more_met bits met r.place h low (omega arith), (inside kept r low high, met_says bits met r.place false h low (omega arith) bit, found))
