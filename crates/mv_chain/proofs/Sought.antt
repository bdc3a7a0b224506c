-- What is at an index of the slots is at that index of the versions.
use Rattle.std.proofs.Common.{◌≡◌, ℕ, zero, suc, ◌-◌, ◌<◌, ◌≤◌, Bool, true, false, leb, List, [], ◌∷◌, length, get_or, refl, sym, ap, ◌∙◌, subst, arith}
use Rattle.std.specs.Prelude.{nat_lt}
use Rattle.std.specs.List.Sorted.{IsPartitionPoint, IsNonDecreasingBy}
use Rattle.std.proofs.lemmas.Bool.Decides.{nat_tests}
use Rattle.mv_chain.specs.declared.version.Version.{Version}
use Rattle.mv_chain.specs.declared.pool.Pool.{Pool}
use Rattle.mv_chain.specs.Accesses.{shown}
use Rattle.mv_chain.specs.Chain.{base, as_written, shows, is_marked, IsChain, IsIndex}
use Rattle.mv_chain.specs.declared.look.Look.{Look}
use Rattle.mv_chain.specs.Look.{count_upto, looked, IsBelow}
use Rattle.mv_chain.specs.Pool.{version_at, shown_at}
use Rattle.mv_chain.proofs.Chains.{is_index, pending_shown, chain_ascends, shows_none, shows_last, marked_last, new_after, index_new, below_own, below_new}
use Rattle.mv_chain.proofs.Frames.{shown_length, shown_index}

pub ascends : (pool : Pool) (slots : List ℕ) → IsChain (shown_at pool slots) → IsNonDecreasingBy (λ s. (version_at pool s).timestamp) slots
ascends pool slots c = λ i j d le lt.
    let up = chain_ascends (shown_at pool slots) c i j base le (omega (arith, lt, shown_length pool slots)) in
    omega (arith, up, ap (λ v. v.timestamp) (shown_index pool slots i d base (omega (arith, le, lt))), ap (λ v. v.timestamp) (shown_index pool slots j d base lt))

pub is_index_in : (pool : Pool) (t i : ℕ) (slots : List ℕ) → i ≤ length slots → IsPartitionPoint (λ s. leb (version_at pool s).timestamp t ≡ true) (λ s. leb (version_at pool s).timestamp t ≡ false) slots i → IsIndex t i (shown_at pool slots)
is_index_in pool t i slots le h =
    is_index t i (shown_at pool slots) (omega (arith, le, shown_length pool slots))
    (λ k d lt.
    let test : leb (version_at pool (get_or slots k zero)).timestamp t ≡ true = h.0 k zero (omega (arith, le, lt)) lt in
    let same = ap (λ v. v.timestamp) (shown_index pool slots k zero d (omega (arith, le, lt))) in
    grind (arith, nat_tests, test, same))
    (λ k d from lt.
    let within : k < length slots = omega (arith, lt, shown_length pool slots) in
    let test : leb (version_at pool (get_or slots k zero)).timestamp t ≡ false = h.1 k zero from within in
    let same = ap (λ v. v.timestamp) (shown_index pool slots k zero d within) in
    grind (arith, nat_tests, test, same))

abbrev pub look_of : ℕ → ℕ → Bool → Bool → ℕ → Look
look_of t from pending late count = record { at = t; from = from; pending = pending; late = late; count = count }

made : (t f g : ℕ) (p q l m : Bool) (n k : ℕ) → f ≡ g → p ≡ q → l ≡ m → n ≡ k → look_of t f p l n ≡ look_of t g q m k
made t f g p q l m n k a b c d = rw (a, b, c, d) refl

pub index_counts : (t i : ℕ) (vs : List Version) → IsIndex t i vs → i ≡ count_upto t vs
index_counts t zero [] h = refl
index_counts t (suc i) [] h = absurd h
index_counts t zero (v ∷ vs) h = grind (arith, nat_tests, h.0, index_counts t zero vs h.1)
index_counts t (suc i) (v ∷ vs) h = grind (arith, nat_tests, h.0, index_counts t i vs h.1)

module _ (pool : Pool) (slots : List ℕ) (c : IsChain (shown_at pool slots)) where
  -- the last version up to t is shown
  pub sees : (t i d : ℕ) → i < length slots → IsIndex t (suc i) (shown_at pool slots) → shows t (shown_at pool slots) ≡ shown (as_written (version_at pool (get_or slots i d)))
  sees t i d lt h = shows_last t i (shown_at pool slots) base c h ∙ ap (λ v. shown (as_written v)) (shown_index pool slots i d base lt)

  pub sees_late : (t n d m : ℕ) → 0 < n → n ≤ length slots → IsBelow t n (shown_at pool slots) → m ≡ (version_at pool (get_or slots (n - 1) d)).mark → nat_lt t m ≡ is_marked t (shown_at pool slots)
  sees_late t n d m pos le h is =
      let next : n ≡ suc (n - 1) = omega (arith, pos) in
      let here = subst (λ (k : ℕ). IsBelow t k (shown_at pool slots)) next h in
      ap (nat_lt t) (is ∙ sym (ap (λ v. v.mark) (shown_index pool slots (n - 1) d base (omega (arith, pos, le))))) ∙ sym (marked_last t (n - 1) (shown_at pool slots) base c here)

  -- where the last version up to t is t's, those before it are below t
  pub own_there : (t n d m : ℕ) → 0 < n → n ≤ length slots → IsIndex t n (shown_at pool slots) → m ≡ (version_at pool (get_or slots (n - 1) d)).timestamp → m ≡ t → IsBelow t (n - 1) (shown_at pool slots)
  own_there t n d m pos le h is own =
      let next : n ≡ suc (n - 1) = omega (arith, pos) in
      below_own t (n - 1) (shown_at pool slots) base c (subst (λ (k : ℕ). IsIndex t k (shown_at pool slots)) next h)
      (ap (λ v. v.timestamp) (shown_index pool slots (n - 1) d base (omega (arith, pos, le))) ∙ (sym is ∙ own))

  -- where it isn't, none is
  pub none_there : (t n d m : ℕ) → 0 < n → n ≤ length slots → m ≡ (version_at pool (get_or slots (n - 1) d)).timestamp → (m ≡ t → ⊥) → (j : ℕ) (w : Version) → n ≡ suc j → (get_or (shown_at pool slots) j w).timestamp ≡ t → ⊥
  none_there t n d m pos le is ne =
      new_after (shown_at pool slots) t n base pos (omega (arith, le, shown_length pool slots))
      (λ same. ne (is ∙ (sym (ap (λ v. v.timestamp) (shown_index pool slots (n - 1) d base (omega (arith, pos, le)))) ∙ same)))

  pub new_there : (t n : ℕ) → IsIndex t n (shown_at pool slots) → ((j : ℕ) (w : Version) → n ≡ suc j → (get_or (shown_at pool slots) j w).timestamp ≡ t → ⊥) → IsBelow t n (shown_at pool slots)
  new_there t n h none = below_new t n (shown_at pool slots) h (index_new t n (shown_at pool slots) c h none)

  -- what is found
  pub looks_none : (t n : ℕ) (late : Bool) → n ≡ 0 → IsIndex t n (shown_at pool slots) → late ≡ is_marked t (shown_at pool slots) → look_of t 0 false late n ≡ looked t (shown_at pool slots)
  looks_none t n late none h is =
      let s = shows_none t (shown_at pool slots) (subst (λ (k : ℕ). IsIndex t k (shown_at pool slots)) none h) in
      made t _ _ _ _ _ _ _ _ (sym (ap (λ r. r.from) s)) (sym (ap (λ r. r.pending) s)) is (index_counts t n (shown_at pool slots) h)

  pub looks_at : (t n d from : ℕ) (pending late : Bool) → 0 < n → n ≤ length slots → IsIndex t n (shown_at pool slots) → from ≡ (version_at pool (get_or slots (n - 1) d)).timestamp → pending ≡ (version_at pool (get_or slots (n - 1) d)).pending → late ≡ is_marked t (shown_at pool slots) → look_of t from pending late n ≡ looked t (shown_at pool slots)
  looks_at t n d from pending late pos le h is p l =
      let next : n ≡ suc (n - 1) = omega (arith, pos) in
      let s = sees t (n - 1) d (omega (arith, pos, le)) (subst (λ (k : ℕ). IsIndex t k (shown_at pool slots)) next h) in
      made t _ _ _ _ _ _ _ _ (is ∙ sym (ap (λ r. r.from) s)) (p ∙ (sym (pending_shown (version_at pool (get_or slots (n - 1) d))) ∙ sym (ap (λ r. r.pending) s))) l (index_counts t n (shown_at pool slots) h)
