-- What settling one chain after another leaves.
use Rattle.std.proofs.Common.{◌≡◌, ◌≢◌, ℕ, Bool, true, false, not, ◌||◌, ◌&&◌, eqb, List, [], ◌∷◌, ◌++◌, map, Option, Some, None, refl, sym, ap, ◌∙◌, subst, inl, inr, ◌⊎◌, arith}
use Rattle.std.specs.Prelude.{◌==◌, filter, is_some}
use Rattle.std.proofs.lemmas.Bool.Decides.{nat_tests, eqb_tells}
use Rattle.slab.specs.Slab.{Slab, get as chain_in, with_value}
use Rattle.mv_chain.specs.Pool.{versions_of, IsKept, LeavesOthers}
use Rattle.mv_chain.specs.declared.pool.Pool.{Pool}
use Rattle.mv_chain.specs.declared.chain.Chain.{Chain}
use Rattle.mv_chain.proofs.Stands.{stands_untouched}
use Rattle.mv_chain.specs.declared.version.Version.{Version}
use Rattle.mv_chain.specs.declared.fate.Fate.{Fate}
use Rattle.mv_chain.specs.declared.fate.Fate.TheVariants.{Committed, RolledBack}
use Rattle.mv_chain.specs.Chain.{fresh, committing, settled}
use Rattle.mv_rules.specs.declared.own.Own.{Own}
use Rattle.mv_rules.specs.Own.{is_listed}
use Rattle.mv_rules.specs.Steps.{IsSettled}
use Rattle.mv_rules.specs.Held.{shown_in, IsHeld, Changes}
use Rattle.mv_rules.proofs.Frames.{shown_elsewhere, held_changed, written_there, written_back}

-- settling twice is settling once
committing_twice : (ts : ℕ) (v : Version) → committing ts (committing ts v) ≡ committing ts v
committing_twice ts v = ap (λ b. record v { pending = b }) (at v.pending (not (v.timestamp == ts)))
  where
    at : (p q : Bool) → ((p && q) && q) ≡ (p && q)
    at true true = refl
    at true false = refl
    at false q = refl

pub settled_twice : (ts : ℕ) (fate : Fate) (vs : List Version) → settled ts fate (settled ts fate vs) ≡ settled ts fate vs
settled_twice ts Committed vs = mapped vs
  where
    mapped : (xs : List Version) → map (committing ts) (map (committing ts) xs) ≡ map (committing ts) xs
    mapped [] = refl
    mapped (x ∷ xs) = ap (λ v. v ∷ map (committing ts) (map (committing ts) xs)) (committing_twice ts x) ∙ ap (λ ys. committing ts x ∷ ys) (mapped xs)
settled_twice ts RolledBack vs = kept vs
  where
    stays : Version → Bool
    stays v = not (v.pending && (v.timestamp == ts))

    kept : (xs : List Version) → filter (λ v. not (v.pending && (v.timestamp == ts))) (filter (λ v. not (v.pending && (v.timestamp == ts))) xs) ≡ filter (λ v. not (v.pending && (v.timestamp == ts))) xs
    kept [] = refl
    kept (x ∷ xs) = at (not (x.pending && (x.timestamp == ts))) refl (kept xs)
      where
        at : (q : Bool) → not (x.pending && (x.timestamp == ts)) ≡ q → filter (λ v. not (v.pending && (v.timestamp == ts))) (filter (λ v. not (v.pending && (v.timestamp == ts))) xs) ≡ filter (λ v. not (v.pending && (v.timestamp == ts))) xs → filter (λ v. not (v.pending && (v.timestamp == ts))) (filter (λ v. not (v.pending && (v.timestamp == ts))) (x ∷ xs)) ≡ filter (λ v. not (v.pending && (v.timestamp == ts))) (x ∷ xs)
        at true q ih = rw (q, q) (ap (λ ys. x ∷ ys) ih)
        at false q ih = rw q ih

-- the chains that are listed are settled, the others as they were
pub record SettledUpto (ts : ℕ) (fate : Fate) (own : List Own) (p : Pool) (cs : Slab Chain) (p2 : Pool) (cs2 : Slab Chain) : Type 0 where
  pub held : IsHeld p2 cs2
  pub stands : (i : ℕ) → is_some (chain_in cs2 i) ≡ is_some (chain_in cs i)
  pub listed : (i : ℕ) → is_listed i own ≡ true → (shown_in p2 (chain_in cs2 i) ≡ settled ts fate (shown_in p (chain_in cs i))) × IsSettled ts fate (shown_in p (chain_in cs i)) (settled ts fate (shown_in p (chain_in cs i)))
  pub others : (i : ℕ) → is_listed i own ≡ false → shown_in p2 (chain_in cs2 i) ≡ shown_in p (chain_in cs i)

pub settled_begins : (ts : ℕ) (fate : Fate) (p : Pool) (cs : Slab Chain) → IsHeld p cs → SettledUpto ts fate [] p cs p cs
settled_begins ts fate p cs h = record { held = h; stands = λ i. refl; listed = λ i e. absurd (cc e); others = λ i e. refl }

pub listed_append : (i : ℕ) (o : Own) (own : List Own) → is_listed i (own ++ o ∷ []) ≡ (is_listed i own || (i == o.index))
listed_append i o [] = grind arith
listed_append i o (x ∷ xs) = grind (arith, listed_append i o xs)

-- one more chain is settled
pub settled_more : (ts : ℕ) (fate : Fate) (own : List Own) (o : Own) (p p2 p3 : Pool) (cs cs2 cs3 : Slab Chain) → Changes o.index p2 cs2 p3 cs3 → is_some (chain_in cs3 o.index) ≡ is_some (chain_in cs2 o.index)
    → shown_in p3 (chain_in cs3 o.index) ≡ settled ts fate (shown_in p2 (chain_in cs2 o.index)) → IsSettled ts fate (shown_in p2 (chain_in cs2 o.index)) (shown_in p3 (chain_in cs3 o.index))
    → SettledUpto ts fate own p cs p2 cs2 → SettledUpto ts fate (own ++ o ∷ []) p cs p3 cs3
settled_more ts fate own o p p2 p3 cs cs2 cs3 change there exact settles s =
    record {
      held = held_changed o.index p2 p3 cs2 cs3 change s.held;
      stands = λ i. stands i (eqb_tells i o.index);
      listed = λ i e. one i (eqb_tells i o.index) (sym (listed_append i o own) ∙ e);
      others = λ i e. other i (sym (listed_append i o own) ∙ e);
    }
  where
    away : (i : ℕ) → i ≢ o.index → shown_in p3 (chain_in cs3 i) ≡ shown_in p2 (chain_in cs2 i)
    away i ne = shown_elsewhere o.index i p2 p3 cs2 cs3 change s.held ne

    stands : (i : ℕ) → ((eqb i o.index ≡ true) × (i ≡ o.index)) ⊎ ((eqb i o.index ≡ false) × (i ≢ o.index)) → is_some (chain_in cs3 i) ≡ is_some (chain_in cs i)
    stands i (inl same) = rw same.1 (there ∙ s.stands o.index)
    stands i (inr apart) = ap is_some (change.others i apart.1) ∙ s.stands i

    own_index : (x : Bool) → is_listed o.index own ≡ x → (shown_in p3 (chain_in cs3 o.index) ≡ settled ts fate (shown_in p (chain_in cs o.index))) × IsSettled ts fate (shown_in p (chain_in cs o.index)) (settled ts fate (shown_in p (chain_in cs o.index)))
    own_index true l =
        let before = s.listed o.index l in
        (exact ∙ (ap (settled ts fate) before.0 ∙ settled_twice ts fate (shown_in p (chain_in cs o.index))), before.1)
    own_index false l =
        let same : shown_in p2 (chain_in cs2 o.index) ≡ shown_in p (chain_in cs o.index) = s.others o.index l in
        let left : shown_in p3 (chain_in cs3 o.index) ≡ settled ts fate (shown_in p (chain_in cs o.index)) = exact ∙ ap (settled ts fate) same in
        (left, subst (λ (y : List Version). IsSettled ts fate (shown_in p (chain_in cs o.index)) y) left (subst (λ (x : List Version). IsSettled ts fate x (shown_in p3 (chain_in cs3 o.index))) same settles))

    one : (i : ℕ) → ((eqb i o.index ≡ true) × (i ≡ o.index)) ⊎ ((eqb i o.index ≡ false) × (i ≢ o.index)) → (is_listed i own || (i == o.index)) ≡ true → (shown_in p3 (chain_in cs3 i) ≡ settled ts fate (shown_in p (chain_in cs i))) × IsSettled ts fate (shown_in p (chain_in cs i)) (settled ts fate (shown_in p (chain_in cs i)))
    one i (inl same) e = rw same.1 (own_index (is_listed o.index own) refl)
    one i (inr apart) e = rw (away i apart.1) (s.listed i (grind (arith, apart.0, e)))

    other : (i : ℕ) → (is_listed i own || (i == o.index)) ≡ false → shown_in p3 (chain_in cs3 i) ≡ shown_in p (chain_in cs i)
    other i e = away i (λ same. grind (arith, nat_tests, e, same)) ∙ s.others i (grind (arith, e))

pub settled_one : (ts : ℕ) (fate : Fate) (own : List Own) (o : Own) (p p2 p3 : Pool) (cs cs2 : Slab Chain) (a b : Chain) → chain_in cs2 o.index ≡ Some a → LeavesOthers p2 a p3 b → (IsKept p2 a → IsKept p3 b)
    → (IsKept p2 a → versions_of p3 b ≡ settled ts fate (versions_of p2 a)) → (IsKept p2 a → IsSettled ts fate (versions_of p2 a) (versions_of p3 b))
    → SettledUpto ts fate own p cs p2 cs2 → SettledUpto ts fate (own ++ o ∷ []) p cs p3 (with_value cs2 o.index b)
settled_one ts fate own o p p2 p3 cs cs2 a b here leaves keeps exact settles s =
    let k : IsKept p2 a = s.held.kept o.index a here in
    let after : chain_in (with_value cs2 o.index b) o.index ≡ Some b = written_there cs2 o.index a b here in
    let was : shown_in p2 (chain_in cs2 o.index) ≡ versions_of p2 a = ap (shown_in p2) here in
    let is : shown_in p3 (chain_in (with_value cs2 o.index b) o.index) ≡ versions_of p3 b = ap (shown_in p3) after in
    settled_more ts fate own o p p2 p3 cs cs2 (with_value cs2 o.index b) (written_back p2 p3 cs2 o.index a b here leaves (keeps k)) (ap is_some after ∙ sym (ap is_some here)) (is ∙ (exact k ∙ ap (settled ts fate) (sym was)))
    (subst (λ (y : List Version). IsSettled ts fate (shown_in p2 (chain_in cs2 o.index)) y) (sym is) (subst (λ (x : List Version). IsSettled ts fate x (versions_of p3 b)) (sym was) (settles k))) s

settled_fresh : (ts : ℕ) (fate : Fate) → fresh ≡ settled ts fate fresh
settled_fresh ts Committed = refl
settled_fresh ts RolledBack = refl

fresh_settles : (ts : ℕ) (fate : Fate) → IsSettled ts fate fresh fresh
fresh_settles ts fate key low ws rs s u = stands_untouched key low ts fate ws rs fresh (λ e. refl, tt) s u

-- an index without a chain
pub settled_beyond : (ts : ℕ) (fate : Fate) (own : List Own) (o : Own) (p p2 : Pool) (cs cs2 : Slab Chain) → chain_in cs2 o.index ≡ None → SettledUpto ts fate own p cs p2 cs2 → SettledUpto ts fate (own ++ o ∷ []) p cs p2 cs2
settled_beyond ts fate own o p p2 cs cs2 none s =
    record {
      held = s.held;
      stands = s.stands;
      listed = λ i e. one i (eqb_tells i o.index) (sym (listed_append i o own) ∙ e);
      others = λ i e. s.others i (grind (arith, sym (listed_append i o own) ∙ e));
    }
  where
    no_chain : (x : Option Chain) → is_some x ≡ false → x ≡ None
    no_chain None e = refl
    no_chain (Some c) e = absurd (cc e)

    was : chain_in cs o.index ≡ None
    was = no_chain (chain_in cs o.index) (sym (s.stands o.index) ∙ ap is_some none)

    one : (i : ℕ) → ((eqb i o.index ≡ true) × (i ≡ o.index)) ⊎ ((eqb i o.index ≡ false) × (i ≢ o.index)) → (is_listed i own || (i == o.index)) ≡ true → (shown_in p2 (chain_in cs2 i) ≡ settled ts fate (shown_in p (chain_in cs i))) × IsSettled ts fate (shown_in p (chain_in cs i)) (settled ts fate (shown_in p (chain_in cs i)))
    one i (inl same) e = rw (same.1, none, was) (settled_fresh ts fate, subst (IsSettled ts fate fresh) (settled_fresh ts fate) (fresh_settles ts fate))
    one i (inr apart) e = s.listed i (grind (arith, apart.0, e))
