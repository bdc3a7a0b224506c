-- What a change at one index leaves of the chains of the others.
use Rattle.std.proofs.Common.{◌≡◌, ◌≢◌, ℕ, zero, suc, Bool, true, false, List, [], ◌∷◌, get_or, set, Option, None, Some, refl, sym, ap, ◌∙◌, subst, arith}
use Rattle.std.specs.Prelude.{◌==◌}
use Rattle.std.proofs.lemmas.Bool.Decides.{nat_tests}
use Rattle.std.proofs.lemmas.List.{get_or-set_other}
use Rattle.slab.specs.Slab.{Slab, get as chain_in, with_value, Updates, SameValues}
use Rattle.mv_chain.specs.declared.pool.Pool.{Pool}
use Rattle.mv_chain.specs.declared.chain.Chain.{Chain}
use Rattle.mv_chain.specs.Pool.{IsOutside, IsKept, AreApart, LeavesOthers, LeavesOthersAt}
use Rattle.mv_chain.proofs.Frames.{AreOutside, Stays, stays_at}
use Rattle.mv_rules.specs.Held.{shown_in, slots_in, IsHeld, Changes}

-- to be apart goes both ways
first_out : (x : ℕ) (xs ys : List ℕ) → AreOutside ys (x ∷ xs) → IsOutside x ys
first_out x xs [] h = tt
first_out x xs (y ∷ ys) h = (λ e. h.0.0 (sym e), first_out x xs ys h.1)

rest_out : (x : ℕ) (xs ys : List ℕ) → AreOutside ys (x ∷ xs) → AreOutside ys xs
rest_out x xs [] h = tt
rest_out x xs (y ∷ ys) h = (h.0.1, rest_out x xs ys h.1)

pub swapped : (xs ys : List ℕ) → AreOutside ys xs → AreOutside xs ys
swapped [] ys h = tt
swapped (x ∷ xs) ys h = (first_out x xs ys h, swapped xs ys (rest_out x xs ys h))

pub out_of_none : (xs : List ℕ) → AreOutside xs []
out_of_none [] = tt
out_of_none (x ∷ xs) = (tt, out_of_none xs)

-- another index
pub out_of : (i j : ℕ) (pool : Pool) (chains : Slab Chain) (d : Chain) → IsHeld pool chains → j ≢ i → chain_in chains j ≡ Some d → AreOutside d.slots.items (slots_in (chain_in chains i))
out_of i j pool chains d h ne e = by (chain_in chains i) refl
  where
    by : (o : Option Chain) → chain_in chains i ≡ o → AreOutside d.slots.items (slots_in o)
    by None f = out_of_none d.slots.items
    by (Some c) f = h.apart j i d c ne e f

stays_there : (i j : ℕ) (p p2 : Pool) (cs cs2 : Slab Chain) (d : Chain) → Changes i p cs p2 cs2 → IsHeld p cs → j ≢ i → chain_in cs j ≡ Some d → Stays p p2 d.slots.items (slots_in (chain_in cs2 i))
stays_there i j p p2 cs cs2 d c h ne e = stays_at p p2 (slots_in (chain_in cs i)) (slots_in (chain_in cs2 i)) d.slots.items c.leaves (h.kept j d e) (out_of i j p cs d h ne e)

pub shown_elsewhere : (i j : ℕ) (p p2 : Pool) (cs cs2 : Slab Chain) → Changes i p cs p2 cs2 → IsHeld p cs → j ≢ i → shown_in p2 (chain_in cs2 j) ≡ shown_in p (chain_in cs j)
shown_elsewhere i j p p2 cs cs2 c h ne = ap (shown_in p2) (c.others j ne) ∙ by (chain_in cs j) refl
  where
    by : (o : Option Chain) → chain_in cs j ≡ o → shown_in p2 o ≡ shown_in p o
    by None e = refl
    by (Some d) e = (stays_there i j p p2 cs cs2 d c h ne e).shown

same_or_not : (i j : ℕ) (G : Type 0) → (i ≡ j → G) → (i ≢ j → G) → G
same_or_not i j G yes_ no_ = at (i == j) refl
  where
    at : (x : Bool) → (i == j) ≡ x → G
    at true e = yes_ (grind (arith, nat_tests, e))
    at false e = no_ (λ s. grind (arith, nat_tests, e, s))

pub held_changed : (i : ℕ) (p p2 : Pool) (cs cs2 : Slab Chain) → Changes i p cs p2 cs2 → IsHeld p cs → IsHeld p2 cs2
held_changed i p p2 cs cs2 c h =
    record {
      kept = λ j d e. same_or_not j i (IsKept p2 d) (λ s. c.kept d (subst (λ (k : ℕ). chain_in cs2 k ≡ Some d) s e)) (λ ne. (stays_there i j p p2 cs cs2 d c h ne (sym (c.others j ne) ∙ e)).kept);
      apart = λ j k a b ne e f. same_or_not j i (AreApart a b) (λ s. first j k a b ne e f s) (λ n. same_or_not k i (AreApart a b) (λ s. swapped a.slots.items b.slots.items (first k j b a (λ g. ne (sym g)) f e s)) (λ m. h.apart j k a b ne (sym (c.others j n) ∙ e) (sym (c.others k m) ∙ f)));
    }
  where
    mine : (a : Chain) (o : Option Chain) → o ≡ Some a → slots_in o ≡ a.slots.items
    mine a o e = ap slots_in e

    first : (j k : ℕ) (a b : Chain) → j ≢ k → chain_in cs2 j ≡ Some a → chain_in cs2 k ≡ Some b → j ≡ i → AreApart a b
    first j k a b ne e f s =
        let other : k ≢ i = λ g. ne (s ∙ sym g) in
        let there : AreOutside b.slots.items (slots_in (chain_in cs2 i)) = (stays_there i k p p2 cs cs2 b c h other (sym (c.others k other) ∙ f)).apart in
        let here : slots_in (chain_in cs2 i) ≡ a.slots.items = mine a (chain_in cs2 i) (ap (chain_in cs2) (sym s) ∙ e) in
        swapped a.slots.items b.slots.items (subst (AreOutside b.slots.items) here there)

-- nothing but memory has changed
pub grown_stays : (p p2 : Pool) (d : Chain) → LeavesOthersAt p [] p2 [] → IsKept p d → Stays p p2 d.slots.items []
grown_stays p p2 d l k = stays_at p p2 [] [] d.slots.items l k (out_of_none d.slots.items)

pub shown_grown : (p p2 : Pool) (cs cs2 : Slab Chain) (j : ℕ) → SameValues cs cs2 → LeavesOthersAt p [] p2 [] → IsHeld p cs → shown_in p2 (chain_in cs2 j) ≡ shown_in p (chain_in cs j)
shown_grown p p2 cs cs2 j same l h = ap (shown_in p2) (same j) ∙ by (chain_in cs j) refl
  where
    by : (o : Option Chain) → chain_in cs j ≡ o → shown_in p2 o ≡ shown_in p o
    by None e = refl
    by (Some d) e = (grown_stays p p2 d l (h.kept j d e)).shown

pub held_grown : (p p2 : Pool) (cs cs2 : Slab Chain) → SameValues cs cs2 → LeavesOthersAt p [] p2 [] → IsHeld p cs → IsHeld p2 cs2
held_grown p p2 cs cs2 same l h = record {
  kept = λ j d e. (grown_stays p p2 d l (h.kept j d (sym (same j) ∙ e))).kept;
  apart = λ j k a b ne e f. h.apart j k a b ne (sym (same j) ∙ e) (sym (same k) ∙ f);
}

-- the pool as it was
pub nothing_left : (p : Pool) → LeavesOthersAt p [] p []
nothing_left p = record { stays = λ s some o. refl; apart = λ s some o. o }

-- a chain is written back
there_after : (xs : List (Option Chain)) (i : ℕ) (a : Chain) (x : Option Chain) → get_or xs i None ≡ Some a → get_or (set xs i x) i None ≡ x
there_after [] i a x e = absurd (cc e)
there_after (y ∷ ys) zero a x e = refl
there_after (y ∷ ys) (suc i) a x e = there_after ys i a x e

pub written_there : (cs : Slab Chain) (i : ℕ) (a b : Chain) → chain_in cs i ≡ Some a → chain_in (with_value cs i b) i ≡ Some b
written_there cs i a b e = there_after cs.slots i a (Some b) e

pub written_back : (p p2 : Pool) (cs : Slab Chain) (i : ℕ) (a b : Chain) → chain_in cs i ≡ Some a → LeavesOthers p a p2 b → IsKept p2 b → Changes i p cs p2 (with_value cs i b)
written_back p p2 cs i a b e l k = record {
  others = λ j ne. get_or-set_other cs.slots i j (Some b) None ne;
  leaves = subst (λ (o : Option Chain). LeavesOthersAt p (slots_in o) p2 (slots_in (chain_in (with_value cs i b) i))) (sym e) (subst (λ (o : Option Chain). LeavesOthersAt p a.slots.items p2 (slots_in o)) (sym (written_there cs i a b e)) l);
  kept = λ c f. let same : Some b ≡ Some c = sym (written_there cs i a b e) ∙ f in let is : b ≡ c = cc in subst (IsKept p2) is k;
}

-- a chain is added
pub added_there : (p p2 : Pool) (cs cs2 : Slab Chain) (i : ℕ) (b : Chain) → chain_in cs i ≡ None → Updates cs cs2 i (Some b) → LeavesOthersAt p [] p2 b.slots.items → IsKept p2 b → Changes i p cs p2 cs2
added_there p p2 cs cs2 i b e u l k = record {
  others = u.others;
  leaves = subst (λ (o : Option Chain). LeavesOthersAt p (slots_in o) p2 (slots_in (chain_in cs2 i))) (sym e) (subst (λ (o : Option Chain). LeavesOthersAt p [] p2 (slots_in o)) (sym u.changed) l);
  kept = λ c f. let same : Some b ≡ Some c = sym u.changed ∙ f in let is : b ≡ c = cc in subst (IsKept p2) is k;
}

-- a chain is taken out
pub removed_there : (p p2 : Pool) (cs cs2 : Slab Chain) (i : ℕ) (a : Chain) (left : List ℕ) → chain_in cs i ≡ Some a → Updates cs cs2 i None → LeavesOthersAt p a.slots.items p2 left → Changes i p cs p2 cs2
removed_there p p2 cs cs2 i a left e u l = record {
  others = u.others;
  leaves = subst (λ (o : Option Chain). LeavesOthersAt p (slots_in o) p2 (slots_in (chain_in cs2 i))) (sym e) (subst (λ (o : Option Chain). LeavesOthersAt p a.slots.items p2 (slots_in o)) (sym u.changed) (record { stays = l.stays; apart = λ s some o. tt }));
  kept = λ c f. let bad : None ≡ Some c = sym u.changed ∙ f in absurd (cc bad);
}

-- room was made for more chains
pub reserved_same : (cs cs2 : Slab Chain) (n : ℕ) → cs2 ≡ record cs { capacity = n } → SameValues cs cs2
reserved_same cs cs2 n e j = ap (λ (x : Slab Chain). chain_in x j) e

pub updates_before : (cs cs2 cs3 : Slab Chain) (i : ℕ) (o : Option Chain) → SameValues cs cs2 → Updates cs2 cs3 i o → Updates cs cs3 i o
updates_before cs cs2 cs3 i o same u = record { changed = u.changed; others = λ j ne. u.others j ne ∙ same j }
