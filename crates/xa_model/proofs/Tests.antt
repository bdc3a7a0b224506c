-- Tests that decide: what passes and what doesn't, of lists, timestamps and XIDs.
use Rattle.std.proofs.Common.{◌≡◌, ◌⊎◌, inl, inr, ℕ, ◌+◌, ◌<◌, ◌≤◌, ◌==◌, Bool, true, false, ◌||◌, List, [], ◌∷◌, refl, ap, sym, ◌∙◌, arith}
use Rattle.std.specs.Prelude.{nat_lt}
use Rattle.std.specs.Cmp.{IsEquivalence}
use Rattle.std.specs.List.{AllByRecursion, list_any, list_all}
use Rattle.std.specs.Ordering.{is_lt, ordering_reverse}
use Rattle.std.specs.declared.cmp.Ordering.{Ordering}
use Rattle.std.specs.declared.cmp.Ordering.TheVariants.{Less, Equal, Greater}
use Rattle.std.proofs.lemmas.Bool.{and_parts, or_parts, eqb-true}
use Rattle.std.proofs.lemmas.Bool.Decides.{nat_tests}
use Rattle.std.proofs.lemmas.Cmp.{and_equiv, on_equiv, int_eq_equiv, nat_list_eq_equiv}
use Rattle.xa_xid.specs.Triple.{Triple, xid_eq, xid_cmp}
use Rattle.xa_xid.proofs.Same.{xid_same, xid_eq_same, xid_cmp_same, xid_cmp_equal, xid_cmp_total}
use Rattle.xa_model.specs.Durable.{commits_before, prepares_before, named_before, is_past, boot_of, number_of}
use Rattle.xa_model.specs.Laws.Durable.{TakesOwnBoot}
use Rattle.xa_model.specs.Fold.{is_used}
use Rattle.xa_model.proofs.Inserts.{IsTransitive}

-- lists

pub all_passed : {A : Type 0} (p : A → Bool) (xs : List A) → list_all p xs ≡ true → AllByRecursion (λ x. p x ≡ true) xs
all_passed p [] e = tt
all_passed p (x ∷ xs) e = let both = and_parts (p x) (list_all p xs) e in (both.0, all_passed p xs both.1)

pub none_passed : {A : Type 0} (p : A → Bool) (xs : List A) → list_any p xs ≡ false → AllByRecursion (λ x. p x ≡ false) xs
none_passed p [] e = tt
none_passed p (x ∷ xs) e = let both = or_parts (p x) (list_any p xs) e in (both.0, none_passed p xs both.1)

-- timestamps

pub either_way : (t u : ℕ) → (t == u) ≡ false → (nat_lt t u ≡ true) ⊎ (nat_lt u t ≡ true)
either_way t u e = grind (arith, nat_tests)

pub apart_back : (t u : ℕ) → (t == u) ≡ false → (u == t) ≡ false
apart_back t u e = grind (arith, nat_tests)

pub less_apart : (t u : ℕ) → nat_lt t u ≡ true → ((t == u) ≡ false) × ((u == t) ≡ false)
less_apart t u e = (grind (arith, nat_tests), grind (arith, nat_tests))

less_trans : (t u v : ℕ) → nat_lt t u ≡ true → nat_lt u v ≡ true → nat_lt t v ≡ true
less_trans t u v e f = grind (arith, nat_tests)

pub commits_transitive : IsTransitive commits_before
commits_transitive = record { trans = λ x y z e f. less_trans x.timestamp y.timestamp z.timestamp e f }

pub prepares_transitive : IsTransitive prepares_before
prepares_transitive = record { trans = λ x y z e f. less_trans x.timestamp y.timestamp z.timestamp e f }

pub past_more : (a b t : ℕ) → a < b → is_past (a + 1) t ≡ true → is_past (b + 1) t ≡ true
past_more a b t less e = grind (arith, nat_tests)

pub past_next : (a t : ℕ) → is_past a t ≡ true → is_past (a + 1) t ≡ true
past_next a t e = grind (arith, nat_tests)

-- no boot below the first gave one
pub none_past : (t : ℕ) → is_past 1 t ≡ false
none_past t = grind (arith, nat_tests)

new_past : (a t : ℕ) → 1 ≤ a → boot_of t ≡ a → (number_of t == 0) ≡ false → is_past (a + 1) t ≡ true
new_past a t some boot number = grind (arith, nat_tests)

pub takes_own_boot : TakesOwnBoot
takes_own_boot t x some boot number unused = rw (new_past x.durable.boot t some boot number, unused) refl

-- timestamps that records have, and those that none has

apart_by : (t u : ℕ) (ts : List ℕ) (c : Bool) → (t == u) ≡ c → is_used t ts ≡ true → is_used u ts ≡ false → c ≡ false
apart_by t u ts false e used fresh = refl
apart_by t u ts true e used fresh = let same : t ≡ u = eqb-true t u e in absurd (cc (ap (λ v. is_used v ts) same, used, fresh))

pub used_apart : (t u : ℕ) (ts : List ℕ) → is_used t ts ≡ true → is_used u ts ≡ false → (t == u) ≡ false
used_apart t u ts used fresh = apart_by t u ts (t == u) refl used fresh

pub still_used : (t u : ℕ) (ts : List ℕ) → is_used u ts ≡ true → is_used u (t ∷ ts) ≡ true
still_used t u ts used = either_true (t == u) (is_used u ts) used
  where
    either_true : (a b : Bool) → b ≡ true → (a || b) ≡ true
    either_true true b e = refl
    either_true false b e = e

pub now_used : (t : ℕ) (ts : List ℕ) → is_used t (t ∷ ts) ≡ true
now_used t ts = let same : (t == t) ≡ true = grind (arith, nat_tests) in rw same refl

pub unused_above : (t : ℕ) (ts : List ℕ) → list_all (λ u. nat_lt u t) ts ≡ true → is_used t ts ≡ false
unused_above t [] e = refl
unused_above t (u ∷ ts) e =
    let both = and_parts (nat_lt u t) (list_all (λ v. nat_lt v t) ts) e in
    let rest : is_used t ts ≡ false = unused_above t ts both.1 in
    rw ((less_apart u t both.0).0, rest) refl

-- XIDs

xids_alike : IsEquivalence xid_eq
xids_alike = and_equiv (on_equiv (λ x. x.format) int_eq_equiv) (and_equiv (on_equiv (λ x. x.gtrid) nat_list_eq_equiv) (on_equiv (λ x. x.bqual) nat_list_eq_equiv))

pub xid_back : (x y : Triple) → xid_eq x y ≡ false → xid_eq y x ≡ false
xid_back x y e = xids_alike.symm y x ∙ e

less_is : (o : Ordering) → is_lt o ≡ true → o ≡ Less
less_is Less e = refl
less_is Equal e = absurd (cc e)
less_is Greater e = absurd (cc e)

pub reversed : (o : Ordering) → Greater ≡ ordering_reverse o → o ≡ Less
reversed Less e = refl
reversed Equal e = absurd (cc e)
reversed Greater e = absurd (cc e)

either_by : (x y : Triple) (o : Ordering) → xid_cmp x y ≡ o → xid_eq x y ≡ false → (is_lt (xid_cmp x y) ≡ true) ⊎ (is_lt (xid_cmp y x) ≡ true)
either_by x y Less e h = inl (ap is_lt e)
either_by x y Equal e h = absurd (cc (xid_eq_same x y (xid_cmp_same x y e), h))
either_by x y Greater e h = inr (ap is_lt (reversed (xid_cmp y x) (sym e ∙ xid_cmp_total.antisymm x y)))

pub either_name : (x y : Triple) → xid_eq x y ≡ false → (is_lt (xid_cmp x y) ≡ true) ⊎ (is_lt (xid_cmp y x) ≡ true)
either_name x y h = either_by x y (xid_cmp x y) refl h

below_by : (x y : Triple) (c : Bool) → xid_eq x y ≡ c → is_lt (xid_cmp x y) ≡ true → c ≡ false
below_by x y false e h = refl
below_by x y true e h = absurd (cc (less_is (xid_cmp x y) h, xid_cmp_equal x y (xid_same x y e)))

pub below_apart : (x y : Triple) → is_lt (xid_cmp x y) ≡ true → xid_eq x y ≡ false
below_apart x y h = below_by x y (xid_eq x y) refl h

name_trans : (x y z : Triple) → is_lt (xid_cmp x y) ≡ true → is_lt (xid_cmp y z) ≡ true → is_lt (xid_cmp x z) ≡ true
name_trans x y z e f = ap is_lt (xid_cmp_total.trans x y z (less_is (xid_cmp x y) e) (less_is (xid_cmp y z) f))

pub names_transitive : IsTransitive named_before
names_transitive = record { trans = λ x y z e f. name_trans x.xid y.xid z.xid e f }
