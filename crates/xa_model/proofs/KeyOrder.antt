-- The order of byte strings, as its tests.
use Rattle.std.proofs.Common.{◌≡◌, ℕ, Bool, true, false, List, refl, sym, ap, ◌∙◌}
use Rattle.std.specs.Prelude.{not}
use Rattle.std.specs.Cmp.Lexicographic.{slice_cmp}
use Rattle.std.specs.Ordering.{nat_cmp, is_lt, is_le, ordering_reverse}
use Rattle.std.specs.declared.cmp.Ordering.{Ordering}
use Rattle.std.specs.declared.cmp.Ordering.TheVariants.{Less, Equal, Greater}
use Rattle.std.proofs.lemmas.Cmp.{nat_list_cmp_total, alike_right, tied_itself}
use Rattle.xa_model.specs.Ranges.{is_before}

-- how two keys compare
abbrev pub cmp : List ℕ → List ℕ → Ordering
cmp = slice_cmp nat_cmp

pub before_Less : (a b : List ℕ) → is_before a b ≡ true → cmp a b ≡ Less
before_Less a b h = at (cmp a b) refl
  where
    at : (o : Ordering) → cmp a b ≡ o → cmp a b ≡ Less
    at Less e = e
    at Equal e = let t : false ≡ true = sym (ap is_lt e) ∙ h in absurd (cc)
    at Greater e = let t : false ≡ true = sym (ap is_lt e) ∙ h in absurd (cc)

pub flipped : (a b : List ℕ) (o : Ordering) → cmp a b ≡ o → cmp b a ≡ ordering_reverse o
flipped a b o e = nat_list_cmp_total.antisymm b a ∙ ap ordering_reverse e

pub before_trans : (a b c : List ℕ) → is_before a b ≡ true → is_before b c ≡ true → is_before a c ≡ true
before_trans a b c h g = ap is_lt (nat_list_cmp_total.trans a b c (before_Less a b h) (before_Less b c g))

-- a not after b, b before c
pub upto_before : (a b c : List ℕ) → is_before b a ≡ false → is_before b c ≡ true → is_before a c ≡ true
upto_before a b c h g = at (cmp b a) refl
  where
    at : (o : Ordering) → cmp b a ≡ o → is_before a c ≡ true
    at Less e = let t : true ≡ false = sym (ap is_lt e) ∙ h in absurd (cc)
    at Equal e = ap is_lt (sym (nat_list_cmp_total.congr b a c e)) ∙ g
    at Greater e = before_trans a b c (ap is_lt (flipped b a Greater e)) g

-- a before b, b not after c
pub before_upto : (a b c : List ℕ) → is_before a b ≡ true → is_before c b ≡ false → is_before a c ≡ true
before_upto a b c h g = at (cmp c b) refl
  where
    at : (o : Ordering) → cmp c b ≡ o → is_before a c ≡ true
    at Less e = let t : true ≡ false = sym (ap is_lt e) ∙ g in absurd (cc)
    at Equal e = ap is_lt (alike_right nat_list_cmp_total c b a e) ∙ h
    at Greater e = before_trans a b c h (ap is_lt (flipped c b Greater e))

pub before_asym : (a b : List ℕ) → is_before a b ≡ true → is_before b a ≡ false
before_asym a b h = ap is_lt (flipped a b Less (before_Less a b h))

pub not_before_itself : (a : List ℕ) → is_before a a ≡ false
not_before_itself a = ap is_lt (tied_itself nat_list_cmp_total a)

-- `a <= b` is that b isn't before a
pub le_not_before : (a b : List ℕ) (x : Bool) → is_le (cmp a b) ≡ x → is_before b a ≡ not x
le_not_before a b x h = at (cmp a b) refl
  where
    at : (o : Ordering) → cmp a b ≡ o → is_before b a ≡ not x
    at Less e = ap is_lt (flipped a b Less e) ∙ ap not (sym (ap is_le e) ∙ h)
    at Equal e = ap is_lt (flipped a b Equal e) ∙ ap not (sym (ap is_le e) ∙ h)
    at Greater e = ap is_lt (flipped a b Greater e) ∙ ap not (sym (ap is_le e) ∙ h)
