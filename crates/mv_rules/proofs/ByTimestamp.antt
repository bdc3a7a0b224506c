-- Maps by timestamp: what stands at one, and what is written over there.
use Rattle.std.proofs.Common.{◌≡◌, ℕ, ◌<◌, ◌≤◌, Bool, true, false, ◌==◌, List, [], ◌∷◌, Option, Some, None, refl, ap, ◌∙◌, cond, arith, rules}
use Rattle.std.specs.Prelude.{nat_lt}
use Rattle.std.specs.List.{AllByRecursion as Each}
use Rattle.std.specs.List.Sorted.{IsStrictlySortedBy}
use Rattle.std.specs.Map.{lookup, set_value, keys_of}
use Rattle.std.specs.BTreeMap.{insert_entry, is_at}
use Rattle.std.specs.Ordering.{nat_cmp, is_eq}
use Rattle.std.specs.Cmp.Rules.{comparing}
use Rattle.std.specs.declared.cmp.Ordering.{Ordering}
use Rattle.std.specs.declared.cmp.Ordering.TheVariants.{Less, Equal, Greater}
use Rattle.std.proofs.lemmas.Bool.Decides.{nat_tests}

abbrev pub found : {X : Type 0} → ℕ → List (ℕ × X) → Option X
found t es = lookup (is_at (nat_cmp t)) es

abbrev pub IsSorted : {X : Type 0} → List (ℕ × X) → Type 0
IsSorted es = IsStrictlySortedBy nat_cmp (keys_of es)

pub number_is : (n k : ℕ) → is_eq (nat_cmp n k) ≡ (n == k)
number_is n k = search (comparing, rules) depth 9

pub less : (a b : ℕ) → nat_cmp a b ≡ Less → a < b
less a b = at (nat_lt a b) refl (a == b)
  where
    at : (x : Bool) → nat_lt a b ≡ x → (y : Bool) → cond x Less (cond y Equal Greater) ≡ Less → a < b
    at true e y h = grind (arith, nat_tests, e)
    at false e true h = absurd (cc h)
    at false e false h = absurd (cc h)

pub same : (a b : ℕ) → nat_cmp a b ≡ Equal → a ≡ b
same a b = at (nat_lt a b) (a == b) refl
  where
    at : (x y : Bool) → (a == b) ≡ y → cond x Less (cond y Equal Greater) ≡ Equal → a ≡ b
    at true y e h = absurd (cc h)
    at false true e h = grind (arith, nat_tests, e)
    at false false e h = absurd (cc h)

pub more : (a b : ℕ) → nat_cmp a b ≡ Greater → b < a
more a b = at (nat_lt a b) refl (a == b) refl
  where
    at : (x : Bool) → nat_lt a b ≡ x → (y : Bool) → (a == b) ≡ y → cond x Less (cond y Equal Greater) ≡ Greater → b < a
    at true e y f h = absurd (cc h)
    at false e true f h = absurd (cc h)
    at false e false f h = grind (arith, nat_tests, e, f)

-- after a greater timestamp nothing is found
pub above : {X : Type 0} (a t : ℕ) (es : List (ℕ × X)) → t ≤ a → Each (λ k. nat_cmp a k ≡ Less) (keys_of es) → found t es ≡ None
above a t [] le h = refl
above a t (e ∷ es) le h =
    let up : a < e.0 = less a e.0 h.0 in
    let off : is_eq (nat_cmp t e.0) ≡ false = number_is t e.0 ∙ grind (arith, nat_tests, up, le) in
    rw off (above a t es le h.1)

pub written_through : {X : Type 0} (ts : ℕ) (es : List (ℕ × X)) (x w : X) → IsSorted es → found ts es ≡ Some x → set_value (is_at (nat_cmp ts)) es w ≡ insert_entry nat_cmp es ts w
unfolding IsStrictlySortedBy
written_through ts [] x w s = λ f. absurd (cc f)
written_through ts (e ∷ es) x w s = at (nat_cmp ts e.0) refl (written_through ts es x w s.1)
  where
    at : (o : Ordering) → nat_cmp ts e.0 ≡ o → (found ts es ≡ Some x → set_value (is_at (nat_cmp ts)) es w ≡ insert_entry nat_cmp es ts w) → found ts (e ∷ es) ≡ Some x → set_value (is_at (nat_cmp ts)) (e ∷ es) w ≡ insert_entry nat_cmp (e ∷ es) ts w
    at Less o rest f =
        let up : ts < e.0 = less ts e.0 o in
        let off : is_eq (nat_cmp ts e.0) ≡ false = ap is_eq o in
        let none : found ts es ≡ None = above e.0 ts es (omega arith) s.0 in
        let some : found ts es ≡ Some x = rw off at f in
        absurd (cc (none, some))
    at Equal o rest f = rw o refl
    at Greater o rest f =
        let off : is_eq (nat_cmp ts e.0) ≡ false = ap is_eq o in
        let some : found ts es ≡ Some x = rw off at f in
        rw o (ap (λ xs. e ∷ xs) (rest some))
