-- Sums over all tokens.
use Rattle.std.proofs.Common.{◌≡◌, ◌≢◌, ℕ, zero, suc, ◌+◌, ◌≤◌, List, [], ◌∷◌, ◌++◌, length, set, refl, ap, sym, ⊎_elim, subst, arith}
use Rattle.std.specs.Prelude.{sum_by}
use Rattle.std.proofs.lemmas.List.Sums.{sum_by_push, sum_by-cons}
use mathlib.Core.Option.{some, some-ne-none, some-injective}
use lib.ListN.{get_elem?}
use Rattle.atomic_table.proofs.Lists.{at_set, at_snoc}

-- the sum after a change of one
pub sum_set : {X : Type 0} (f : X → ℕ) (xs : List X) (i : ℕ) (v w : X) → get_elem? xs i ≡ some v → sum_by f (set xs i w) + f v ≡ sum_by f xs + f w
sum_set f [] i v w at = absurd (some-ne-none v (sym at))
sum_set f (x ∷ xs) zero v w at =
    let e : f x ≡ f v = ap f (some-injective x v at) in
    omega (arith, sum_by-cons f w xs, sum_by-cons f x xs, e)
sum_set f (x ∷ xs) (suc i) v w at =
    omega (arith, sum_by-cons f x (set xs i w), sum_by-cons f x xs, sum_set f xs i v w at)

module _ {X : Type 0} (xs : List X) (by : ℕ) (v : X) (at : get_elem? xs by ≡ some v) where
  -- what one step adds to a sum
  pub set_adds : (f : X → ℕ) (w : X) (n : ℕ) → f w ≡ f v + n → sum_by f (set xs by w) ≡ sum_by f xs + n
  set_adds f w n e = omega (arith, sum_set f xs by v w at, e)

  pub set_same : (f : X → ℕ) (w : X) → f w ≡ f v → sum_by f (set xs by w) ≡ sum_by f xs
  set_same f w e = omega (arith, sum_set f xs by v w at, e)

  -- what is cut in two adds up to what it was
  pub cut_same : (f : X → ℕ) (left right : X) → f left + f right ≡ f v → sum_by f (set xs by left ++ right ∷ []) ≡ sum_by f xs
  cut_same f left right e = omega (arith, sum_by_push f (set xs by left) right, sum_set f xs by v left at, e)

  -- and so does what is put together
  pub join_same : (f : X → ℕ) (other : ℕ) (w all spent : X) → get_elem? (set xs by all) other ≡ some w → f all + f spent ≡ f v + f w
      → sum_by f (set (set xs by all) other spent) ≡ sum_by f xs
  join_same f other w all spent there e =
      omega (arith, sum_set f (set xs by all) other w spent there, sum_set f xs by v all at, e)

-- what is true of each, after a change of one, and with one more
pub each_set : {X : Type 0} (P : ℕ → X → Type 0) (xs : List X) (by : ℕ) (w : X) → ((j : ℕ) (u : X) → j ≢ by → get_elem? xs j ≡ some u → P j u) → P by w
    → (j : ℕ) (u : X) → get_elem? (set xs by w) j ≡ some u → P j u
each_set {X} P xs by w others mine j u e =
    ⊎_elim
    (λ (x : (j ≡ by) × (w ≡ u)). subst (λ (y : ℕ × X). P y.0 y.1) (λ i. (sym x.0 i, x.1 i)) mine)
    (λ (x : (j ≢ by) × (get_elem? xs j ≡ some u)). others j u x.0 x.1)
    (at_set xs by j w u e)

pub each_more : {X : Type 0} (P : ℕ → X → Type 0) (xs : List X) (w : X) → ((j : ℕ) (u : X) → get_elem? xs j ≡ some u → P j u) → ((j : ℕ) → P j w)
    → (j : ℕ) (u : X) → get_elem? (xs ++ w ∷ []) j ≡ some u → P j u
each_more {X} P xs w others mine j u e =
    ⊎_elim
    (λ (x : get_elem? xs j ≡ some u). others j u x)
    (λ (x : w ≡ u). subst (λ (y : X). P j y) x (mine j))
    (at_snoc xs w u j e)

-- who has all of one thing has all of another that only those have who have the one
pub none_else : {X : Type 0} (g f : X → ℕ) (xs : List X) → ((j : ℕ) (u : X) → get_elem? xs j ≡ some u → g u ≡ 0 → f u ≡ 0) → sum_by g xs ≡ 0 → sum_by f xs ≡ 0
none_else g f [] only none = refl
none_else g f (x ∷ xs) only none =
    let s = sum_by-cons g x xs in
    let here : f x ≡ 0 = only 0 x refl (omega (arith, s, none)) in
    let rest : sum_by f xs ≡ 0 = none_else g f xs (λ j u e z. only (suc j) u e z) (omega (arith, s, none)) in
    omega (arith, sum_by-cons f x xs, here, rest)

pub at_most : {X : Type 0} (g : X → ℕ) (xs : List X) (by : ℕ) (v : X) → get_elem? xs by ≡ some v → g v ≤ sum_by g xs
at_most g [] by v at = absurd (some-ne-none v (sym at))
at_most g (x ∷ xs) zero v at = let e : g x ≡ g v = ap g (some-injective x v at) in omega (arith, e, sum_by-cons g x xs)
at_most g (x ∷ xs) (suc by) v at = omega (arith, at_most g xs by v at, sum_by-cons g x xs)

pub has_all : {X : Type 0} (g f : X → ℕ) (xs : List X) (by : ℕ) (v : X) → get_elem? xs by ≡ some v → ((j : ℕ) (u : X) → get_elem? xs j ≡ some u → g u ≡ 0 → f u ≡ 0)
    → sum_by g xs ≡ g v → sum_by f xs ≡ f v
has_all g f [] by v at only all = absurd (some-ne-none v (sym at))
has_all g f (x ∷ xs) zero v at only all =
    let here : g x ≡ g v = ap g (some-injective x v at) in
    let same : f x ≡ f v = ap f (some-injective x v at) in
    let rest : sum_by f xs ≡ 0 = none_else g f xs (λ j u e z. only (suc j) u e z) (omega (arith, sum_by-cons g x xs, all, here)) in
    omega (arith, sum_by-cons f x xs, rest, same)
has_all g f (x ∷ xs) (suc by) v at only all =
    let s = sum_by-cons g x xs in
    let m = at_most g xs by v at in
    let here : f x ≡ 0 = only 0 x refl (omega (arith, s, m, all)) in
    let rest : sum_by f xs ≡ f v = has_all g f xs by v at (λ j u e z. only (suc j) u e z) (omega (arith, s, m, all)) in
    omega (arith, sum_by-cons f x xs, here, rest)

-- where each weighs 1
pub ones : {X : Type 0} (xs : List X) → sum_by (λ (x : X). 1) xs ≡ length xs
ones [] = refl
ones {X} (x ∷ xs) = omega (arith, sum_by-cons (λ (y : X). 1) x xs, ones xs)

pub weigh_none : {X : Type 0} (h : X → ℕ) (xs : List X) → sum_by (λ (x : X). 1) xs ≡ 0 → sum_by h xs ≡ 0
weigh_none h [] none = refl
weigh_none {X} h (x ∷ xs) none = absurd (omega (arith, sum_by-cons (λ (y : X). 1) x xs, none))
