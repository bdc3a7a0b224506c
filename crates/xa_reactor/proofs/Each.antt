-- The items of a list that are changed in place, one after another.
use Rattle.std.proofs.Common.{◌≡◌, ℕ, ◌+◌, ◌<◌, ◌≤◌, zero, suc, arith, length, List, [], ◌∷◌, get_or, set, sym, subst}
use Rattle.std.specs.Prelude.{All}
use Rattle.std.specs.List.{AllZip}
use Rattle.std.proofs.lemmas.List.Elements.{All-head, All-tail}

-- the first n items were changed, and the rest are as they were
abbrev pub Partway : {A : Type 0} → (A → A → Type 0) → ℕ → List A → List A → Type 0
Partway change zero xs ys = xs ≡ ys
Partway change (suc i) [] ys = ⊥
Partway change (suc i) (x ∷ xs) [] = ⊥
Partway change (suc i) (x ∷ xs) (y ∷ ys) = change x y × Partway change i xs ys

heads : {A : Type 0} (x y : A) (xs ys : List A) → x ∷ xs ≡ y ∷ ys → x ≡ y
heads x y xs ys is = cc is

tails : {A : Type 0} (x y : A) (xs ys : List A) → x ∷ xs ≡ y ∷ ys → xs ≡ ys
tails x y xs ys is = cc is

module _ {A : Type 0} (change : A → A → Type 0) where
  next_is : (i : ℕ) (xs ys : List A) (none new : A) → Partway change i xs ys → i < length ys → change (get_or ys i none) new
      → Partway change (suc i) xs (set ys i new)
  next_is zero xs [] none new h lt did = absurd (omega (arith, lt))
  next_is zero [] (y ∷ ys) none new h lt did = absurd (cc h)
  next_is zero (x ∷ xs) (y ∷ ys) none new h lt did =
      (subst (λ (o : A). change o new) (sym (heads x y xs ys h)) did, tails x y xs ys h)
  next_is (suc i) [] ys none new h lt did = absurd h
  next_is (suc i) (x ∷ xs) [] none new h lt did = absurd h
  next_is (suc i) (x ∷ xs) (y ∷ ys) none new h lt did = (h.0, next_is i xs ys none new h.1 (omega (arith, lt)) did)

  -- the next item is changed
  pub one_more : (i : ℕ) (xs ys : List A) (none new : A) → Partway change i xs ys → i < length ys → change (get_or ys i none) new
      → Partway change (i + 1) xs (set ys i new)
  one_more i xs ys none new h lt did =
      let more : suc i ≡ i + 1 = omega arith in
      subst (λ (n : ℕ). Partway change n xs (set ys i new)) more (next_is i xs ys none new h lt did)

  -- all were changed
  pub all_of : (i : ℕ) (xs ys : List A) → Partway change i xs ys → length ys ≤ i → AllZip change xs ys
  all_of zero [] [] h le = tt
  all_of zero (x ∷ xs) [] h le = absurd (cc h)
  all_of zero xs (y ∷ ys) h le = absurd (omega (arith, le))
  all_of (suc i) [] [] h le = absurd h
  all_of (suc i) [] (y ∷ ys) h le = absurd h
  all_of (suc i) (x ∷ xs) [] h le = absurd h
  all_of (suc i) (x ∷ xs) (y ∷ ys) h le = (h.0, all_of i xs ys h.1 (omega (arith, le)))

  -- what is true of each item that was there is true of the next one
  pub still : (P : A → Type 0) (i : ℕ) (xs ys : List A) (none : A) → Partway change i xs ys → All P xs → i < length ys
      → P (get_or ys i none)
  still P zero xs [] none h all lt = absurd (omega (arith, lt))
  still P zero [] (y ∷ ys) none h all lt = absurd (cc h)
  still P zero (x ∷ xs) (y ∷ ys) none h all lt = subst P (heads x y xs ys h) (All-head P x xs all)
  still P (suc i) [] ys none h all lt = absurd h
  still P (suc i) (x ∷ xs) [] none h all lt = absurd h
  still P (suc i) (x ∷ xs) (y ∷ ys) none h all lt = still P i xs ys none h.1 (All-tail P x xs all) (omega (arith, lt))
