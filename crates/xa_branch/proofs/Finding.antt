-- How many members of a list pass, where one that is found leaves or changes.
use Rattle.std.proofs.Common.{◌≡◌, ◌+◌, Bool, true, false, cond, List, [], ◌∷◌, length, Some, refl, ap, arith}
use Rattle.std.specs.Prelude.{find}
use Rattle.xa_model.specs.State.{count, without, change}

left_by : {A : Type 0} (p r : A → Bool) (y x : A) (xs ys : List A) (c : Bool) → cond c (Some x) (find p xs) ≡ Some y → (find p xs ≡ Some y → count r ys + cond (r y) 1 0 ≡ count r xs)
    → count r (cond c xs (x ∷ ys)) + cond (r y) 1 0 ≡ cond (r x) 1 0 + count r xs
left_by p r y x xs ys true e rest = let same : x ≡ y = cc e in rw same (omega arith)
left_by p r y x xs ys false e rest = let fewer : count r ys + cond (r y) 1 0 ≡ count r xs = rest e in omega arith

-- the one that is found leaves
pub found_left : {A : Type 0} (p r : A → Bool) (y : A) (xs : List A) → find p xs ≡ Some y → count r (without p xs) + cond (r y) 1 0 ≡ count r xs
found_left p r y [] e = absurd (cc e)
found_left p r y (x ∷ xs) e = left_by p r y x xs (without p xs) (p x) e (found_left p r y xs)

turned_by : {A : Type 0} (p r : A → Bool) (f : A → A) (y x : A) (xs ys : List A) (c : Bool) → cond c (Some x) (find p xs) ≡ Some y → (find p xs ≡ Some y → count r ys + cond (r y) 1 0 ≡ count r xs + cond (r (f y)) 1 0)
    → count r (cond c (f x ∷ xs) (x ∷ ys)) + cond (r y) 1 0 ≡ (cond (r x) 1 0 + count r xs) + cond (r (f y)) 1 0
turned_by p r f y x xs ys true e rest = let same : x ≡ y = cc e in rw same (omega arith)
turned_by p r f y x xs ys false e rest = let more : count r ys + cond (r y) 1 0 ≡ count r xs + cond (r (f y)) 1 0 = rest e in omega arith

-- it changes
pub found_turned : {A : Type 0} (p r : A → Bool) (f : A → A) (y : A) (xs : List A) → find p xs ≡ Some y → count r (change p f xs) + cond (r y) 1 0 ≡ count r xs + cond (r (f y)) 1 0
found_turned p r f y [] e = absurd (cc e)
found_turned p r f y (x ∷ xs) e = turned_by p r f y x xs (change p f xs) (p x) e (found_turned p r f y xs)

fixed_by : {A : Type 0} (p : A → Bool) (f : A → A) (y x : A) (xs ys : List A) (c : Bool) → f y ≡ y → cond c (Some x) (find p xs) ≡ Some y → (find p xs ≡ Some y → ys ≡ xs) → cond c (f x ∷ xs) (x ∷ ys) ≡ x ∷ xs
fixed_by p f y x xs ys true same e rest = let is : x ≡ y = cc e in rw is (ap (λ z. z ∷ xs) same)
fixed_by p f y x xs ys false same e rest = ap (λ l. x ∷ l) (rest e)

-- it changes to itself
pub found_fixed : {A : Type 0} (p : A → Bool) (f : A → A) (y : A) (xs : List A) → f y ≡ y → find p xs ≡ Some y → change p f xs ≡ xs
found_fixed p f y [] same e = refl
found_fixed p f y (x ∷ xs) same e = fixed_by p f y x xs (change p f xs) (p x) same e (found_fixed p f y xs same)

-- all are as many as the list is long
pub all_counted : {A : Type 0} (xs : List A) → count (λ (_ : A). true) xs ≡ length xs
all_counted [] = refl
all_counted (x ∷ xs) = let rest : count (λ _. true) xs ≡ length xs = all_counted xs in omega arith
