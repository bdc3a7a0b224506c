-- What is found in a list, after a change of the list.
use Rattle.std.proofs.Common.{◌≡◌, Bool, true, false, cond, List, [], ◌∷◌, Option, Some, None, refl}
use Rattle.std.specs.Prelude.{find, map}
use Rattle.xa_model.specs.State.{without, change}

-- what is told of what is found
abbrev pub told : {A : Type 0} → (A → Bool) → Option A → Bool
told w None = false
told w (Some x) = w x

changed_by : {A : Type 0} (f : A → A) (q w : A → Bool) (h : (x : A) → (q (f x) ≡ q x) × (w (f x) ≡ w x)) (x : A) (xs ys : List A) (c : Bool)
    → told w (find q ys) ≡ told w (find q xs) → told w (find q (cond c (f x ∷ xs) (x ∷ ys))) ≡ told w (cond (q x) (Some x) (find q xs))
changed_by f q w h x xs ys true rest = here_by f q w x xs (q x) (h x)
  where
    here_by : {A : Type 0} (f : A → A) (q w : A → Bool) (x : A) (xs : List A) (c : Bool) → (q (f x) ≡ c) × (w (f x) ≡ w x) → told w (cond (q (f x)) (Some (f x)) (find q xs)) ≡ told w (cond c (Some x) (find q xs))
    here_by f q w x xs true e = rw (e.0, e.1) refl
    here_by f q w x xs false e = rw e.0 refl
changed_by f q w h x xs ys false rest = there_by q w x xs ys (q x) rest
  where
    there_by : {A : Type 0} (q w : A → Bool) (x : A) (xs ys : List A) (c : Bool) → told w (find q ys) ≡ told w (find q xs) → told w (cond c (Some x) (find q ys)) ≡ told w (cond c (Some x) (find q xs))
    there_by q w x xs ys true rest = refl
    there_by q w x xs ys false rest = rest

-- a change of one member that keeps both
pub told_change : {A : Type 0} (p : A → Bool) (f : A → A) (q w : A → Bool) (h : (x : A) → (q (f x) ≡ q x) × (w (f x) ≡ w x)) (xs : List A) → told w (find q (change p f xs)) ≡ told w (find q xs)
told_change p f q w h [] = refl
told_change p f q w h (x ∷ xs) = changed_by f q w h x xs (change p f xs) (p x) (told_change p f q w h xs)

mapped_by : {A : Type 0} (f : A → A) (q w : A → Bool) (x : A) (xs ys : List A) (c : Bool) → (q (f x) ≡ c) × (w (f x) ≡ w x) → told w (find q ys) ≡ told w (find q xs)
    → told w (cond (q (f x)) (Some (f x)) (find q ys)) ≡ told w (cond c (Some x) (find q xs))
mapped_by f q w x xs ys true e rest = rw (e.0, e.1) refl
mapped_by f q w x xs ys false e rest = rw e.0 rest

-- and a change of all
pub told_map : {A : Type 0} (f : A → A) (q w : A → Bool) (h : (x : A) → (q (f x) ≡ q x) × (w (f x) ≡ w x)) (xs : List A) → told w (find q (map f xs)) ≡ told w (find q xs)
told_map f q w h [] = refl
told_map f q w h (x ∷ xs) = mapped_by f q w x xs (map f xs) (q x) (h x) (told_map f q w h xs)

left_by : {A : Type 0} (p q : A → Bool) (apart : (x : A) → p x ≡ true → q x ≡ false) (x : A) (xs ys : List A) (c : Bool) → p x ≡ c → find q ys ≡ find q xs → find q (cond c xs (x ∷ ys)) ≡ cond (q x) (Some x) (find q xs)
left_by p q apart x xs ys true e rest = rw (apart x e) refl
left_by p q apart x xs ys false e rest = rw rest refl

-- another member leaves
pub find_without : {A : Type 0} (p q : A → Bool) (apart : (x : A) → p x ≡ true → q x ≡ false) (xs : List A) → find q (without p xs) ≡ find q xs
find_without p q apart [] = refl
find_without p q apart (x ∷ xs) = left_by p q apart x xs (without p xs) (p x) refl (find_without p q apart xs)

same_by : {A : Type 0} (f : A → A) (q : A → Bool) (x : A) (xs ys : List A) (c d : Bool) → q x ≡ d → q (f x) ≡ d → (find q ys ≡ None → find q xs ≡ None) → find q (cond c (f x ∷ xs) (x ∷ ys)) ≡ None → cond d (Some x) (find q xs) ≡ None
same_by f q x xs ys true true e h rest none = let none : Some (f x) ≡ None = simp h at none in absurd (cc none)
same_by f q x xs ys true false e h rest none = simp h at none
same_by f q x xs ys false true e h rest none = let none : Some x ≡ None = simp e at none in absurd (cc none)
same_by f q x xs ys false false e h rest none = let none : find q ys ≡ None = simp e at none in rest none

-- where nothing is found after a change that keeps who passes, nothing was
pub none_before : {A : Type 0} (p : A → Bool) (f : A → A) (q : A → Bool) (h : (x : A) → q (f x) ≡ q x) (xs : List A) → find q (change p f xs) ≡ None → find q xs ≡ None
none_before p f q h [] none = refl
none_before p f q h (x ∷ xs) none = same_by f q x xs (change p f xs) (p x) (q x) refl (h x) (none_before p f q h xs) none
