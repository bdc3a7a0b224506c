-- Lists in which the first member that passes is found, is changed, or leaves.
use Rattle.std.proofs.Common.{◌≡◌, suc, ◌+◌, Bool, true, false, cond, List, [], ◌∷◌, length, Some, refl, ap, subst, arith}
use Rattle.std.specs.Prelude.{option_map}
use Rattle.std.specs.List.{find, AllByRecursion}
use Rattle.xa_model.specs.State.{without, change}

found_by : {A : Type 0} (p : A → Bool) (x y : A) (xs : List A) (c : Bool) → p x ≡ c → (find p xs ≡ Some y → p y ≡ true) → cond c (Some x) (find p xs) ≡ Some y → p y ≡ true
found_by p x y xs true is rest h = let same : x ≡ y = cc h in subst (λ z. p z ≡ true) same is
found_by p x y xs false is rest h = rest h

-- what is found passes
pub found_passes : {A : Type 0} (p : A → Bool) (y : A) (xs : List A) → find p xs ≡ Some y → p y ≡ true
found_passes p y [] h = absurd (cc h)
found_passes p y (x ∷ xs) h = found_by p x y xs (p x) refl (found_passes p y xs) h

-- what is found after a change
change_same_by : {A : Type 0} (p : A → Bool) (f : A → A) (keeps : (x : A) → p x ≡ true → p (f x) ≡ true) (x : A) (xs : List A) (c : Bool) → p x ≡ c
    → find p (change p f xs) ≡ option_map f (find p xs) → find p (cond c (f x ∷ xs) (x ∷ change p f xs)) ≡ option_map f (cond c (Some x) (find p xs))
change_same_by p f keeps x xs true is rest = rw (keeps x is) refl
change_same_by p f keeps x xs false is rest = rw is rest

pub find_change_same : {A : Type 0} (p : A → Bool) (f : A → A) (keeps : (x : A) → p x ≡ true → p (f x) ≡ true) (xs : List A) → find p (change p f xs) ≡ option_map f (find p xs)
find_change_same p f keeps [] = refl
find_change_same p f keeps (x ∷ xs) = change_same_by p f keeps x xs (p x) refl (find_change_same p f keeps xs)

change_other_by : {A : Type 0} (p q : A → Bool) (f : A → A) (apart : (x : A) → p x ≡ true → (q x ≡ false) × (q (f x) ≡ false)) (x : A) (xs : List A) (c : Bool) → p x ≡ c
    → find q (change p f xs) ≡ find q xs → find q (cond c (f x ∷ xs) (x ∷ change p f xs)) ≡ find q (x ∷ xs)
change_other_by p q f apart x xs true is rest = let both = apart x is in rw (both.0, both.1) refl
change_other_by p q f apart x xs false is rest = ap (λ o. cond (q x) (Some x) o) rest

pub find_change_other : {A : Type 0} (p q : A → Bool) (f : A → A) (apart : (x : A) → p x ≡ true → (q x ≡ false) × (q (f x) ≡ false)) (xs : List A) → find q (change p f xs) ≡ find q xs
find_change_other p q f apart [] = refl
find_change_other p q f apart (x ∷ xs) = change_other_by p q f apart x xs (p x) refl (find_change_other p q f apart xs)

change_length_by : {A : Type 0} (f : A → A) (x : A) (xs ys : List A) (c : Bool) → length ys ≡ length xs → length (cond c (f x ∷ xs) (x ∷ ys)) ≡ length (x ∷ xs)
change_length_by f x xs ys true rest = refl
change_length_by f x xs ys false rest = ap (λ n. suc n) rest

pub length-change : {A : Type 0} (p : A → Bool) (f : A → A) (xs : List A) → length (change p f xs) ≡ length xs
length-change p f [] = refl
length-change p f (x ∷ xs) = change_length_by f x xs (change p f xs) (p x) (length-change p f xs)

-- what holds of all holds of what is found
found_all_by : {A : Type 0} (P : A → Type 0) (p : A → Bool) (y x : A) (xs : List A) (c : Bool) → AllByRecursion P (x ∷ xs) → (find p xs ≡ Some y → P y) → cond c (Some x) (find p xs) ≡ Some y → P y
found_all_by P p y x xs true all rest h = let same : x ≡ y = cc h in subst P same all.0
found_all_by P p y x xs false all rest h = rest h

pub found_all : {A : Type 0} (P : A → Type 0) (p : A → Bool) (y : A) (xs : List A) → AllByRecursion P xs → find p xs ≡ Some y → P y
found_all P p y [] all h = absurd (cc h)
found_all P p y (x ∷ xs) all h = found_all_by P p y x xs (p x) all (found_all P p y xs all.1) h

-- and of the members that a change or a leaving leaves
change_all_by : {A : Type 0} (P : A → Type 0) (f : A → A) (keeps : (x : A) → P x → P (f x)) (x : A) (xs ys : List A) (c : Bool) → AllByRecursion P (x ∷ xs) → AllByRecursion P ys
    → AllByRecursion P (cond c (f x ∷ xs) (x ∷ ys))
change_all_by P f keeps x xs ys true all rest = (keeps x all.0, all.1)
change_all_by P f keeps x xs ys false all rest = (all.0, rest)

pub change_all : {A : Type 0} (P : A → Type 0) (p : A → Bool) (f : A → A) (keeps : (x : A) → P x → P (f x)) (xs : List A) → AllByRecursion P xs → AllByRecursion P (change p f xs)
change_all P p f keeps [] all = tt
change_all P p f keeps (x ∷ xs) all = change_all_by P f keeps x xs (change p f xs) (p x) all (change_all P p f keeps xs all.1)

left_all_by : {A : Type 0} (P : A → Type 0) (x : A) (xs ys : List A) (c : Bool) → AllByRecursion P (x ∷ xs) → AllByRecursion P ys → AllByRecursion P (cond c xs (x ∷ ys))
left_all_by P x xs ys true all rest = all.1
left_all_by P x xs ys false all rest = (all.0, rest)

pub without_all : {A : Type 0} (P : A → Type 0) (p : A → Bool) (xs : List A) → AllByRecursion P xs → AllByRecursion P (without p xs)
without_all P p [] all = tt
without_all P p (x ∷ xs) all = left_all_by P x xs (without p xs) (p x) all (without_all P p xs all.1)

-- lengths of lists that start alike
pub same_length : {A : Type 0} (c : Bool) (x : A) (xs ys : List A) → length xs ≡ length ys → length (cond c (x ∷ xs) xs) ≡ length (cond c (x ∷ ys) ys)
same_length true x xs ys e = ap (λ n. suc n) e
same_length false x xs ys e = e

pub one_less : {A : Type 0} (c : Bool) (x : A) (xs ys : List A) → length xs + 1 ≡ length ys → length (cond c (x ∷ xs) xs) + 1 ≡ length (cond c (x ∷ ys) ys)
one_less true x xs ys e = omega arith
one_less false x xs ys e = e
