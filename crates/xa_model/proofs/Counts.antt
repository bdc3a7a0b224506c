-- How many members of a list pass, after a change of the list.
use Rattle.std.proofs.Common.{◌≡◌, ℕ, ◌+◌, ◌≤◌, Bool, true, false, not, ◌||◌, cond, List, [], ◌∷◌, Some, None, refl, arith}
use Rattle.std.specs.Prelude.{find, filter, map}
use Rattle.std.specs.List.{list_any}
use Rattle.xa_model.specs.State.{count, without, change}

-- a member counts once at the most
pub one_at_most : (b : Bool) → cond b 1 0 ≤ 1
one_at_most true = omega arith
one_at_most false = omega arith

no_more : (b c : Bool) → (b ≡ true → c ≡ true) → cond b 1 0 ≤ cond c 1 0
no_more true c h = rw (h refl) (omega arith)
no_more false true h = omega arith
no_more false false h = omega arith

-- what passes less often is counted less
pub count_less : {A : Type 0} (p q : A → Bool) (h : (x : A) → p x ≡ true → q x ≡ true) (xs : List A) → count p xs ≤ count q xs
count_less p q h [] = omega arith
count_less p q h (x ∷ xs) =
    let rest : count p xs ≤ count q xs = count_less p q h xs in
    let here : cond (p x) 1 0 ≤ cond (q x) 1 0 = no_more (p x) (q x) (h x) in omega arith

-- what passes one of two is counted by one of them
either : (b c d : Bool) → (b ≡ true → c ≡ false → d ≡ true) → cond b 1 0 ≤ cond c 1 0 + cond d 1 0
either true true d h = omega arith
either true false d h = rw (h refl refl) (omega arith)
either false c d h = omega arith

pub count_either : {A : Type 0} (p q r : A → Bool) (h : (x : A) → p x ≡ true → q x ≡ false → r x ≡ true) (xs : List A) → count p xs ≤ count q xs + count r xs
count_either p q r h [] = omega arith
count_either p q r h (x ∷ xs) =
    let rest : count p xs ≤ count q xs + count r xs = count_either p q r h xs in
    let here : cond (p x) 1 0 ≤ cond (q x) 1 0 + cond (r x) 1 0 = either (p x) (q x) (r x) (h x) in omega arith

-- found, and counted

none_by : {A : Type 0} (p : A → Bool) (x : A) (xs : List A) (c : Bool) → cond c (Some x) (find p xs) ≡ None → (find p xs ≡ None → count p xs ≡ 0) → cond c 1 0 + count p xs ≡ 0
none_by p x xs true e rest = absurd (cc e)
none_by p x xs false e rest = let here : count p xs ≡ 0 = rest e in omega arith

pub count_none : {A : Type 0} (p : A → Bool) (xs : List A) → find p xs ≡ None → count p xs ≡ 0
count_none p [] e = refl
count_none p (x ∷ xs) e = none_by p x xs (p x) e (count_none p xs)

zero_by : {A : Type 0} (p : A → Bool) (x : A) (xs : List A) (c : Bool) → cond c 1 0 + count p xs ≡ 0 → (count p xs ≡ 0 → find p xs ≡ None) → cond c (Some x) (find p xs) ≡ None
zero_by p x xs true e rest = absurd (omega arith)
zero_by p x xs false e rest = let here : count p xs ≡ 0 = omega arith in rest here

pub found_none : {A : Type 0} (p : A → Bool) (xs : List A) → count p xs ≡ 0 → find p xs ≡ None
found_none p [] e = refl
found_none p (x ∷ xs) e = zero_by p x xs (p x) e (found_none p xs)

nowhere_by : {A : Type 0} (p : A → Bool) (x : A) (xs : List A) (c : Bool) → (c || list_any p xs) ≡ false → (list_any p xs ≡ false → count p xs ≡ 0) → cond c 1 0 + count p xs ≡ 0
nowhere_by p x xs true e rest = absurd (cc e)
nowhere_by p x xs false e rest = let here : count p xs ≡ 0 = rest e in omega arith

pub count_nowhere : {A : Type 0} (p : A → Bool) (xs : List A) → list_any p xs ≡ false → count p xs ≡ 0
count_nowhere p [] e = refl
count_nowhere p (x ∷ xs) e = nowhere_by p x xs (p x) e (count_nowhere p xs)

-- a member leaves

left_by : {A : Type 0} (q : A → Bool) (x : A) (xs ys : List A) (c : Bool) → count q ys ≤ count q xs → count q (cond c xs (x ∷ ys)) ≤ cond (q x) 1 0 + count q xs
left_by q x xs ys true h = omega arith
left_by q x xs ys false h = omega arith

pub count_without : {A : Type 0} (p q : A → Bool) (xs : List A) → count q (without p xs) ≤ count q xs
count_without p q [] = omega arith
count_without p q (x ∷ xs) = left_by q x xs (without p xs) (p x) (count_without p q xs)

apart_by : {A : Type 0} (p q : A → Bool) (h : (x : A) → p x ≡ true → q x ≡ false) (x : A) (xs ys : List A) (c : Bool)
    → p x ≡ c → count q ys ≡ count q xs → count q (cond c xs (x ∷ ys)) ≡ cond (q x) 1 0 + count q xs
apart_by p q h x xs ys true e rest = rw (h x e) (omega arith)
apart_by p q h x xs ys false e rest = rw rest refl

-- one that doesn't count
pub count_apart : {A : Type 0} (p q : A → Bool) (h : (x : A) → p x ≡ true → q x ≡ false) (xs : List A)
    → count q (without p xs) ≡ count q xs
count_apart p q h [] = refl
count_apart p q h (x ∷ xs) = apart_by p q h x xs (without p xs) (p x) refl (count_apart p q h xs)

kept_by : {A : Type 0} (q : A → Bool) (x : A) (ys : List A) (n : ℕ) (c : Bool) → count q ys ≤ n → count q (cond c (x ∷ ys) ys) ≤ cond (q x) 1 0 + n
kept_by q x ys n true h = omega arith
kept_by q x ys n false h = omega arith

pub count_filter : {A : Type 0} (p q : A → Bool) (xs : List A) → count q (filter p xs) ≤ count q xs
count_filter p q [] = omega arith
count_filter p q (x ∷ xs) = kept_by q x (filter p xs) (count q xs) (p x) (count_filter p q xs)

out_by : {A : Type 0} (p : A → Bool) (x : A) (ys : List A) (c : Bool) → p x ≡ c → count p ys ≡ 0 → count p (cond (not c) (x ∷ ys) ys) ≡ 0
out_by p x ys true e h = h
out_by p x ys false e h = rw (e, h) refl

-- those that pass are left out
pub count_out : {A : Type 0} (p : A → Bool) (xs : List A) → count p (filter (λ x. not (p x)) xs) ≡ 0
count_out p [] = refl
count_out p (x ∷ xs) = out_by p x (filter (λ y. not (p y)) xs) (p x) refl (count_out p xs)

-- a member changes

more_by : {A : Type 0} (f : A → A) (q : A → Bool) (x : A) (xs ys : List A) (c : Bool) → count q ys ≤ count q xs + 1 → count q (cond c (f x ∷ xs) (x ∷ ys)) ≤ (cond (q x) 1 0 + count q xs) + 1
more_by f q x xs ys true h = let here : cond (q (f x)) 1 0 ≤ 1 = one_at_most (q (f x)) in omega arith
more_by f q x xs ys false h = omega arith

pub count_change : {A : Type 0} (p : A → Bool) (f : A → A) (q : A → Bool) (xs : List A) → count q (change p f xs) ≤ count q xs + 1
count_change p f q [] = omega arith
count_change p f q (x ∷ xs) = more_by f q x xs (change p f xs) (p x) (count_change p f q xs)

no_more_by : {A : Type 0} (p : A → Bool) (f : A → A) (q : A → Bool) (h : (x : A) → p x ≡ true → q (f x) ≡ true → q x ≡ true) (x : A) (xs ys : List A) (c : Bool) → p x ≡ c
    → count q ys ≤ count q xs → count q (cond c (f x ∷ xs) (x ∷ ys)) ≤ cond (q x) 1 0 + count q xs
no_more_by p f q h x xs ys true e rest = let here : cond (q (f x)) 1 0 ≤ cond (q x) 1 0 = no_more (q (f x)) (q x) (h x e) in omega arith
no_more_by p f q h x xs ys false e rest = omega arith

-- by which nothing more passes
pub count_changed : {A : Type 0} (p : A → Bool) (f : A → A) (q : A → Bool) (h : (x : A) → p x ≡ true → q (f x) ≡ true → q x ≡ true) (xs : List A) → count q (change p f xs) ≤ count q xs
count_changed p f q h [] = omega arith
count_changed p f q h (x ∷ xs) = no_more_by p f q h x xs (change p f xs) (p x) refl (count_changed p f q h xs)

same_by : {A : Type 0} (f : A → A) (q : A → Bool) (h : (x : A) → q (f x) ≡ q x) (x : A) (xs ys : List A) (c : Bool) → count q ys ≡ count q xs → count q (cond c (f x ∷ xs) (x ∷ ys)) ≡ cond (q x) 1 0 + count q xs
same_by f q h x xs ys true rest = rw (h x) refl
same_by f q h x xs ys false rest = rw rest refl

-- by which as many pass
pub count_same : {A : Type 0} (p : A → Bool) (f : A → A) (q : A → Bool) (h : (x : A) → q (f x) ≡ q x) (xs : List A) → count q (change p f xs) ≡ count q xs
count_same p f q h [] = refl
count_same p f q h (x ∷ xs) = same_by f q h x xs (change p f xs) (p x) (count_same p f q h xs)

pub count_map : {A : Type 0} (f : A → A) (q : A → Bool) (h : (x : A) → q (f x) ≡ q x) (xs : List A) → count q (map f xs) ≡ count q xs
count_map f q h [] = refl
count_map f q h (x ∷ xs) = let rest : count q (map f xs) ≡ count q xs = count_map f q h xs in rw (h x, rest) refl
