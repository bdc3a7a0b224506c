-- Lists that one member leaves, and that one member changes in.
use Rattle.std.proofs.Common.{◌≡◌, ◌+◌, ◌≤◌, Bool, true, false, ◌||◌, cond, List, [], ◌∷◌, Option, Some, None, refl, ap, arith}
use Rattle.std.specs.Prelude.{find}
use Rattle.std.specs.List.{list_any}
use Rattle.xa_model.specs.State.{count, without, change}
use Rattle.xa_model.proofs.Counts.{count_less, count_either, count_nowhere}

left_by : {A : Type 0} (p r : A → Bool) (b : Bool) (h : (x : A) → p x ≡ true → r x ≡ b) (x : A) (xs ys : List A) (c : Bool) → p x ≡ c → (c || list_any p xs) ≡ true
    → (list_any p xs ≡ true → count r ys + cond b 1 0 ≡ count r xs) → count r (cond c xs (x ∷ ys)) + cond b 1 0 ≡ cond (r x) 1 0 + count r xs
left_by p r b h x xs ys true e any rest = rw (h x e) (omega arith)
left_by p r b h x xs ys false e any rest = let fewer : count r ys + cond b 1 0 ≡ count r xs = rest any in omega arith

-- what is counted of who is left
pub count_left : {A : Type 0} (p r : A → Bool) (b : Bool) (h : (x : A) → p x ≡ true → r x ≡ b) (xs : List A) → list_any p xs ≡ true → count r (without p xs) + cond b 1 0 ≡ count r xs
count_left p r b h [] any = absurd (cc any)
count_left p r b h (x ∷ xs) any = left_by p r b h x xs (without p xs) (p x) refl any (count_left p r b h xs)

turned_by : {A : Type 0} (p r : A → Bool) (f : A → A) (b : Bool) (h : (x : A) → p x ≡ true → r (f x) ≡ b) (x : A) (xs ys zs : List A) (c : Bool) → p x ≡ c → (c || list_any p xs) ≡ true
    → (list_any p xs ≡ true → count r zs ≡ count r ys + cond b 1 0) → count r (cond c (f x ∷ xs) (x ∷ zs)) ≡ count r (cond c xs (x ∷ ys)) + cond b 1 0
turned_by p r f b h x xs ys zs true e any rest = rw (h x e) (omega arith)
turned_by p r f b h x xs ys zs false e any rest = let more : count r zs ≡ count r ys + cond b 1 0 = rest any in omega arith

-- one that changes leaves, and comes back changed
pub count_turned : {A : Type 0} (p r : A → Bool) (f : A → A) (b : Bool) (h : (x : A) → p x ≡ true → r (f x) ≡ b) (xs : List A) → list_any p xs ≡ true
    → count r (change p f xs) ≡ count r (without p xs) + cond b 1 0
count_turned p r f b h [] any = absurd (cc any)
count_turned p r f b h (x ∷ xs) any = turned_by p r f b h x xs (without p xs) (change p f xs) (p x) refl any (count_turned p r f b h xs)

-- any, and how many

any_by : {A : Type 0} (p : A → Bool) (xs : List A) (c : Bool) → (c || list_any p xs) ≡ true → (list_any p xs ≡ true → 1 ≤ count p xs) → 1 ≤ cond c 1 0 + count p xs
any_by p xs true any rest = omega arith
any_by p xs false any rest = let some : 1 ≤ count p xs = rest any in omega arith

pub any_counts : {A : Type 0} (p : A → Bool) (xs : List A) → list_any p xs ≡ true → 1 ≤ count p xs
any_counts p [] any = absurd (cc any)
any_counts p (x ∷ xs) any = any_by p xs (p x) any (any_counts p xs)

none_by : {A : Type 0} (p : A → Bool) (xs : List A) (c : Bool) → list_any p xs ≡ c → count p xs ≡ 0 → c ≡ false
none_by p xs true e zero = let some : 1 ≤ count p xs = any_counts p xs e in absurd (omega arith)
none_by p xs false e zero = refl

pub none_counted : {A : Type 0} (p : A → Bool) (xs : List A) → count p xs ≡ 0 → list_any p xs ≡ false
none_counted p xs zero = none_by p xs (list_any p xs) refl zero

-- who passes neither of two isn't there
pub neither_any : {A : Type 0} (p q r : A → Bool) (h : (x : A) → r x ≡ true → p x ≡ false → q x ≡ true) (xs : List A) → list_any p xs ≡ false → list_any q xs ≡ false → list_any r xs ≡ false
neither_any p q r h xs none nor =
    let first : count p xs ≡ 0 = count_nowhere p xs none in
    let second : count q xs ≡ 0 = count_nowhere q xs nor in
    let both : count r xs ≤ count p xs + count q xs = count_either r p q h xs in
    let zero : count r xs ≡ 0 = omega arith in
    none_counted r xs zero

some_by : {A : Type 0} (p : A → Bool) (xs : List A) (c : Bool) → list_any p xs ≡ c → 1 ≤ count p xs → c ≡ true
some_by p xs true e some = refl
some_by p xs false e some = let zero : count p xs ≡ 0 = count_nowhere p xs e in absurd (omega arith)

-- one of some is one of more
pub more_any : {A : Type 0} (p q : A → Bool) (h : (x : A) → p x ≡ true → q x ≡ true) (xs : List A) → list_any p xs ≡ true → list_any q xs ≡ true
more_any p q h xs any =
    let fewer : count p xs ≤ count q xs = count_less p q h xs in
    let some : 1 ≤ count p xs = any_counts p xs any in
    some_by q xs (list_any q xs) refl (omega arith)

found_by : {A : Type 0} (p : A → Bool) (x y : A) (xs : List A) (c : Bool) → cond c (Some x) (find p xs) ≡ Some y → (find p xs ≡ Some y → list_any p xs ≡ true) → (c || list_any p xs) ≡ true
found_by p x y xs true e rest = refl
found_by p x y xs false e rest = rest e

pub found_any : {A : Type 0} (p : A → Bool) (y : A) (xs : List A) → find p xs ≡ Some y → list_any p xs ≡ true
found_any p y [] e = absurd (cc e)
found_any p y (x ∷ xs) e = found_by p x y xs (p x) e (found_any p y xs)

-- where at most one passes one of two tests, and one passes both, it is that one who leaves

same_by : {A : Type 0} (p q : A → Bool) (h : (x : A) → q x ≡ true → p x ≡ true) (x : A) (xs ys zs : List A) (c d : Bool) → p x ≡ c → q x ≡ d → cond c 1 0 + count p xs ≤ 1 → (d || list_any q xs) ≡ true
    → (count p xs ≤ 1 → list_any q xs ≡ true → ys ≡ zs) → cond c xs (x ∷ ys) ≡ cond d xs (x ∷ zs)
same_by p q h x xs ys zs true true e k one any rest = refl
same_by p q h x xs ys zs true false e k one any rest =
    let fewer : count q xs ≤ count p xs = count_less q p h xs in
    let some : 1 ≤ count q xs = any_counts q xs any in absurd (omega arith)
same_by p q h x xs ys zs false true e k one any rest = let passes : p x ≡ true = h x k in absurd (cc (e, passes))
same_by p q h x xs ys zs false false e k one any rest = ap (λ l. x ∷ l) (rest (omega arith) any)

pub without_same : {A : Type 0} (p q : A → Bool) (h : (x : A) → q x ≡ true → p x ≡ true) (xs : List A) → count p xs ≤ 1 → list_any q xs ≡ true → without p xs ≡ without q xs
without_same p q h [] one any = refl
without_same p q h (x ∷ xs) one any = same_by p q h x xs (without p xs) (without q xs) (p x) (q x) refl refl one any (without_same p q h xs)

-- where nobody is found, nobody leaves, and nobody changes

unleft_by : {A : Type 0} (x : A) (xs ys : List A) (o : Option A) (c : Bool) → cond c (Some x) o ≡ None → (o ≡ None → ys ≡ xs) → cond c xs (x ∷ ys) ≡ x ∷ xs
unleft_by x xs ys o true none rest = absurd (cc none)
unleft_by x xs ys o false none rest = ap (λ l. x ∷ l) (rest none)

pub without_none : {A : Type 0} (p : A → Bool) (xs : List A) → find p xs ≡ None → without p xs ≡ xs
without_none p [] none = refl
without_none p (x ∷ xs) none = unleft_by x xs (without p xs) (find p xs) (p x) none (without_none p xs)

unchanged_by : {A : Type 0} (f : A → A) (x : A) (xs ys : List A) (o : Option A) (c : Bool) → cond c (Some x) o ≡ None → (o ≡ None → ys ≡ xs) → cond c (f x ∷ xs) (x ∷ ys) ≡ x ∷ xs
unchanged_by f x xs ys o true none rest = absurd (cc none)
unchanged_by f x xs ys o false none rest = ap (λ l. x ∷ l) (rest none)

pub change_none : {A : Type 0} (p : A → Bool) (f : A → A) (xs : List A) → find p xs ≡ None → change p f xs ≡ xs
change_none p f [] none = refl
change_none p f (x ∷ xs) none = unchanged_by f x xs (change p f xs) (find p xs) (p x) none (change_none p f xs)
