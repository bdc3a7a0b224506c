-- Whether some member of a list passes, after a change of the list.
use Rattle.std.proofs.Common.{◌≡◌, ◌+◌, Bool, true, false, ◌&&◌, ◌||◌, cond, List, [], ◌∷◌, Option, Some, None, refl, ap, ◌∙◌, arith}
use Rattle.std.specs.Prelude.{find, filter}
use Rattle.std.specs.List.{list_any}
use Rattle.xa_model.specs.State.{count, without, change}

or_last : (a b d : Bool) → ((a || d) || b) ≡ ((a || b) || d)
or_last true b d = refl
or_last false true true = refl
or_last false true false = refl
or_last false false true = refl
or_last false false false = refl

or_in : (a b d : Bool) → (a || (b || d)) ≡ ((a || b) || d)
or_in true b d = refl
or_in false b d = refl

-- one member changes, and what passes then is told of it before

changed_by : {A : Type 0} (w p : A → Bool) (f : A → A) (d : Bool) (h : (x : A) → p x ≡ true → w (f x) ≡ (w x || d)) (x : A) (xs ys : List A) (c : Bool) → p x ≡ c
    → list_any w ys ≡ (list_any w xs || (list_any p xs && d)) → list_any w (cond c (f x ∷ xs) (x ∷ ys)) ≡ ((w x || list_any w xs) || ((c || list_any p xs) && d))
changed_by w p f d h x xs ys true e rest = ap (λ (b : Bool). b || list_any w xs) (h x e) ∙ or_last (w x) (list_any w xs) d
changed_by w p f d h x xs ys false e rest = ap (λ (b : Bool). w x || b) rest ∙ or_in (w x) (list_any w xs) (list_any p xs && d)

pub any_change : {A : Type 0} (w p : A → Bool) (f : A → A) (d : Bool) (h : (x : A) → p x ≡ true → w (f x) ≡ (w x || d)) (xs : List A)
    → list_any w (change p f xs) ≡ (list_any w xs || (list_any p xs && d))
any_change w p f d h [] = refl
any_change w p f d h (x ∷ xs) = changed_by w p f d h x xs (change p f xs) (p x) refl (any_change w p f d h xs)

kept_by : {A : Type 0} (w p : A → Bool) (f : A → A) (h : (x : A) → p x ≡ true → w (f x) ≡ w x) (x : A) (xs ys : List A) (c : Bool) → p x ≡ c
    → list_any w ys ≡ list_any w xs → list_any w (cond c (f x ∷ xs) (x ∷ ys)) ≡ (w x || list_any w xs)
kept_by w p f h x xs ys true e rest = ap (λ (b : Bool). b || list_any w xs) (h x e)
kept_by w p f h x xs ys false e rest = ap (λ (b : Bool). w x || b) rest

pub any_same : {A : Type 0} (w p : A → Bool) (f : A → A) (h : (x : A) → p x ≡ true → w (f x) ≡ w x) (xs : List A) → list_any w (change p f xs) ≡ list_any w xs
any_same w p f h [] = refl
any_same w p f h (x ∷ xs) = kept_by w p f h x xs (change p f xs) (p x) refl (any_same w p f h xs)

-- one member leaves

left_by : {A : Type 0} (w p : A → Bool) (h : (x : A) → p x ≡ true → w x ≡ false) (x : A) (xs ys : List A) (c : Bool) → p x ≡ c → list_any w ys ≡ list_any w xs
    → list_any w (cond c xs (x ∷ ys)) ≡ (w x || list_any w xs)
left_by w p h x xs ys true e rest = rw (h x e) refl
left_by w p h x xs ys false e rest = ap (λ (b : Bool). w x || b) rest

pub any_without : {A : Type 0} (w p : A → Bool) (h : (x : A) → p x ≡ true → w x ≡ false) (xs : List A) → list_any w (without p xs) ≡ list_any w xs
any_without w p h [] = refl
any_without w p h (x ∷ xs) = left_by w p h x xs (without p xs) (p x) refl (any_without w p h xs)

-- counts: what passes less often by one

less_by : {A : Type 0} (q p : A → Bool) (f : A → A) (h : (x : A) → p x ≡ true → (q x ≡ true) × (q (f x) ≡ false)) (x : A) (xs ys : List A) (c : Bool) → p x ≡ c → (c || list_any p xs) ≡ true
    → (list_any p xs ≡ true → count q ys + 1 ≡ count q xs) → count q (cond c (f x ∷ xs) (x ∷ ys)) + 1 ≡ cond (q x) 1 0 + count q xs
less_by q p f h x xs ys true e any rest = let both = h x e in rw (both.0, both.1) (omega arith)
less_by q p f h x xs ys false e any rest = let fewer : count q ys + 1 ≡ count q xs = rest any in omega arith

pub count_changed_away : {A : Type 0} (q p : A → Bool) (f : A → A) (h : (x : A) → p x ≡ true → (q x ≡ true) × (q (f x) ≡ false)) (xs : List A) → list_any p xs ≡ true
    → count q (change p f xs) + 1 ≡ count q xs
count_changed_away q p f h [] any = absurd (cc any)
count_changed_away q p f h (x ∷ xs) any = less_by q p f h x xs (change p f xs) (p x) refl any (count_changed_away q p f h xs)

gone_by : {A : Type 0} (q p : A → Bool) (h : (x : A) → p x ≡ true → q x ≡ true) (x : A) (xs ys : List A) (c : Bool) → p x ≡ c → (c || list_any p xs) ≡ true
    → (list_any p xs ≡ true → count q ys + 1 ≡ count q xs) → count q (cond c xs (x ∷ ys)) + 1 ≡ cond (q x) 1 0 + count q xs
gone_by q p h x xs ys true e any rest = rw (h x e) (omega arith)
gone_by q p h x xs ys false e any rest = let fewer : count q ys + 1 ≡ count q xs = rest any in omega arith

pub count_gone : {A : Type 0} (q p : A → Bool) (h : (x : A) → p x ≡ true → q x ≡ true) (xs : List A) → list_any p xs ≡ true → count q (without p xs) + 1 ≡ count q xs
count_gone q p h [] any = absurd (cc any)
count_gone q p h (x ∷ xs) any = gone_by q p h x xs (without p xs) (p x) refl any (count_gone q p h xs)

-- where none passes r, and p and q tell the same of what doesn't

both_false : (a b : Bool) → (a || b) ≡ false → (a ≡ false) × (b ≡ false)
both_false true b e = absurd (cc e)
both_false false b e = (refl, e)

pub any_agrees : {A : Type 0} (p q r : A → Bool) (h : (x : A) → r x ≡ false → p x ≡ q x) (xs : List A) → list_any r xs ≡ false → list_any p xs ≡ list_any q xs
any_agrees p q r h [] none = refl
any_agrees p q r h (x ∷ xs) none =
    let both = both_false (r x) (list_any r xs) none in
    ap (λ (b : Bool). b || list_any p xs) (h x both.0) ∙ ap (λ (b : Bool). q x || b) (any_agrees p q r h xs both.1)

pub without_agrees : {A : Type 0} (p q r : A → Bool) (h : (x : A) → r x ≡ false → p x ≡ q x) (xs : List A) → list_any r xs ≡ false → without p xs ≡ without q xs
without_agrees p q r h [] none = refl
without_agrees p q r h (x ∷ xs) none =
    let both = both_false (r x) (list_any r xs) none in
    ap (λ (b : Bool). cond b xs (x ∷ without p xs)) (h x both.0) ∙ ap (λ (ys : List _). cond (q x) xs (x ∷ ys)) (without_agrees p q r h xs both.1)

-- what is found passes another test

found_by : {A : Type 0} (q r : A → Bool) (x y : A) (xs : List A) (c : Bool) → q x ≡ c → (q y ≡ true → r y ≡ true) → cond c (Some x) (find q xs) ≡ Some y → (find q xs ≡ Some y → list_any r xs ≡ true) → (r x || list_any r xs) ≡ true
found_by q r x y xs true e h is rest = let same : x ≡ y = cc is in rw (same, h (rw same at e)) refl
found_by q r x y xs false e h is rest = rw (rest is) (or_true (r x))
  where
    or_true : (b : Bool) → (b || true) ≡ true
    or_true true = refl
    or_true false = refl

pub found_any : {A : Type 0} (q r : A → Bool) (y : A) (xs : List A) → (q y ≡ true → r y ≡ true) → find q xs ≡ Some y → list_any r xs ≡ true
found_any q r y [] h is = absurd (cc is)
found_any q r y (x ∷ xs) h is = found_by q r x y xs (q x) refl h is (found_any q r y xs h)

-- what is found after a change, where nothing was

new_by : {A B : Type 0} (q p : A → Bool) (f : A → A) (g : A → B) (y : B) (h : (x : A) → p x ≡ true → (q (f x) ≡ true) × (g (f x) ≡ y)) (x : A) (xs ys : List A) (c d : Bool) → p x ≡ c → q x ≡ d
    → cond d (Some x) (find q xs) ≡ None → (c || list_any p xs) ≡ true → (find q xs ≡ None → list_any p xs ≡ true → (z : A) × (find q ys ≡ Some z) × (g z ≡ y))
    → (z : A) × (find q (cond c (f x ∷ xs) (x ∷ ys)) ≡ Some z) × (g z ≡ y)
new_by q p f g y h x xs ys c true e is none any rest = absurd (cc none)
new_by q p f g y h x xs ys true false e is none any rest = let both = h x e in (f x, rw both.0 refl, both.1)
new_by q p f g y h x xs ys false false e is none any rest = let more = rest none any in (more.0, rw is more.1, more.2)

pub newly_found : {A B : Type 0} (q p : A → Bool) (f : A → A) (g : A → B) (y : B) (h : (x : A) → p x ≡ true → (q (f x) ≡ true) × (g (f x) ≡ y)) (xs : List A) → find q xs ≡ None → list_any p xs ≡ true
    → (z : A) × (find q (change p f xs) ≡ Some z) × (g z ≡ y)
newly_found q p f g y h [] none any = absurd (cc any)
newly_found q p f g y h (x ∷ xs) none any = new_by q p f g y h x xs (change p f xs) (p x) (q x) refl refl none any (newly_found q p f g y h xs)

-- what a filter leaves

filtered_by : {A : Type 0} (w : A → Bool) (x : A) (xs ys : List A) (c : Bool) → (w x ≡ true → c ≡ true) → list_any w ys ≡ list_any w xs → list_any w (cond c (x ∷ ys) ys) ≡ (w x || list_any w xs)
filtered_by w x xs ys true h rest = ap (λ (b : Bool). w x || b) rest
filtered_by w x xs ys false h rest = out (w x) h
  where
    out : (b : Bool) → (b ≡ true → false ≡ true) → list_any w ys ≡ (b || list_any w xs)
    out true h = absurd (cc (h refl))
    out false h = rest

pub any_filter : {A : Type 0} (w k : A → Bool) (h : (x : A) → w x ≡ true → k x ≡ true) (xs : List A) → list_any w (filter k xs) ≡ list_any w xs
any_filter w k h [] = refl
any_filter w k h (x ∷ xs) = filtered_by w x xs (filter k xs) (k x) (h x) (any_filter w k h xs)

found_left_by : {A : Type 0} (q : A → Bool) (x : A) (xs ys : List A) (c : Bool) → (q x ≡ true → c ≡ true) → find q ys ≡ find q xs → find q (cond c (x ∷ ys) ys) ≡ cond (q x) (Some x) (find q xs)
found_left_by q x xs ys true h rest = ap (λ (o : Option _). cond (q x) (Some x) o) rest
found_left_by q x xs ys false h rest = out (q x) h
  where
    out : (b : Bool) → (b ≡ true → false ≡ true) → find q ys ≡ cond b (Some x) (find q xs)
    out true h = absurd (cc (h refl))
    out false h = rest

pub find_filter : {A : Type 0} (q k : A → Bool) (h : (x : A) → q x ≡ true → k x ≡ true) (xs : List A) → find q (filter k xs) ≡ find q xs
find_filter q k h [] = refl
find_filter q k h (x ∷ xs) = found_left_by q x xs (filter k xs) (k x) (h x) (find_filter q k h xs)
