-- Lists around the first member that passes, and lists in the middle of which a member takes its place.
use Rattle.std.proofs.Common.{◌≡◌, ◌+◌, ◌≤◌, Bool, true, false, cond, List, [], ◌∷◌, ◌++◌, Option, Some, None, refl, ap, sym, ◌∙◌, subst, arith}
use Rattle.std.specs.Prelude.{find, filter_map, reverse}
use Rattle.std.specs.List.{AllByRecursion}
use Rattle.std.proofs.lemmas.List.{append_assoc, reverse-append}
use Rattle.std.proofs.lemmas.List.Elements.{filter_map-append}
use Rattle.xa_model.specs.State.{count, without, change}
use Rattle.xa_model.specs.Durable.{insert, Pairwise}

-- the first member that passes, with those before it and those after it
pub record IsSplit {A : Type 0} (p : A → Bool) (x : A) (xs : List A) : Type 0 where
  pub front : List A
  pub back : List A
  pub whole : xs ≡ front ++ x ∷ back
  pub left : without p xs ≡ front ++ back
  pub changed : (f : A → A) → change p f xs ≡ front ++ f x ∷ back
  pub counted : count p back + 1 ≤ count p xs
  pub first : AllByRecursion (λ y. p y ≡ false) front

split_by : {A : Type 0} (p : A → Bool) (x y : A) (ys : List A) (c : Bool) → p y ≡ c → cond c (Some y) (find p ys) ≡ Some x → (find p ys ≡ Some x → IsSplit p x ys) → IsSplit p x (y ∷ ys)
split_by p x y ys true e found rest =
    let same : y ≡ x = cc found in
    record {
      front = [];
      back = ys;
      whole = ap (λ z. z ∷ ys) same;
      left = rw e refl;
      changed = λ f. rw e (ap (λ z. f z ∷ ys) same);
      counted = rw e (omega arith);
      first = tt;
    }
split_by p x y ys false e found rest =
    let there = rest found in
    record {
      front = y ∷ there.front;
      back = there.back;
      whole = ap (λ zs. y ∷ zs) there.whole;
      left = rw e (ap (λ zs. y ∷ zs) there.left);
      changed = λ f. rw e (ap (λ zs. y ∷ zs) (there.changed f));
      counted = rw e (omega (arith, there.counted));
      first = (e, there.first);
    }

pub split : {A : Type 0} (p : A → Bool) (x : A) (xs : List A) → find p xs ≡ Some x → IsSplit p x xs
split p x [] found = absurd (cc found)
split p x (y ∷ ys) found = split_by p x y ys (p y) refl found (split p x ys)

uncounted_by : {A : Type 0} (p : A → Bool) (x : A) (xs : List A) (c : Bool) → p x ≡ c → cond c 1 0 + count p xs ≡ 0 → (count p xs ≡ 0 → AllByRecursion (λ y. p y ≡ false) xs)
    → AllByRecursion (λ y. p y ≡ false) (x ∷ xs)
uncounted_by p x xs true e zero rest = absurd (omega (arith, zero))
uncounted_by p x xs false e zero rest = let none : count p xs ≡ 0 = omega (arith, zero) in (e, rest none)

-- where none is counted, none passes
pub uncounted : {A : Type 0} (p : A → Bool) (xs : List A) → count p xs ≡ 0 → AllByRecursion (λ y. p y ≡ false) xs
uncounted p [] zero = tt
uncounted p (x ∷ xs) zero = uncounted_by p x xs (p x) refl zero (uncounted p xs)

-- what holds of all, of lists joined and turned around
pub all_append : {A : Type 0} (P : A → Type 0) (xs ys : List A) → AllByRecursion P xs → AllByRecursion P ys → AllByRecursion P (xs ++ ys)
all_append P [] ys h k = k
all_append P (x ∷ xs) ys h k = (h.0, all_append P xs ys h.1 k)

pub all_reverse : {A : Type 0} (P : A → Type 0) (xs : List A) → AllByRecursion P xs → AllByRecursion P (reverse xs)
all_reverse P [] h = tt
all_reverse P (x ∷ xs) h = subst (AllByRecursion P) (sym (reverse-append (x ∷ []) xs)) (all_append P (reverse xs) (x ∷ []) (all_reverse P xs h.1) (h.0, tt))

-- Parts: what is made of some members, the last first

abbrev pub parts : {A B : Type 0} → (A → Option B) → List A → List B
parts h xs = reverse (filter_map h xs)

made_by : {A B : Type 0} (h : A → Option B) (x : A) (xs : List A) (o : Option B) → h x ≡ o → filter_map h (x ∷ xs) ≡ filter_map h (x ∷ []) ++ filter_map h xs
made_by h x xs o e = filter_map-append h (x ∷ []) xs

one_some : {A B : Type 0} (h : A → Option B) (x : A) (y : B) → h x ≡ Some y → filter_map h (x ∷ []) ≡ y ∷ []
one_some h x y e = rw e refl

one_none : {A B : Type 0} (h : A → Option B) (x : A) → h x ≡ None → filter_map h (x ∷ []) ≡ []
one_none h x e = rw e refl

pub parts_append : {A B : Type 0} (h : A → Option B) (xs ys : List A) → parts h (xs ++ ys) ≡ parts h ys ++ parts h xs
parts_append h xs ys = ap reverse (filter_map-append h xs ys) ∙ reverse-append (filter_map h xs) (filter_map h ys)

pub parts_one : {A B : Type 0} (h : A → Option B) (x : A) (xs : List A) → parts h (x ∷ xs) ≡ parts h xs ++ parts h (x ∷ [])
parts_one h x xs = parts_append h (x ∷ []) xs

-- of whom nothing is made
pub parts_none : {A B : Type 0} (h : A → Option B) (front : List A) (x : A) (back : List A) → h x ≡ None → parts h (front ++ x ∷ back) ≡ parts h back ++ parts h front
parts_none h front x back e =
    parts_append h front (x ∷ back)
    ∙ ap (λ zs. zs ++ parts h front) (ap reverse (filter_map-append h (x ∷ []) back ∙ ap (λ zs. zs ++ filter_map h back) (one_none h x e)))

turned : {B : Type 0} (y : B) (zs : List B) → reverse (y ∷ zs) ≡ reverse zs ++ y ∷ []
turned y zs = reverse-append (y ∷ []) zs

-- of whom one is made
pub parts_some : {A B : Type 0} (h : A → Option B) (front : List A) (x : A) (back : List A) (y : B) → h x ≡ Some y → parts h (front ++ x ∷ back) ≡ parts h back ++ y ∷ parts h front
parts_some h front x back y e =
    parts_append h front (x ∷ back)
    ∙ ap (λ zs. zs ++ parts h front) (ap reverse (filter_map-append h (x ∷ []) back ∙ ap (λ zs. zs ++ filter_map h back) (one_some h x y e)) ∙ turned y (filter_map h back))
    ∙ append_assoc (parts h back) (y ∷ []) (parts h front)

made_all_by : {A B : Type 0} (P : A → Type 0) (Q : B → Type 0) (h : A → Option B) (f : (x : A) (y : B) → h x ≡ Some y → P x → Q y) (x : A) (xs : List A) (o : Option B) → h x ≡ o
    → P x → AllByRecursion Q (filter_map h xs) → AllByRecursion Q (filter_map h (x ∷ xs))
made_all_by P Q h f x xs None e here rest = rw e rest
made_all_by P Q h f x xs (Some y) e here rest = rw e (f x y e here, rest)

made_all : {A B : Type 0} (P : A → Type 0) (Q : B → Type 0) (h : A → Option B) (f : (x : A) (y : B) → h x ≡ Some y → P x → Q y) (xs : List A) → AllByRecursion P xs → AllByRecursion Q (filter_map h xs)
made_all P Q h f [] all = tt
made_all P Q h f (x ∷ xs) all = made_all_by P Q h f x xs (h x) refl all.0 (made_all P Q h f xs all.1)

pub parts_all : {A B : Type 0} (P : A → Type 0) (Q : B → Type 0) (h : A → Option B) (f : (x : A) (y : B) → h x ≡ Some y → P x → Q y) (xs : List A) → AllByRecursion P xs → AllByRecursion Q (parts h xs)
parts_all P Q h f xs all = all_reverse Q (filter_map h xs) (made_all P Q h f xs all)

-- A member takes its place between others

pub insert_front : {A : Type 0} (before : A → A → Bool) (y : A) (zs : List A) → AllByRecursion (λ z. before z y ≡ false) zs → insert before y zs ≡ y ∷ zs
insert_front before y [] h = refl
insert_front before y (z ∷ zs) h = rw h.0 refl

pub insert_between : {A : Type 0} (before : A → A → Bool) (y : A) (xs zs : List A) → AllByRecursion (λ x. before x y ≡ true) xs → AllByRecursion (λ z. before z y ≡ false) zs
    → insert before y (xs ++ zs) ≡ xs ++ y ∷ zs
insert_between before y [] zs h k = insert_front before y zs k
insert_between before y (x ∷ xs) zs h k = rw h.0 (ap (λ l. x ∷ l) (insert_between before y xs zs h.1 k))

-- the first member that passes, after others
pub find_mid : {A : Type 0} (p : A → Bool) (xs : List A) (y : A) (zs : List A) → AllByRecursion (λ x. p x ≡ false) xs → p y ≡ true → find p (xs ++ y ∷ zs) ≡ Some y
find_mid p [] y zs h e = rw e refl
find_mid p (x ∷ xs) y zs h e = rw h.0 (find_mid p xs y zs h.1 e)

pub without_mid : {A : Type 0} (p : A → Bool) (xs : List A) (y : A) (zs : List A) → AllByRecursion (λ x. p x ≡ false) xs → p y ≡ true → without p (xs ++ y ∷ zs) ≡ xs ++ zs
without_mid p [] y zs h e = rw e refl
without_mid p (x ∷ xs) y zs h e = rw h.0 (ap (λ l. x ∷ l) (without_mid p xs y zs h.1 e))

-- one more, after all
pub pairwise_last : {A : Type 0} (test : A → A → Bool) (xs : List A) (y : A) → Pairwise test xs → AllByRecursion (λ x. test x y ≡ true) xs → Pairwise test (xs ++ y ∷ [])
pairwise_last test [] y h k = (tt, tt)
pairwise_last test (x ∷ xs) y h k = (all_append (λ z. test x z ≡ true) xs (y ∷ []) h.0 (k.0, tt), pairwise_last test xs y h.1 k.1)
