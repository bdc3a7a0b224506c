-- Lists whose members pass with each one after them: members take their places, leave, or are found.
use Rattle.std.proofs.Common.{◌≡◌, ◌⊎◌, inl, inr, Bool, true, false, cond, List, [], ◌∷◌, ◌++◌, Some, refl, subst}
use Rattle.std.specs.Prelude.{find, filter}
use Rattle.std.specs.List.{AllByRecursion, list_any, list_all}
use Rattle.xa_model.specs.State.{without}
use Rattle.xa_model.specs.Durable.{insert, Pairwise}
use Rattle.xa_model.proofs.Lists.{without_all, found_all}

-- what holds of all

pub all_imply : {A : Type 0} (P Q : A → Type 0) → ((x : A) → P x → Q x) → (xs : List A) → AllByRecursion P xs → AllByRecursion Q xs
all_imply P Q f [] h = tt
all_imply P Q f (x ∷ xs) h = (f x h.0, all_imply P Q f xs h.1)

pub all_both : {A : Type 0} (P Q R : A → Type 0) → ((x : A) → P x → Q x → R x) → (xs : List A) → AllByRecursion P xs → AllByRecursion Q xs → AllByRecursion R xs
all_both P Q R f [] h k = tt
all_both P Q R f (x ∷ xs) h k = (f x h.0 k.0, all_both P Q R f xs h.1 k.1)

pub all_front : {A : Type 0} (P : A → Type 0) (xs ys : List A) → AllByRecursion P (xs ++ ys) → AllByRecursion P xs
all_front P [] ys h = tt
all_front P (x ∷ xs) ys h = (h.0, all_front P xs ys h.1)

pub all_back : {A : Type 0} (P : A → Type 0) (xs ys : List A) → AllByRecursion P (xs ++ ys) → AllByRecursion P ys
all_back P [] ys h = h
all_back P (x ∷ xs) ys h = all_back P xs ys h.1

pub all_pass : {A : Type 0} (p : A → Bool) (xs : List A) → AllByRecursion (λ x. p x ≡ true) xs → list_all p xs ≡ true
all_pass p [] h = refl
all_pass p (x ∷ xs) h = let rest : list_all p xs ≡ true = all_pass p xs h.1 in rw (h.0, rest) refl

pub none_passes : {A : Type 0} (p : A → Bool) (xs : List A) → AllByRecursion (λ x. p x ≡ false) xs → list_any p xs ≡ false
none_passes p [] h = refl
none_passes p (x ∷ xs) h = let rest : list_any p xs ≡ false = none_passes p xs h.1 in rw (h.0, rest) refl

kept_all_by : {A : Type 0} (P : A → Type 0) (x : A) (ys : List A) (c : Bool) → (c ≡ true → P x) → AllByRecursion P ys → AllByRecursion P (cond c (x ∷ ys) ys)
kept_all_by P x ys true f h = (f refl, h)
kept_all_by P x ys false f h = h

-- what passes a filter
pub all_filtered : {A : Type 0} (P : A → Type 0) (p : A → Bool) → ((x : A) → p x ≡ true → P x) → (xs : List A) → AllByRecursion P (filter p xs)
all_filtered P p f [] = tt
all_filtered P p f (x ∷ xs) = kept_all_by P x (filter p xs) (p x) (f x) (all_filtered P p f xs)

filter_keeps_by : {A : Type 0} (P : A → Type 0) (x : A) (xs ys : List A) (c : Bool) → P x → AllByRecursion P ys
    → AllByRecursion P (cond c (x ∷ ys) ys)
filter_keeps_by P x xs ys true h rest = (h, rest)
filter_keeps_by P x xs ys false h rest = rest

-- what holds of all holds of those that pass
pub filter_keeps : {A : Type 0} (P : A → Type 0) (p : A → Bool) (xs : List A) → AllByRecursion P xs → AllByRecursion P (filter p xs)
filter_keeps P p [] h = tt
filter_keeps P p (x ∷ xs) h = filter_keeps_by P x xs (filter p xs) (p x) h.0 (filter_keeps P p xs h.1)

-- where all pass, none is left out
pub filter_all : {A : Type 0} (p : A → Bool) (xs : List A) → AllByRecursion (λ x. p x ≡ true) xs → filter p xs ≡ xs
filter_all p [] h = refl
filter_all p (x ∷ xs) h = let rest : filter p xs ≡ xs = filter_all p xs h.1 in rw (h.0, rest) refl

-- a member takes its place

inserted_all_by : {A : Type 0} (P : A → Type 0) (x y : A) (ys zs : List A) (c : Bool) → P x → AllByRecursion P (y ∷ ys) → AllByRecursion P zs → AllByRecursion P (cond c (y ∷ zs) (x ∷ y ∷ ys))
inserted_all_by P x y ys zs true h all rest = (all.0, rest)
inserted_all_by P x y ys zs false h all rest = (h, all)

pub insert_all : {A : Type 0} (P : A → Type 0) (before : A → A → Bool) (x : A) (xs : List A) → P x → AllByRecursion P xs → AllByRecursion P (insert before x xs)
insert_all P before x [] h all = (h, tt)
insert_all P before x (y ∷ ys) h all = inserted_all_by P x y ys (insert before x ys) (before y x) h all (insert_all P before x ys h all.1)

pub record IsTransitive {A : Type 0} (before : A → A → Bool) : Type 0 where
  pub trans : (x y z : A) → before x y ≡ true → before y z ≡ true → before x z ≡ true

stands_first : {A : Type 0} (before : A → A → Bool) (x y : A) → before y x ≡ false → (before y x ≡ true) ⊎ (before x y ≡ true) → before x y ≡ true
stands_first before x y e (inl h) = absurd (cc (e, h))
stands_first before x y e (inr h) = h

inserted_by : {A : Type 0} (before : A → A → Bool) (t : IsTransitive before) (x y : A) (ys : List A) (c : Bool) → before y x ≡ c
    → (before y x ≡ true) ⊎ (before x y ≡ true) → Pairwise before (y ∷ ys) → Pairwise before (insert before x ys) → Pairwise before (cond c (y ∷ insert before x ys) (x ∷ y ∷ ys))
inserted_by before t x y ys true e apart h rest = (insert_all (λ z. before y z ≡ true) before x ys e h.0, rest)
inserted_by before t x y ys false e apart h rest =
    let here : before x y ≡ true = stands_first before x y e apart in
    ((here, all_imply (λ z. before y z ≡ true) (λ z. before x z ≡ true) (λ z after. t.trans x y z here after) ys h.0), h)

-- a list stays in order where one that is before or after each member takes its place
pub insert_pairwise : {A : Type 0} (before : A → A → Bool) (t : IsTransitive before) (x : A) (xs : List A) → AllByRecursion (λ y. (before y x ≡ true) ⊎ (before x y ≡ true)) xs
    → Pairwise before xs → Pairwise before (insert before x xs)
insert_pairwise before t x [] apart h = (tt, tt)
insert_pairwise before t x (y ∷ ys) apart h = inserted_by before t x y ys (before y x) refl apart.0 h (insert_pairwise before t x ys apart.1 h.1)

-- any test that the new one passes with each, both ways
placed_by : {A : Type 0} (test before : A → A → Bool) (x y : A) (ys : List A) (c : Bool) → (test y x ≡ true) × (test x y ≡ true) → AllByRecursion (λ z. test x z ≡ true) ys
    → Pairwise test (y ∷ ys) → Pairwise test (insert before x ys) → Pairwise test (cond c (y ∷ insert before x ys) (x ∷ y ∷ ys))
placed_by test before x y ys true both all h rest = (insert_all (λ z. test y z ≡ true) before x ys both.0 h.0, rest)
placed_by test before x y ys false both all h rest = ((both.1, all), h)

pub insert_anywhere : {A : Type 0} (test before : A → A → Bool) (x : A) (xs : List A) → AllByRecursion (λ y. (test y x ≡ true) × (test x y ≡ true)) xs → Pairwise test xs → Pairwise test (insert before x xs)
insert_anywhere test before x [] both h = (tt, tt)
insert_anywhere test before x (y ∷ ys) both h =
    placed_by test before x y ys (before y x) both.0 (all_imply (λ z. (test z x ≡ true) × (test x z ≡ true)) (λ z. test x z ≡ true) (λ z k. k.1) ys both.1) h (insert_anywhere test before x ys both.1 h.1)

-- one that all others are before stands last
pub insert_last : {A : Type 0} (before : A → A → Bool) (x : A) (xs : List A) → AllByRecursion (λ y. before y x ≡ true) xs → insert before x xs ≡ xs ++ x ∷ []
insert_last before x [] h = refl
insert_last before x (y ∷ ys) h = let rest : insert before x ys ≡ ys ++ x ∷ [] = insert_last before x ys h.1 in rw (h.0, rest) refl

-- a member of a list in order, with those before it and those after it
pub pairwise_before : {A : Type 0} (test : A → A → Bool) (xs : List A) (y : A) (ys : List A) → Pairwise test (xs ++ y ∷ ys) → AllByRecursion (λ x. test x y ≡ true) xs
pairwise_before test [] y ys h = tt
pairwise_before test (x ∷ xs) y ys h = ((all_back (λ z. test x z ≡ true) xs (y ∷ ys) h.0).0, pairwise_before test xs y ys h.1)

pub pairwise_behind : {A : Type 0} (test : A → A → Bool) (xs : List A) (y : A) (ys : List A) → Pairwise test (xs ++ y ∷ ys) → AllByRecursion (λ z. test y z ≡ true) ys
pairwise_behind test [] y ys h = h.0
pairwise_behind test (x ∷ xs) y ys h = pairwise_behind test xs y ys h.1

-- a member leaves

left_pairwise_by : {A : Type 0} (test : A → A → Bool) (x : A) (xs ys : List A) (c : Bool) → Pairwise test (x ∷ xs) → AllByRecursion (λ z. test x z ≡ true) ys → Pairwise test ys
    → Pairwise test (cond c xs (x ∷ ys))
left_pairwise_by test x xs ys true h all rest = h.1
left_pairwise_by test x xs ys false h all rest = (all, rest)

pub without_pairwise : {A : Type 0} (test : A → A → Bool) (p : A → Bool) (xs : List A) → Pairwise test xs → Pairwise test (without p xs)
without_pairwise test p [] h = tt
without_pairwise test p (x ∷ xs) h = left_pairwise_by test x xs (without p xs) (p x) h (without_all (λ z. test x z ≡ true) p xs h.0) (without_pairwise test p xs h.1)

other_by : {A : Type 0} (P : A → A → Type 0) (p : A → Bool) (x y : A) (ys : List A) (c : Bool) → p y ≡ c → AllByRecursion (λ z. P y z × P z y) ys
    → (find p ys ≡ Some x → AllByRecursion (λ z. P x z) (without p ys)) → cond c (Some y) (find p ys) ≡ Some x → AllByRecursion (λ z. P x z) (cond c ys (y ∷ without p ys))
other_by P p x y ys true e all rest found =
    let same : y ≡ x = cc found in subst (λ w. AllByRecursion (λ z. P w z) ys) same (all_imply (λ z. P y z × P z y) (λ z. P y z) (λ z k. k.0) ys all)
other_by P p x y ys false e all rest found = ((found_all (λ z. P y z × P z y) p x ys all found).1, rest found)

-- each member with each one after it, both ways
abbrev pub BothWays : {A : Type 0} → (A → A → Type 0) → List A → Type 0
BothWays P [] = Unit {0}
BothWays P (x ∷ xs) = AllByRecursion (λ z. P x z × P z x) xs × BothWays P xs

-- what holds of a member that is found, with each of the others
pub found_others : {A : Type 0} (P : A → A → Type 0) (p : A → Bool) (x : A) (xs : List A) → BothWays P xs → find p xs ≡ Some x → AllByRecursion (λ z. P x z) (without p xs)
found_others P p x [] h found = tt
found_others P p x (y ∷ ys) h found = other_by P p x y ys (p y) refl h.0 (found_others P p x ys h.1) found

pub both_ways : {A : Type 0} (P : A → A → Type 0) (test : A → A → Bool) → ((x y : A) → test x y ≡ true → P x y × P y x) → (xs : List A) → Pairwise test xs → BothWays P xs
both_ways P test f [] h = tt
both_ways P test f (x ∷ xs) h = (all_imply (λ z. test x z ≡ true) (λ z. P x z × P z x) (f x) xs h.0, both_ways P test f xs h.1)
