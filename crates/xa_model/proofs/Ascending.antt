-- What branches come to, the least timestamp first, where the branches stand the greatest first: what one of them comes to is
-- found there.
use Rattle.std.proofs.Common.{◌≡◌, ℕ, ◌+◌, ◌<◌, ◌≤◌, Bool, true, false, cond, List, [], ◌∷◌, ◌++◌, Option, Some, None, refl, ap, subst, sym, ◌∙◌, arith}
use Rattle.std.specs.Prelude.{reverse, find, nat_lt}
use Rattle.std.specs.List.{AllByRecursion, filter_map, cons_option}
use Rattle.std.proofs.lemmas.Bool.Decides.{nat_tests}
use Rattle.std.proofs.lemmas.List.{reverse-append}
use Rattle.std.proofs.lemmas.List.Folds.{find-append}
use Rattle.xa_model.specs.State.{Branch, count}
use Rattle.xa_model.specs.Invariants.Sound.{Descends}
use Rattle.xa_model.specs.Durable.{Pairwise}
use Rattle.xa_model.proofs.Inserts.{all_imply}

abbrev pub parts : {A : Type 0} → (Branch → Option A) → List Branch → List A
parts h bs = reverse (filter_map h bs)

-- lists with one more member, or none

abbrev pub add : {A : Type 0} → Option A → List A → List A
add None xs = xs
add (Some x) xs = xs ++ x ∷ []

reversed : {A : Type 0} (o : Option A) (xs : List A) → reverse (cons_option o xs) ≡ add o (reverse xs)
reversed None xs = refl
reversed (Some x) xs = reverse-append (x ∷ []) xs

pub parts-cons : {A : Type 0} (h : Branch → Option A) (b : Branch) (bs : List Branch) → parts h (b ∷ bs) ≡ add (h b) (parts h bs)
parts-cons h b bs = reversed (h b) (filter_map h bs)

all_last : {A : Type 0} (P : A → Type 0) (xs : List A) (y : A) → AllByRecursion P xs → P y → AllByRecursion P (xs ++ y ∷ [])
all_last P [] y h k = (k, tt)
all_last P (x ∷ xs) y h k = (h.0, all_last P xs y h.1 k)

pub all_add : {A : Type 0} (P : A → Type 0) (o : Option A) (xs : List A) → ((x : A) → o ≡ Some x → P x) → AllByRecursion P xs → AllByRecursion P (add o xs)
all_add P None xs f h = h
all_add P (Some x) xs f h = all_last P xs x h (f x refl)

pairwise_last : {A : Type 0} (test : A → A → Bool) (xs : List A) (y : A) → Pairwise test xs → AllByRecursion (λ x. test x y ≡ true) xs → Pairwise test (xs ++ y ∷ [])
pairwise_last test [] y h k = (tt, tt)
pairwise_last test (x ∷ xs) y h k = (all_last (λ z. test x z ≡ true) xs y h.0 k.0, pairwise_last test xs y h.1 k.1)

pub pairwise_add : {A : Type 0} (test : A → A → Bool) (o : Option A) (xs : List A) → Pairwise test xs → ((x : A) → o ≡ Some x → AllByRecursion (λ y. test y x ≡ true) xs) → Pairwise test (add o xs)
pairwise_add test None xs h f = h
pairwise_add test (Some x) xs h f = pairwise_last test xs x h (f x refl)

find_last : {A : Type 0} (q : A → Bool) (ys : List A) (x : A) → AllByRecursion (λ y. q y ≡ false) ys → q x ≡ true → find q (ys ++ x ∷ []) ≡ Some x
find_last q [] x h e = rw e refl
find_last q (y ∷ ys) x h e = let rest : find q (ys ++ x ∷ []) ≡ Some x = find_last q ys x h.1 e in rw (h.0, rest) refl

find_add : {A : Type 0} (q : A → Bool) (o : Option A) (ys : List A) (x : A) → find q ys ≡ Some x → find q (add o ys) ≡ Some x
find_add q None ys x e = e
find_add q (Some y) ys x e = find-append q ys (y ∷ []) ∙ rw e refl

-- timestamps

pub record IsTimed {A : Type 0} (h : Branch → Option A) (time : A → ℕ) : Type 0 where
  pub timed : (b : Branch) (x : A) → h b ≡ Some x → time x ≡ b.timestamp

pub below_all : (limit : ℕ) (bs : List Branch) → Descends limit bs → AllByRecursion (λ b. b.timestamp < limit) bs
below_all limit [] d = tt
below_all limit (b ∷ bs) d = (d.1, all_imply (λ c. c.timestamp < b.timestamp) (λ c. c.timestamp < limit) (λ c less. omega (arith, less, d.1)) bs (below_all b.timestamp bs d.2))

pub parts_below : {A : Type 0} (h : Branch → Option A) (time : A → ℕ) → IsTimed h time → (limit : ℕ) (bs : List Branch) → Descends limit bs → AllByRecursion (λ x. time x < limit) (parts h bs)
parts_below h time t limit [] d = tt
parts_below h time t limit (b ∷ bs) d =
    subst (AllByRecursion (λ x. time x < limit)) (sym (parts-cons h b bs))
    (all_add (λ x. time x < limit) (h b) (parts h bs) (λ x e. omega (arith, t.timed b x e, d.1))
    (all_imply (λ x. time x < b.timestamp) (λ x. time x < limit) (λ x less. omega (arith, less, d.1)) (parts h bs) (parts_below h time t b.timestamp bs d.2)))

pub is_less : (m n : ℕ) → m < n → nat_lt m n ≡ true
is_less m n less = grind (arith, nat_tests)

all_before : {A : Type 0} (h : Branch → Option A) (time : A → ℕ) → IsTimed h time → (n : ℕ) (x : A) (bs : List Branch) → time x ≡ n → Descends n bs → AllByRecursion (λ y. nat_lt (time y) (time x) ≡ true) (parts h bs)
all_before h time t n x bs e d = all_imply (λ y. time y < n) (λ y. nat_lt (time y) (time x) ≡ true) (λ y less. is_less (time y) (time x) (omega (arith, less, e))) (parts h bs) (parts_below h time t n bs d)

pub parts_pairwise : {A : Type 0} (h : Branch → Option A) (time : A → ℕ) → IsTimed h time → (limit : ℕ) (bs : List Branch) → Descends limit bs → Pairwise (λ x y. nat_lt (time x) (time y)) (parts h bs)
parts_pairwise h time t limit [] d = tt
parts_pairwise h time t limit (b ∷ bs) d =
    subst (Pairwise (λ x y. nat_lt (time x) (time y))) (sym (parts-cons h b bs))
    (pairwise_add (λ x y. nat_lt (time x) (time y)) (h b) (parts h bs) (parts_pairwise h time t b.timestamp bs d.2)
    (λ x e. all_before h time t b.timestamp x bs (t.timed b x e) d.2))

-- none is where no branch passes

pub record IsNamed {A : Type 0} (h : Branch → Option A) (p : Branch → Bool) (q : A → Bool) : Type 0 where
  pub named : (b : Branch) (x : A) → h b ≡ Some x → q x ≡ p b

none_by : (p : Branch → Bool) (b : Branch) (bs : List Branch) (c : Bool) → cond c 1 0 + count p bs ≡ 0 → (c ≡ false) × (count p bs ≡ 0)
none_by p b bs true e = absurd (omega arith)
none_by p b bs false e = (refl, omega arith)

pub parts_none : {A : Type 0} (h : Branch → Option A) (p : Branch → Bool) (q : A → Bool) → IsNamed h p q → (bs : List Branch) → count p bs ≡ 0 → AllByRecursion (λ x. q x ≡ false) (parts h bs)
parts_none h p q n [] e = tt
parts_none h p q n (b ∷ bs) e =
    let both = none_by p b bs (p b) e in
    subst (AllByRecursion (λ x. q x ≡ false)) (sym (parts-cons h b bs)) (all_add (λ x. q x ≡ false) (h b) (parts h bs) (λ x k. n.named b x k ∙ both.0) (parts_none h p q n bs both.1))

pub one_by : (p : Branch → Bool) (bs : List Branch) (c : Bool) → cond c 1 0 + count p bs ≤ 1 → c ≡ true → count p bs ≡ 0
one_by p bs true e k = omega arith
one_by p bs false e k = absurd (cc k)

pub fewer_by : (p : Branch → Bool) (bs : List Branch) (c : Bool) → cond c 1 0 + count p bs ≤ 1 → count p bs ≤ 1
fewer_by p bs true e = omega arith
fewer_by p bs false e = omega arith

-- one is found

found_by : {A : Type 0} (h : Branch → Option A) (p : Branch → Bool) (q : A → Bool) (n : IsNamed h p q) (b : Branch) (x : A) (b0 : Branch) (rest : List Branch) (c : Bool) → p b0 ≡ c
    → h b ≡ Some x → count p (b0 ∷ rest) ≤ 1 → cond c (Some b0) (find p rest) ≡ Some b → (find p rest ≡ Some b → find q (parts h rest) ≡ Some x) → find q (add (h b0) (parts h rest)) ≡ Some x
found_by h p q n b x b0 rest true e some once found ih =
    let same : b0 ≡ b = cc found in
    let is : h b0 ≡ Some x = ap h same ∙ some in
    let none : AllByRecursion (λ y. q y ≡ false) (parts h rest) = parts_none h p q n rest (one_by p rest (p b0) once e) in
    ap (λ o. find q (add o (parts h rest))) is ∙ find_last q (parts h rest) x none (n.named b0 x is ∙ e)
found_by h p q n b x b0 rest false e some once found ih = find_add q (h b0) (parts h rest) x (ih found)

pub found_in : {A : Type 0} (h : Branch → Option A) (p : Branch → Bool) (q : A → Bool) (n : IsNamed h p q) (b : Branch) (x : A) (bs : List Branch)
    → h b ≡ Some x → count p bs ≤ 1 → find p bs ≡ Some b → find q (parts h bs) ≡ Some x
found_in h p q n b x [] some once found = absurd (cc found)
found_in h p q n b x (b0 ∷ rest) some once found =
    ap (find q) (parts-cons h b0 rest) ∙ found_by h p q n b x b0 rest (p b0) refl some once found (found_in h p q n b x rest some (fewer_by p rest (p b0) once))

-- where the branch that passes is nowhere, none passes
absent_by : {A : Type 0} (h : Branch → Option A) (p : Branch → Bool) (q : A → Bool) (n : IsNamed h p q) (b b0 : Branch) (rest : List Branch) (c : Bool) → p b0 ≡ c → h b ≡ None
    → count p (b0 ∷ rest) ≤ 1 → cond c (Some b0) (find p rest) ≡ Some b → (find p rest ≡ Some b → AllByRecursion (λ x. q x ≡ false) (parts h rest))
    → AllByRecursion (λ x. q x ≡ false) (add (h b0) (parts h rest))
absent_by h p q n b b0 rest true e none once found ih =
    let same : b0 ≡ b = cc found in
    let here : h b0 ≡ None = ap h same ∙ none in
    rw here (parts_none h p q n rest (one_by p rest (p b0) once e))
absent_by h p q n b b0 rest false e none once found ih = all_add (λ x. q x ≡ false) (h b0) (parts h rest) (λ x k. n.named b0 x k ∙ e) (ih found)

pub absent : {A : Type 0} (h : Branch → Option A) (p : Branch → Bool) (q : A → Bool) (n : IsNamed h p q) (b : Branch) (bs : List Branch)
    → h b ≡ None → count p bs ≤ 1 → find p bs ≡ Some b → AllByRecursion (λ x. q x ≡ false) (parts h bs)
absent h p q n b [] none once found = tt
absent h p q n b (b0 ∷ rest) none once found =
    subst (AllByRecursion (λ x. q x ≡ false)) (sym (parts-cons h b0 rest))
    (absent_by h p q n b b0 rest (p b0) refl none once found (absent h p q n b rest none (fewer_by p rest (p b0) once)))
