-- Two lists of known branches, each in the order of XIDs, as one.
use Rattle.std.proofs.Common.{◌≡◌, inl, inr, ℕ, zero, suc, ◌+◌, ◌-◌, ◌≤◌, Bool, true, false, ◌||◌, cond, Option, Some, None, List, [], ◌∷◌, ◌++◌, refl, ap, sym, ◌∙◌, append_assoc, append-nil, arith}
use Rattle.std.specs.Prelude.{take}
use Rattle.std.specs.Option.{option_to_list}
use Rattle.std.specs.List.{list_any, AllByRecursion}
use Rattle.std.specs.Ordering.{is_lt, ordering_reverse}
use Rattle.std.specs.declared.cmp.Ordering.{Ordering}
use Rattle.std.specs.declared.cmp.Ordering.TheVariants.{Less, Equal, Greater}
use Rattle.xa_frame.specs.declared.known_branch.KnownBranch.{KnownBranch}
use Rattle.xa_xid.specs.Triple.{xid_eq, xid_cmp}
use Rattle.xa_xid.proofs.Same.{xid_eq_same, xid_cmp_same, xid_cmp_total}
use Rattle.xa_model.specs.Durable.{Pairwise}
use Rattle.xa_model.proofs.InOrder.{below_transitive}
use Rattle.xa_model.proofs.Inserts.{all_imply}
use Rattle.xa_model.proofs.Members.{Member}
use Rattle.xa_branch.specs.Told.{comes_first, first_of_two}

abbrev merge_at : KnownBranch → List KnownBranch → (List KnownBranch → List KnownBranch) → List KnownBranch → List KnownBranch
merge_at x xs after [] = x ∷ xs
merge_at x xs after (y ∷ ys) = cond (comes_first x y) (x ∷ after (y ∷ ys)) (y ∷ merge_at x xs after ys)

-- of the two first ones the first by XID
abbrev pub merge : List KnownBranch → List KnownBranch → List KnownBranch
merge [] = λ ys. ys
merge (x ∷ xs) = merge_at x xs (merge xs)

-- ---- one after another

merge-nil : (xs : List KnownBranch) → merge xs [] ≡ xs
merge-nil [] = refl
merge-nil (x ∷ xs) = refl

abbrev rest_of : Option KnownBranch × (Option KnownBranch × Option KnownBranch) → List KnownBranch → List KnownBranch → List KnownBranch
rest_of t xs ys = option_to_list t.0 ++ merge (option_to_list t.1.0 ++ xs) (option_to_list t.1.1 ++ ys)

first_by : (b : Bool) (x y : KnownBranch) (xs ys : List KnownBranch)
    → cond b (x ∷ merge xs (y ∷ ys)) (y ∷ merge_at x xs (merge xs) ys) ≡ rest_of (cond b (Some x, (None, Some y)) (Some y, (Some x, None))) xs ys
first_by true x y xs ys = refl
first_by false x y xs ys = refl

merge_first : (one other : Option KnownBranch) (xs ys : List KnownBranch) → (one ≡ None → xs ≡ []) → (other ≡ None → ys ≡ [])
    → merge (option_to_list one ++ xs) (option_to_list other ++ ys) ≡ rest_of (first_of_two one other) xs ys
merge_first None None xs ys h k = refl
merge_first None (Some y) xs ys h k = let none : xs ≡ [] = h refl in rw none refl
merge_first (Some x) None xs ys h k = let none : ys ≡ [] = k refl in rw none (ap (λ (zs : List KnownBranch). x ∷ zs) (sym (merge-nil xs)))
merge_first (Some x) (Some y) xs ys h k = first_by (comes_first x y) x y xs ys

-- what is there is taken, and what is left of both follows it
pub record Takes (one other : Option KnownBranch) (xs ys : List KnownBranch) (first one' other' : Option KnownBranch) : Type 0 where
  pub end_one : one ≡ None → xs ≡ []
  pub end_other : other ≡ None → ys ≡ []
  pub taken : first_of_two one other ≡ (first, (one', other'))

pub merged_more : (one other one' other' : Option KnownBranch) (xs ys done more : List KnownBranch) (first : KnownBranch) (n k : ℕ) → Takes one other xs ys (Some first) one' other' → more ≡ done ++ first ∷ []
    → k + 1 ≡ n → more ++ take k (merge (option_to_list one' ++ xs) (option_to_list other' ++ ys)) ≡ done ++ take n (merge (option_to_list one ++ xs) (option_to_list other ++ ys))
merged_more one other one' other' xs ys done more first n k t is next =
    let rest = merge (option_to_list one' ++ xs) (option_to_list other' ++ ys) in
    let whole : merge (option_to_list one ++ xs) (option_to_list other ++ ys) ≡ first ∷ rest = merge_first one other xs ys t.end_one t.end_other ∙ ap (λ x. rest_of x xs ys) t.taken in
    let n_is : n ≡ suc k = omega arith in
    rw (whole, n_is, is) (append_assoc done (first ∷ []) (take k rest))

abbrev Three : Type 0
Three = Option KnownBranch × (Option KnownBranch × Option KnownBranch)

some_first : (b : Bool) (x y : KnownBranch) (one' other' : Option KnownBranch) → ◌≡◌ {A = Three} (cond b (Some x, (None, Some y)) (Some y, (Some x, None))) (None, (one', other')) → ⊥
some_first true x y one' other' e = let no : Some x ≡ None = ap (λ (t : Three). t.0) e in cc no
some_first false x y one' other' e = let no : Some y ≡ None = ap (λ (t : Three). t.0) e in cc no

nothing_left : (one other one' other' : Option KnownBranch) (xs ys : List KnownBranch) → Takes one other xs ys None one' other' → merge (option_to_list one ++ xs) (option_to_list other ++ ys) ≡ []
nothing_left None None one' other' xs ys t = let none_one : xs ≡ [] = t.end_one refl in let none_other : ys ≡ [] = t.end_other refl in rw (none_one, none_other) refl
nothing_left None (Some y) one' other' xs ys t = absurd (let no : Some y ≡ None = ap (λ (u : Three). u.0) t.taken in cc no)
nothing_left (Some x) None one' other' xs ys t = absurd (let no : Some x ≡ None = ap (λ (u : Three). u.0) t.taken in cc no)
nothing_left (Some x) (Some y) one' other' xs ys t = absurd (some_first (comes_first x y) x y one' other' t.taken)

pub merged_all : (one other one' other' : Option KnownBranch) (xs ys done total : List KnownBranch) (n : ℕ) → Takes one other xs ys None one' other'
    → done ++ take n (merge (option_to_list one ++ xs) (option_to_list other ++ ys)) ≡ total → done ≡ total
merged_all one other one' other' xs ys done total n t so_far =
    let none = nothing_left one other one' other' xs ys t in
    sym (append-none done n (merge (option_to_list one ++ xs) (option_to_list other ++ ys)) none) ∙ so_far
  where
    append-none : (done : List KnownBranch) (n : ℕ) (rest : List KnownBranch) → rest ≡ [] → done ++ take n rest ≡ done
    append-none done zero rest e = append-nil done
    append-none done (suc n) rest e = rw e (append-nil done)

pub merged_enough : (count counter : ℕ) (done rest total : List KnownBranch) → count ≤ counter → done ++ take (count - counter) rest ≡ total → done ≡ total
merged_enough count counter done rest total le so_far =
    let none : count - counter ≡ 0 = omega arith in
    sym (append-nil done) ∙ (ap (λ (n : ℕ). done ++ take n rest) (sym none) ∙ so_far)

-- ---- what holds of the members

or_false : (a : Bool) → a ≡ (a || false)
or_false true = refl
or_false false = refl

grouped : (a b c : Bool) → (a || (b || c)) ≡ ((a || b) || c)
grouped true b c = refl
grouped false b c = refl

moved : (a b c : Bool) → (b || (a || c)) ≡ (a || (b || c))
moved true true c = refl
moved true false c = refl
moved false b c = refl

any_by : (p : KnownBranch → Bool) (x y : KnownBranch) (xs ys later rest : List KnownBranch) (c : Bool) → list_any p later ≡ (list_any p xs || list_any p (y ∷ ys)) → list_any p rest ≡ ((p x || list_any p xs) || list_any p ys)
    → list_any p (cond c (x ∷ later) (y ∷ rest)) ≡ ((p x || list_any p xs) || (p y || list_any p ys))
any_by p x y xs ys later rest true h k = ap (λ b. p x || b) h ∙ grouped (p x) (list_any p xs) (p y || list_any p ys)
any_by p x y xs ys later rest false h k = ap (λ b. p y || b) k ∙ moved (p x || list_any p xs) (p y) (list_any p ys)

any_at : (p : KnownBranch → Bool) (x : KnownBranch) (xs : List KnownBranch) (after : List KnownBranch → List KnownBranch) → ((ys : List KnownBranch) → list_any p (after ys) ≡ (list_any p xs || list_any p ys))
    → (ys : List KnownBranch) → list_any p (merge_at x xs after ys) ≡ ((p x || list_any p xs) || list_any p ys)
any_at p x xs after h [] = or_false (p x || list_any p xs)
any_at p x xs after h (y ∷ ys) = any_by p x y xs ys (after (y ∷ ys)) (merge_at x xs after ys) (comes_first x y) (h (y ∷ ys)) (any_at p x xs after h ys)

pub any_merge : (p : KnownBranch → Bool) (xs ys : List KnownBranch) → list_any p (merge xs ys) ≡ (list_any p xs || list_any p ys)
any_merge p [] ys = refl
any_merge p (x ∷ xs) ys = any_at p x xs (merge xs) (any_merge p xs) ys

all_by : (P : KnownBranch → Type 0) (x y : KnownBranch) (later rest : List KnownBranch) (c : Bool) → P x → P y → AllByRecursion P later → AllByRecursion P rest → AllByRecursion P (cond c (x ∷ later) (y ∷ rest))
all_by P x y later rest true p q h k = (p, h)
all_by P x y later rest false p q h k = (q, k)

all_at : (P : KnownBranch → Type 0) (x : KnownBranch) (xs : List KnownBranch) (after : List KnownBranch → List KnownBranch) → P x → AllByRecursion P xs
    → ((ys : List KnownBranch) → AllByRecursion P ys → AllByRecursion P (after ys)) → (ys : List KnownBranch) → AllByRecursion P ys → AllByRecursion P (merge_at x xs after ys)
all_at P x xs after p h later [] k = (p, h)
all_at P x xs after p h later (y ∷ ys) k = all_by P x y (after (y ∷ ys)) (merge_at x xs after ys) (comes_first x y) p k.0 (later (y ∷ ys) k) (all_at P x xs after p h later ys k.1)

pub all_merge : (P : KnownBranch → Type 0) (xs ys : List KnownBranch) → AllByRecursion P xs → AllByRecursion P ys → AllByRecursion P (merge xs ys)
all_merge P [] ys h k = k
all_merge P (x ∷ xs) ys h k = all_at P x xs (merge xs) h.0 h.1 (λ zs l. all_merge P xs zs h.1 l) ys k

-- ---- order

follows : (x y z : KnownBranch) → comes_first x y ≡ true → comes_first y z ≡ true → comes_first x z ≡ true
follows x y z e f = below_transitive.trans x.xid y.xid z.xid e f

-- of two with different XIDs one comes first
other_way : (x y : KnownBranch) (o : Ordering) → xid_cmp x.xid y.xid ≡ o → xid_eq x.xid y.xid ≡ false → is_lt o ≡ false → comes_first y x ≡ true
other_way x y Less e apart f = absurd (cc f)
other_way x y Equal e apart f = absurd (cc (xid_eq_same x.xid y.xid (xid_cmp_same x.xid y.xid e), apart))
other_way x y Greater e apart f = let less : xid_cmp y.xid x.xid ≡ Less = xid_cmp_total.antisymm y.xid x.xid ∙ ap ordering_reverse e in ap is_lt less

-- no XID is in both
abbrev pub AreApart : List KnownBranch → List KnownBranch → Type 0
AreApart xs ys = (x y : KnownBranch) → Member x xs → Member y ys → xid_eq x.xid y.xid ≡ false

ordered_by : (x y : KnownBranch) (xs ys rest : List KnownBranch) (c : Bool) → comes_first x y ≡ c → xid_eq x.xid y.xid ≡ false
    → AllByRecursion (λ z. comes_first x z ≡ true) xs → AllByRecursion (λ z. comes_first y z ≡ true) ys
    → Pairwise comes_first (merge xs (y ∷ ys)) → Pairwise comes_first rest → (AllByRecursion (λ z. comes_first y z ≡ true) (x ∷ xs) → AllByRecursion (λ z. comes_first y z ≡ true) rest)
    → Pairwise comes_first (cond c (x ∷ merge xs (y ∷ ys)) (y ∷ rest))
ordered_by x y xs ys rest true e apart a b h k all =
    (all_merge (λ z. comes_first x z ≡ true) xs (y ∷ ys) a (e, all_imply (λ z. comes_first y z ≡ true) (λ z. comes_first x z ≡ true) (λ z f. follows x y z e f) ys b), h)
ordered_by x y xs ys rest false e apart a b h k all =
    let first : comes_first y x ≡ true = other_way x y (xid_cmp x.xid y.xid) refl apart e in
    (all (first, all_imply (λ z. comes_first x z ≡ true) (λ z. comes_first y z ≡ true) (λ z f. follows y x z first f) xs a), k)

ordered_at : (x : KnownBranch) (xs : List KnownBranch) → AllByRecursion (λ z. comes_first x z ≡ true) xs → Pairwise comes_first xs
    → ((ys : List KnownBranch) → Pairwise comes_first ys → AreApart xs ys → Pairwise comes_first (merge xs ys))
    → (ys : List KnownBranch) → Pairwise comes_first ys → AreApart (x ∷ xs) ys → Pairwise comes_first (merge_at x xs (merge xs) ys)
ordered_at x xs a h later [] k apart = (a, h)
ordered_at x xs a h later (y ∷ ys) k apart =
    ordered_by x y xs ys (merge_at x xs (merge xs) ys) (comes_first x y) refl (apart x y (inl refl) (inl refl)) a k.0
    (later (y ∷ ys) k (λ u v m n. apart u v (inr m) n)) (ordered_at x xs a h later ys k.1 (λ u v m n. apart u v m (inr n)))
    (λ all. all_merge (λ z. comes_first y z ≡ true) (x ∷ xs) ys all k.0)

pub ordered_merge : (xs ys : List KnownBranch) → Pairwise comes_first xs → Pairwise comes_first ys → AreApart xs ys → Pairwise comes_first (merge xs ys)
ordered_merge [] ys h k apart = k
ordered_merge (x ∷ xs) ys h k apart = ordered_at x xs h.0 h.1 (λ zs l apart. ordered_merge xs zs h.1 l apart) ys k apart
