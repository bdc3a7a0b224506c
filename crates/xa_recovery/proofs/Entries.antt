-- The entries of maps against the lists that they stand for: an entry takes its place, leaves, or is looked up.
use Rattle.std.proofs.Common.{◌≡◌, ℕ, ◌==◌, Bool, true, false, ◌||◌, cond, List, [], ◌∷◌, Option, Some, None, map, refl, ap, ◌∙◌, arith}
use Rattle.std.specs.Prelude.{find, nat_lt, is_some, option_map}
use Rattle.std.specs.BTreeMap.{insert_entry, is_at}
use Rattle.std.specs.Cmp.{IsTotalOrder}
use Rattle.std.specs.List.{AllByRecursion, list_any}
use Rattle.std.specs.Map.{lookup, remove_entry}
use Rattle.std.specs.Ordering.{nat_cmp, is_eq, is_lt, match_ordering, ordering_reverse}
use Rattle.std.specs.declared.cmp.Ordering.{Ordering}
use Rattle.std.specs.declared.cmp.Ordering.TheVariants.{Less, Equal, Greater}
use Rattle.std.proofs.lemmas.Bool.Decides.{nat_tests}
use Rattle.xa_xid.specs.Triple.{Triple, xid_eq}
use Rattle.xa_model.specs.State.{without}
use Rattle.xa_model.specs.Durable.{PreparedBranch, Pairwise, insert, prepares_before}
use Rattle.xa_model.specs.Fold.{prepared_as}
use Rattle.xa_model.proofs.Lists.{found_all}
use Rattle.xa_recovery.specs.declared.durable.InDoubt.{InDoubt}
use Rattle.xa_recovery.specs.Durable.{as_prepared}

-- numbers

pub eq_nat : (t u : ℕ) → is_eq (nat_cmp t u) ≡ (t == u)
eq_nat t u = by (nat_lt t u) (t == u) refl refl
  where
    by : (a b : Bool) → nat_lt t u ≡ a → (t == u) ≡ b → is_eq (cond a Less (cond b Equal Greater)) ≡ b
    by true true e f = absurd (grind (arith, nat_tests, e, f))
    by true false e f = refl
    by false true e f = refl
    by false false e f = refl

pub lt_nat : (t u : ℕ) → nat_lt t u ≡ is_lt (nat_cmp t u)
lt_nat t u = by (nat_lt t u) (t == u)
  where
    by : (a b : Bool) → a ≡ is_lt (cond a Less (cond b Equal Greater))
    by true b = refl
    by false true = refl
    by false false = refl

-- a new entry

placed_by : {E A : Type 0} (f : E → A) (o : Ordering) (c : Bool) (p q r : List E) (ys zs : List A) → is_eq o ≡ false → c ≡ is_lt (ordering_reverse o) → map f r ≡ ys → map f p ≡ zs
    → map f (match_ordering o p q r) ≡ cond c ys zs
placed_by f Less true p q r ys zs apart e behind here = absurd (cc e)
placed_by f Less false p q r ys zs apart e behind here = here
placed_by f Equal c p q r ys zs apart e behind here = absurd (cc apart)
placed_by f Greater true p q r ys zs apart e behind here = behind
placed_by f Greater false p q r ys zs apart e behind here = absurd (cc e)

pub inserted : {K X A : Type 0} (cmp : K → K → Ordering) (total : IsTotalOrder cmp) (f : K × X → A) (before : A → A → Bool) (h : (d e : K × X) → before (f d) (f e) ≡ is_lt (cmp d.0 e.0))
    (k : K) (v : X) (es : List (K × X)) → AllByRecursion (λ e. is_eq (cmp k e.0) ≡ false) es → map f (insert_entry cmp es k v) ≡ insert before (f (k, v)) (map f es)
inserted cmp total f before h k v [] apart = refl
inserted cmp total f before h k v (e ∷ es) apart =
    placed_by f (cmp k e.0) (before (f e) (f (k, v))) ((k, v) ∷ e ∷ es) ((e.0, v) ∷ es) (e ∷ insert_entry cmp es k v) (f e ∷ insert before (f (k, v)) (map f es)) (f (k, v) ∷ f e ∷ map f es)
    apart.0 (h e (k, v) ∙ ap is_lt (total.antisymm e.0 k))
    (ap (λ ys. f e ∷ ys) (inserted cmp total f before h k v es apart.1)) refl

-- an entry that is before all others
pub front : {X : Type 0} (k : ℕ) (v : X) (es : List (ℕ × X)) → AllByRecursion (λ e. nat_lt k e.0 ≡ true) es → insert_entry nat_cmp es k v ≡ (k, v) ∷ es
front k v [] below = refl
front k v (e ∷ es) below = let here : nat_lt k e.0 ≡ true = below.0 in rw here refl

-- an entry leaves

left_by : {E A : Type 0} (f : E → A) (e : E) (c d : Bool) (es rest : List E) (ys : List A) → c ≡ d → map f rest ≡ ys → map f (cond c es (e ∷ rest)) ≡ cond d (map f es) (f e ∷ ys)
left_by f e true true es rest ys same behind = refl
left_by f e true false es rest ys same behind = absurd (cc same)
left_by f e false true es rest ys same behind = absurd (cc same)
left_by f e false false es rest ys same behind = ap (λ zs. f e ∷ zs) behind

pub removed : {K X A : Type 0} (f : K × X → A) (test : K → Bool) (p : A → Bool) (h : (e : K × X) → test e.0 ≡ p (f e)) (es : List (K × X)) → map f (remove_entry test es) ≡ without p (map f es)
removed f test p h [] = refl
removed f test p h (e ∷ es) = left_by f e (test e.0) (p (f e)) es (remove_entry test es) (without p (map f es)) (h e) (removed f test p h es)

-- an entry is looked up

some_by : {A : Type 0} (c d : Bool) (x : A) (o : Option A) (b : Bool) → c ≡ d → is_some o ≡ b → is_some (cond c (Some x) o) ≡ (d || b)
some_by true true x o b same rest = refl
some_by true false x o b same rest = absurd (cc same)
some_by false true x o b same rest = absurd (cc same)
some_by false false x o b same rest = rest

pub looked : {K X A : Type 0} (f : K × X → A) (test : K → Bool) (p : A → Bool) (h : (e : K × X) → test e.0 ≡ p (f e)) (es : List (K × X)) → is_some (lookup test es) ≡ list_any p (map f es)
looked f test p h [] = refl
looked f test p h (e ∷ es) = some_by (test e.0) (p (f e)) e.1 (lookup test es) (list_any p (map f es)) (h e) (looked f test p h es)

mapped_some : {A B : Type 0} (g : A → B) (o : Option A) → is_some (option_map g o) ≡ is_some o
mapped_some g None = refl
mapped_some g (Some x) = refl

pub found_some : {A : Type 0} (p : A → Bool) (xs : List A) → is_some (find p xs) ≡ list_any p xs
found_some p [] = refl
found_some p (x ∷ xs) = some_by (p x) (p x) x (find p xs) (list_any p xs) refl (found_some p xs)

pub told_some : {A B : Type 0} (g : A → B) (p : A → Bool) (xs : List A) → is_some (option_map g (find p xs)) ≡ list_any p xs
told_some g p xs = mapped_some g (find p xs) ∙ found_some p xs

-- the entry of a branch in doubt, by its timestamp

at_by : (xid : Triple) (p : PreparedBranch) (e : ℕ × InDoubt) (es : List (ℕ × InDoubt)) (c : Bool) → cond c (Some (as_prepared e)) (find (prepared_as xid) (map as_prepared es)) ≡ Some p
    → AllByRecursion (λ z. prepares_before (as_prepared e) z ≡ true) (map as_prepared es) → is_eq (nat_cmp p.timestamp e.0) ≡ c
at_by xid p e es true found behind =
    let same : as_prepared e ≡ p = cc found in
    let at : e.0 ≡ p.timestamp = ap (λ (q : PreparedBranch). q.timestamp) same in
    eq_nat p.timestamp e.0 ∙ grind (arith, nat_tests, at)
at_by xid p e es false found behind =
    let below : nat_lt e.0 p.timestamp ≡ true = found_all (λ z. prepares_before (as_prepared e) z ≡ true) (prepared_as xid) p (map as_prepared es) behind found in
    eq_nat p.timestamp e.0 ∙ grind (arith, nat_tests, below)

-- the entry with the timestamp of the branch with this XID
pub record IsAt (xid : Triple) (p : PreparedBranch) (es : List (ℕ × InDoubt)) : Type 0 where
  pub kept : lookup (is_at (nat_cmp p.timestamp)) es ≡ Some (record { xid = p.xid; writes = p.writes })
  pub left : map as_prepared (remove_entry (is_at (nat_cmp p.timestamp)) es) ≡ without (prepared_as xid) (map as_prepared es)

stands_by : (xid : Triple) (p : PreparedBranch) (e : ℕ × InDoubt) (es : List (ℕ × InDoubt)) (c d : Bool) → c ≡ d → cond d (Some (as_prepared e)) (find (prepared_as xid) (map as_prepared es)) ≡ Some p
    → (find (prepared_as xid) (map as_prepared es) ≡ Some p → IsAt xid p es)
    → (cond c (Some e.1) (lookup (is_at (nat_cmp p.timestamp)) es) ≡ Some (record { xid = p.xid; writes = p.writes }))
    × (map as_prepared (cond c es (e ∷ remove_entry (is_at (nat_cmp p.timestamp)) es)) ≡ cond d (map as_prepared es) (as_prepared e ∷ without (prepared_as xid) (map as_prepared es)))
stands_by xid p e es true true same found rest =
    let is : as_prepared e ≡ p = cc found in
    (ap (λ (q : PreparedBranch). Some (record { xid = q.xid; writes = q.writes })) is, refl)
stands_by xid p e es true false same found rest = absurd (cc same)
stands_by xid p e es false true same found rest = absurd (cc same)
stands_by xid p e es false false same found rest =
    let at = rest found in
    (at.kept, ap (λ ps. as_prepared e ∷ ps) at.left)

pub stands_at : (xid : Triple) (p : PreparedBranch) (es : List (ℕ × InDoubt)) → Pairwise prepares_before (map as_prepared es) → find (prepared_as xid) (map as_prepared es) ≡ Some p → IsAt xid p es
stands_at xid p [] ordered found = absurd (cc found)
stands_at xid p (e ∷ es) ordered found =
    let both = stands_by xid p e es (is_eq (nat_cmp p.timestamp e.0)) (xid_eq e.1.xid xid) (at_by xid p e es (xid_eq e.1.xid xid) found ordered.0) found (λ f. stands_at xid p es ordered.1 f) in
    record { kept = both.0; left = both.1 }

-- what is found after a member took its place

found_by : {A : Type 0} (test : A → Bool) (x y : A) (ys zs : List A) (b c d : Bool) → (c ≡ true → d ≡ false) → find test zs ≡ cond c (Some x) (find test ys)
    → cond d (Some y) (find test zs) ≡ cond c (Some x) (cond d (Some y) (find test ys))
found_by test x y ys zs b true true one rest = absurd (cc (one refl))
found_by test x y ys zs b true false one rest = rest
found_by test x y ys zs b false true one rest = refl
found_by test x y ys zs b false false one rest = rest

either_place : {A : Type 0} (test : A → Bool) (x y : A) (ys zs : List A) (b : Bool) → cond (test y) (Some y) (find test zs) ≡ cond (test x) (Some x) (cond (test y) (Some y) (find test ys))
    → find test (cond b (y ∷ zs) (x ∷ y ∷ ys)) ≡ cond (test x) (Some x) (find test (y ∷ ys))
either_place test x y ys zs true rest = rest
either_place test x y ys zs false rest = refl

pub find_inserted : {A : Type 0} (test : A → Bool) (before : A → A → Bool) (x : A) (xs : List A) → (test x ≡ true → AllByRecursion (λ y. test y ≡ false) xs)
    → find test (insert before x xs) ≡ cond (test x) (Some x) (find test xs)
find_inserted test before x [] one = refl
find_inserted test before x (y ∷ ys) one =
    either_place test x y ys (insert before x ys) (before y x)
    (found_by test x y ys (insert before x ys) true (test x) (test y) (λ e. (one e).0) (find_inserted test before x ys (λ e. (one e).1)))

pub find_none : {A : Type 0} (test : A → Bool) (xs : List A) → list_any test xs ≡ false → find test xs ≡ None
find_none test xs none = by (find test xs) (found_some test xs ∙ none)
  where
    by : {A : Type 0} (o : Option A) → is_some o ≡ false → o ≡ None
    by None e = refl
    by (Some x) e = absurd (cc e)
