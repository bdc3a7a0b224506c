-- The XIDs that recovery lists, of what is kept and of what lasts: two lists in order with the same members.
use Rattle.std.proofs.Common.{◌≡◌, ◌⊎◌, inl, inr, ℕ, zero, suc, ◌+◌, ◌<◌, ◌≤◌, length, Bool, true, false, ◌||◌, cond, Option, Some, None, List, [], ◌∷◌, ◌++◌, refl, ap, sym, ◌∙◌, subst, arith}
use Rattle.std.proofs.lemmas.List.{length-take}
use Rattle.std.specs.Prelude.{filter, find, fold, is_some, map, take}
use Rattle.std.specs.BTreeMap.{BTreeMap, IsOrdered, get, keys, is_at}
use Rattle.std.specs.BTreeSet.{insert_key}
use Rattle.std.specs.Cmp.{both_ways}
use Rattle.std.specs.List.{list_any}
use Rattle.std.specs.List.Sorted.{IsStrictlySortedBy}
use Rattle.std.specs.Map.{keys_of, lookup}
use Rattle.std.specs.Ordering.{is_eq, is_lt, match_ordering}
use Rattle.std.specs.declared.cmp.Ordering.{Ordering}
use Rattle.std.specs.declared.cmp.Ordering.TheVariants.{Less, Equal, Greater}
use Rattle.std.proofs.lemmas.List.{append_assoc}
use Rattle.std.proofs.lemmas.List.Folds.{list_any-append}
use Rattle.std.proofs.lemmas.Map.Keys.{sorted_head, sorted_tail}
use Rattle.xa_xid.specs.Triple.{Triple, xid_eq, xid_cmp}
use Rattle.xa_xid.proofs.Same.{xid_same, xid_eq_same, xid_cmp_same}
use Rattle.xa_model.specs.State.{State, Decided}
use Rattle.xa_model.specs.Invariants.Sound.{IsSound}
use Rattle.xa_model.specs.Durable.{Pairwise, PreparedBranch, durable}
use Rattle.xa_model.specs.Listed.{is_above, lasting_names, listed}
use Rattle.xa_model.proofs.InOrder.{below, below_transitive, below_strict, ordered_pairwise}
use Rattle.xa_model.proofs.Inserts.{all_imply}
use Rattle.xa_model.proofs.Members.{Member, same_members}
use Rattle.xa_model.proofs.Xids.{cmp_is_eq}
use Rattle.xa_branch.specs.declared.branches.Branches.{Branches}
use Rattle.xa_branch.specs.declared.lasting.Lasting.{Lasting}
use Rattle.xa_branch.specs.Branches.{BranchesStandFor, lasting_at, lasting_known}
use Rattle.xa_branch.specs.Restored.{restored_by}
use Rattle.xa_branch.proofs.Returning.{found_lasting}

-- the XIDs above one, of those that are kept
abbrev pub above : {V : Type 0} → Option Triple → BTreeMap Triple V → List Triple
above after m = filter (is_above after) (keys m)

-- order

pub sorted_pairwise : (xs : List Triple) → IsStrictlySortedBy xid_cmp xs → Pairwise below xs
sorted_pairwise [] h = tt
sorted_pairwise (x ∷ xs) h =
    (all_imply (λ y. xid_cmp x y ≡ Less) (λ y. below x y ≡ true) (λ y e. ap is_lt e) xs (sorted_head xid_cmp x xs h), sorted_pairwise xs (sorted_tail xid_cmp x xs h))

-- members

abbrev pub has : Triple → List Triple → Bool
has q xs = list_any (λ x. xid_eq x q) xs

or_false : (a : Bool) → a ≡ (a || false)
or_false true = refl
or_false false = refl

or_twice : (a b : Bool) → (a || b) ≡ (a || (a || b))
or_twice true b = refl
or_twice false b = refl

or_swapped : (a b c : Bool) → (a || (b || c)) ≡ (b || (a || c))
or_swapped true true c = refl
or_swapped true false c = refl
or_swapped false b c = refl

or_moved : (a b c : Bool) → ((a || b) || c) ≡ (b || (a || c))
or_moved true true c = refl
or_moved true false c = refl
or_moved false b c = refl

has_key_by : (q k x : Triple) (xs : List Triple) (o : Ordering) → xid_cmp k x ≡ o → has q (insert_key xid_cmp xs k) ≡ (xid_eq k q || has q xs)
    → has q (match_ordering o (k ∷ x ∷ xs) (x ∷ xs) (x ∷ insert_key xid_cmp xs k)) ≡ (xid_eq k q || (xid_eq x q || has q xs))
has_key_by q k x xs Less e ih = refl
has_key_by q k x xs Equal e ih = subst (λ (y : Triple). (xid_eq x q || has q xs) ≡ (xid_eq y q || (xid_eq x q || has q xs))) (sym (xid_cmp_same k x e)) (or_twice (xid_eq x q) (has q xs))
has_key_by q k x xs Greater e ih = ap (λ b. xid_eq x q || b) ih ∙ or_swapped (xid_eq x q) (xid_eq k q) (has q xs)

has_key : (q k : Triple) (xs : List Triple) → has q (insert_key xid_cmp xs k) ≡ (xid_eq k q || has q xs)
has_key q k [] = refl
has_key q k (x ∷ xs) = has_key_by q k x xs (xid_cmp k x) refl (has_key q k xs)

pub has_fold : (q : Triple) (done xs : List Triple) → has q (fold (insert_key xid_cmp) done xs) ≡ (has q done || has q xs)
has_fold q done [] = or_false (has q done)
has_fold q done (x ∷ xs) =
    has_fold q (insert_key xid_cmp done x) xs ∙ (ap (λ b. b || has q xs) (has_key q x done) ∙ or_moved (xid_eq x q) (has q done) (has q xs))

pub some_or : {A : Type 0} (c : Bool) (x : A) (o : Option A) → (c || is_some o) ≡ is_some (cond c (Some x) o)
some_or true x o = refl
some_or false x o = refl

pub has_map : {A : Type 0} (name : A → Triple) (q : Triple) (xs : List A) → has q (map name xs) ≡ is_some (find (λ y. xid_eq (name y) q) xs)
has_map name q [] = refl
has_map name q (x ∷ xs) = ap (λ b. xid_eq (name x) q || b) (has_map name q xs) ∙ some_or (xid_eq (name x) q) x (find (λ y. xid_eq (name y) q) xs)

pub flipped : (x y : Triple) → xid_eq x y ≡ xid_eq y x
flipped x y = both_ways (xid_eq x y) (xid_eq y x) (λ e. xid_eq_same y x (sym (xid_same x y e))) (λ e. xid_eq_same x y (sym (xid_same y x e)))

pub has_keys : {V : Type 0} (q : Triple) (es : List (Triple × V)) → has q (keys_of es) ≡ is_some (lookup (is_at (xid_cmp q)) es)
has_keys q [] = refl
has_keys q (e ∷ es) =
    let here : xid_eq e.0 q ≡ is_eq (xid_cmp q e.0) = flipped e.0 q ∙ sym (cmp_is_eq q e.0) in
    rw (here, has_keys q es) (some_or (is_eq (xid_cmp q e.0)) e.1 (lookup (is_at (xid_cmp q)) es))

pub member_has : (z : Triple) (xs : List Triple) → Member z xs → has z xs ≡ true
member_has z [] m = absurd m
member_has z (x ∷ xs) (inl e) = rw (xid_eq_same x z (sym e)) refl
member_has z (x ∷ xs) (inr m) = rw (member_has z xs m) (or_true (xid_eq x z))
  where
    or_true : (b : Bool) → (b || true) ≡ true
    or_true true = refl
    or_true false = refl

has_member_by : (z x : Triple) (xs : List Triple) (c : Bool) → xid_eq x z ≡ c → (c || has z xs) ≡ true → (has z xs ≡ true → Member z xs) → (z ≡ x) ⊎ Member z xs
has_member_by z x xs true f e ih = inl (sym (xid_same x z f))
has_member_by z x xs false f e ih = inr (ih e)

pub has_member : (z : Triple) (xs : List Triple) → has z xs ≡ true → Member z xs
has_member z [] e = absurd (cc e)
has_member z (x ∷ xs) e = has_member_by z x xs (xid_eq x z) refl e (has_member z xs)

-- what is kept and what lasts has the same XIDs

either_restored : (p : Option PreparedBranch) (d : Option Decided) → is_some (restored_by p d) ≡ (is_some p || is_some d)
either_restored (Some p) d = refl
either_restored None (Some d) = refl
either_restored None None = refl

pub has_names : (s : State) (q : Triple) → IsSound s → has q (lasting_names (durable s)) ≡ is_some (lasting_known s q)
has_names s q h =
    let ps = (durable s).prepared in
    let ds = (durable s).decided in
    list_any-append (λ x. xid_eq x q) (map (λ p. p.xid) ps) (map (λ e. e.xid) ds)
    ∙ (rw (has_map (λ p. p.xid) q ps, has_map (λ e. e.xid) q ds) (sym (either_restored (find (λ p. xid_eq p.xid q) ps) (find (λ e. xid_eq e.xid q) ds))) ∙ ap (λ (o : Option Lasting). is_some o) (found_lasting s q h))

same_has : (m : Branches) (s : State) (q : Triple) → IsSound s → BranchesStandFor m s → get xid_cmp m.lasting q ≡ lasting_at m q → has q (keys m.lasting) ≡ has q (listed (durable s))
same_has m s q h st none =
    has_keys q m.lasting.entries ∙ (ap (λ (o : Option Lasting). is_some o) (none ∙ st.lasting q) ∙ (sym (has_names s q h) ∙ sym (has_fold q [] (lasting_names (durable s)))))

pub listed_same : (m : Branches) (s : State) → IsSound s → BranchesStandFor m s → ((q : Triple) → get xid_cmp m.lasting q ≡ lasting_at m q) → IsOrdered xid_cmp m.lasting → keys m.lasting ≡ listed (durable s)
listed_same m s h st none ordered =
    let kept = keys m.lasting in
    let lasting = listed (durable s) in
    same_members below below_transitive below_strict kept lasting (sorted_pairwise kept ordered) (ordered_pairwise (lasting_names (durable s)))
    (λ z n. has_member z lasting (sym (same_has m s z h st (none z)) ∙ member_has z kept n)) (λ z n. has_member z kept (same_has m s z h st (none z) ∙ member_has z lasting n))

-- the XIDs of a part of what is kept

pub keys_filtered : {V : Type 0} (p q : Triple → Bool) → ((x : Triple) → p x ≡ q x) → (es : List (Triple × V)) → keys_of (filter (λ e. p e.0) es) ≡ filter q (keys_of es)
keys_filtered p q same [] = refl
keys_filtered p q same (e ∷ es) = filtered_by p q e es (p e.0) refl (same e.0) (keys_filtered p q same es)
  where
    filtered_by : {V : Type 0} (p q : Triple → Bool) (e : Triple × V) (es : List (Triple × V)) (c : Bool) → p e.0 ≡ c → p e.0 ≡ q e.0 → keys_of (filter (λ e. p e.0) es) ≡ filter q (keys_of es)
        → keys_of (cond c (e ∷ filter (λ e. p e.0) es) (filter (λ e. p e.0) es)) ≡ cond (q e.0) (e.0 ∷ filter q (keys_of es)) (filter q (keys_of es))
    filtered_by p q e es true f same rest = rw (sym same ∙ f) (ap (λ xs. e.0 ∷ xs) rest)
    filtered_by p q e es false f same rest = rw (sym same ∙ f) rest

-- one more of those that are left to take

pub taken_more : {V : Type 0} (done more : List Triple) (x y : Triple) (v : V) (n k : ℕ) (s t : List (Triple × V)) → y ≡ x → more ≡ done ++ y ∷ [] → s ≡ (x, v) ∷ t → k + 1 ≡ n
    → more ++ take k (keys_of t) ≡ done ++ take n (keys_of s)
taken_more done more x y v n k s t same is first one =
    let next : k + 1 ≡ suc k = omega arith in
    let step : take (k + 1) (x ∷ keys_of t) ≡ x ∷ take k (keys_of t) = ap (λ (i : ℕ). take i (x ∷ keys_of t)) next in
    rw (is, same, first, ← one, step) (append_assoc done (x ∷ []) (take k (keys_of t)))

pub taken_all : {V : Type 0} (n : ℕ) (s : List (Triple × V)) → (0 < n → s ≡ []) → take n (keys_of s) ≡ []
taken_all zero s none = refl
taken_all (suc n) s none = let empty : s ≡ [] = none (omega arith) in rw empty refl

pub few_taken : {A : Type 0} (xs ys : List A) (n : ℕ) → xs ≡ take n ys → length xs ≤ n
few_taken {A} xs ys n e = subst (λ (l : List A). length l ≤ n) (sym e) (subst (λ (k : ℕ). k ≤ n) (sym (length-take n ys)) (omega arith))
