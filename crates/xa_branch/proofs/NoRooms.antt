-- Where as many are kept as last, no branch at work has its room.
use Rattle.std.proofs.Common.{◌≡◌, ℕ, ◌+◌, ◌≤◌, length, Bool, true, false, ◌||◌, cond, Option, Some, None, List, [], ◌∷◌, ◌++◌, map, refl, ap, sym, ◌∙◌, subst, arith}
use Rattle.std.specs.Prelude.{is_some}
use Rattle.std.specs.BTreeMap.{BTreeMap, get, keys, btree_map_len}
use Rattle.std.specs.List.{list_any}
use Rattle.std.proofs.lemmas.List.{length-append, length-map}
use Rattle.xa_xid.specs.Triple.{Triple, xid_eq, xid_cmp}
use Rattle.xa_xid.proofs.Same.{xid_eq_itself, xid_same}
use Rattle.xa_model.specs.State.{State, Branch, Decided, count, is_known_as}
use Rattle.xa_model.specs.Durable.{PreparedBranch, durable, insert, named_before, by_name}
use Rattle.xa_model.specs.Fold.{prepared_as}
use Rattle.xa_model.specs.Invariants.Sound.{IsSound}
use Rattle.xa_model.specs.Listed.{lasting_names}
use Rattle.xa_model.proofs.Ascending.{parts, add, parts-cons}
use Rattle.xa_model.proofs.Counts.{count_nowhere}
use Rattle.xa_model.proofs.Remains.{held_of, held_named}
use Rattle.xa_branch.specs.declared.branches.Branches.{Branches}
use Rattle.xa_branch.specs.declared.lasting.Lasting.{Lasting}
use Rattle.xa_branch.specs.declared.working.Working.{Working as Kept}
use Rattle.xa_branch.specs.Branches.{BranchesStandFor, lasting_at, lasting_known, unless_working, working_at}
use Rattle.xa_branch.proofs.Listing.{has, has_keys, has_names}
use Rattle.xa_branch.proofs.Returning.{named_length, parts_length}

abbrev pub HasNoRooms : Branches → Type 0
HasNoRooms m = (q : Triple) → get xid_cmp m.lasting q ≡ lasting_at m q

-- ---- names that all are keys, where there are no more keys than names

abbrev times_in : Triple → List Triple → ℕ
times_in z xs = count (λ x. xid_eq x z) xs

abbrev less : Triple → List Triple → List Triple
less n [] = []
less n (x ∷ xs) = cond (xid_eq x n) xs (x ∷ less n xs)

some_times : (z : Triple) (xs : List Triple) (c : Bool) → has z xs ≡ c → 1 ≤ times_in z xs → c ≡ true
some_times z xs true e h = refl
some_times z xs false e h = let none : times_in z xs ≡ 0 = count_nowhere (λ x. xid_eq x z) xs e in absurd (omega (arith, none, h))

times_less_by : (n z x : Triple) (xs : List Triple) (c d : Bool) → xid_eq x n ≡ c → xid_eq x z ≡ d → (c ≡ true → xid_eq n z ≡ d) → (c ≡ false → times_in z (less n xs) + cond (xid_eq n z) 1 0 ≡ times_in z xs)
    → times_in z (cond c xs (x ∷ less n xs)) + cond (xid_eq n z) 1 0 ≡ cond d 1 0 + times_in z xs
times_less_by n z x xs true d e f here rest = rw (here refl) (omega arith)
times_less_by n z x xs false d e f here rest = let same = rest refl in rw f (omega (arith, same))

times_less : (n z : Triple) (xs : List Triple) → has n xs ≡ true → times_in z (less n xs) + cond (xid_eq n z) 1 0 ≡ times_in z xs
times_less n z [] h = absurd (cc h)
times_less n z (x ∷ xs) h =
    times_less_by n z x xs (xid_eq x n) (xid_eq x z) refl refl (λ e. ap (λ (y : Triple). xid_eq y z) (sym (xid_same x n e)))
    (λ e. times_less n z xs (behind (xid_eq x n) e h))
  where
    behind : (c : Bool) → c ≡ false → (c || has n xs) ≡ true → has n xs ≡ true
    behind true e f = absurd (cc e)
    behind false e f = f

length_less : (n : Triple) (xs : List Triple) → has n xs ≡ true → length (less n xs) + 1 ≡ length xs
length_less n [] h = absurd (cc h)
length_less n (x ∷ xs) h = by (xid_eq x n) h (length_less n xs)
  where
    by : (c : Bool) → (c || has n xs) ≡ true → (has n xs ≡ true → length (less n xs) + 1 ≡ length xs) → length (cond c xs (x ∷ less n xs)) + 1 ≡ length (x ∷ xs)
    by true e rest = omega arith
    by false e rest = let same = rest e in omega (arith, same)

has_less : (n z : Triple) (xs : List Triple) → xid_eq n z ≡ false → has z xs ≡ true → has z (less n xs) ≡ true
has_less n z [] e h = absurd (cc h)
has_less n z (x ∷ xs) e h = by (xid_eq x n) (xid_eq x z) refl refl h (has_less n z xs e)
  where
    by : (c d : Bool) → xid_eq x n ≡ c → xid_eq x z ≡ d → (d || has z xs) ≡ true → (has z xs ≡ true → has z (less n xs) ≡ true) → has z (cond c xs (x ∷ less n xs)) ≡ true
    by true true f g k rest = absurd (cc (e, subst (λ (y : Triple). xid_eq y z ≡ true) (xid_same x n f) g))
    by true false f g k rest = k
    by false true f g k rest = rw g refl
    by false false f g k rest = rw g (rest k)

each_a_name : (ns ks : List Triple) → ((z : Triple) → times_in z ns ≤ times_in z ks) → length ks ≤ length ns → (z : Triple) → has z ks ≡ true → has z ns ≡ true
each_a_name [] [] fewer few z h = h
each_a_name [] (k ∷ ks) fewer few z h = absurd (omega (arith, few))
each_a_name (n ∷ ns) ks fewer few z h =
    by (xid_eq n z) refl
    (λ e. each_a_name ns (less n ks) (λ y. let a = fewer y in let b = times_less n y ks itself in omega (arith, a, b)) (let a = length_less n ks itself in omega (arith, few, a)) z (has_less n z ks e h))
  where
    itself : has n ks ≡ true
    itself = some_times n ks (has n ks) refl (omega (arith, fewer n, one))
      where
        one : 1 ≤ times_in n (n ∷ ns)
        one = rw (xid_eq_itself n) (omega arith)

    by : (c : Bool) → xid_eq n z ≡ c → (xid_eq n z ≡ false → has z ns ≡ true) → (c || has z ns) ≡ true
    by true e rest = refl
    by false e rest = rest e

-- ---- each name of those that last is there once

count_last : {A : Type 0} (p : A → Bool) (xs : List A) (x : A) → count p (xs ++ x ∷ []) ≡ cond (p x) 1 0 + count p xs
count_last p [] x = refl
count_last p (y ∷ ys) x = let rest = count_last p ys x in omega (arith, rest)

count_add : (p : PreparedBranch → Bool) (q : Branch → Bool) (b : Branch) (o : Option PreparedBranch) (xs : List PreparedBranch) (n : ℕ) → ((x : PreparedBranch) → o ≡ Some x → p x ≡ q b) → count p xs ≤ n → count p (add o xs) ≤ cond (q b) 1 0 + n
count_add p q b None xs n same few = omega (arith, few)
count_add p q b (Some x) xs n same few = let all = count_last p xs x in let one : cond (p x) 1 0 ≡ cond (q b) 1 0 = ap {B = ℕ} (λ (c : Bool). cond c 1 0) (same x refl) in omega (arith, all, one, few)

count_parts : (xid : Triple) (bs : List Branch) → count (prepared_as xid) (parts held_of bs) ≤ count (is_known_as xid) bs
count_parts xid [] = omega arith
count_parts xid (b ∷ bs) =
    subst (λ (l : List PreparedBranch). count (prepared_as xid) l ≤ count (is_known_as xid) (b ∷ bs)) (sym (parts-cons held_of b bs))
    (count_add (prepared_as xid) (is_known_as xid) b (held_of b) (parts held_of bs) (count (is_known_as xid) bs) (λ x e. (held_named xid).named b x e) (count_parts xid bs))

count_insert : (p : Decided → Bool) (x : Decided) (ys : List Decided) → count p (insert named_before x ys) ≡ cond (p x) 1 0 + count p ys
count_insert p x [] = refl
count_insert p x (y ∷ ys) = by (named_before y x) (count_insert p x ys)
  where
    by : (c : Bool) → count p (insert named_before x ys) ≡ cond (p x) 1 0 + count p ys → count p (cond c (y ∷ insert named_before x ys) (x ∷ y ∷ ys)) ≡ cond (p x) 1 0 + (cond (p y) 1 0 + count p ys)
    by true rest = omega (arith, rest)
    by false rest = refl

count_named : (p : Decided → Bool) (ds : List Decided) → count p (by_name ds) ≡ count p ds
count_named p [] = refl
count_named p (d ∷ ds) = count_insert p d (by_name ds) ∙ ap (λ (n : ℕ). cond (p d) 1 0 + n) (count_named p ds)

times_map : {A : Type 0} (name : A → Triple) (z : Triple) (xs : List A) → times_in z (map name xs) ≡ count (λ x. xid_eq (name x) z) xs
times_map name z [] = refl
times_map name z (x ∷ xs) = ap (λ (n : ℕ). cond (xid_eq (name x) z) 1 0 + n) (times_map name z xs)

times_both : (z : Triple) (xs ys : List Triple) → times_in z (xs ++ ys) ≡ times_in z xs + times_in z ys
times_both z [] ys = omega arith
times_both z (x ∷ xs) ys = let rest = times_both z xs ys in omega (arith, rest)

once : (s : State) (z : Triple) → IsSound s → times_in z (lasting_names (durable s)) ≤ 1
once s z h =
    let both = times_both z (map (λ (p : PreparedBranch). p.xid) (durable s).prepared) (map (λ (d : Decided). d.xid) (durable s).decided) in
    let held = times_map (λ (p : PreparedBranch). p.xid) z (durable s).prepared in
    let done = times_map (λ (d : Decided). d.xid) z (durable s).decided in
    let few = count_parts z s.branches in
    let same = count_named (λ (d : Decided). xid_eq d.xid z) s.decided in
    let one = h.distinct z in
    omega (arith, both, held, done, few, same, one)

-- ---- so nothing else is kept

kept_too : (w : Option Kept) (o : Option Lasting) → is_some (unless_working w o) ≡ true → is_some o ≡ true
kept_too None o e = e
kept_too (Some w) o e = absurd (cc e)

names_length : (s : State) → length (lasting_names (durable s)) ≡ length (durable s).prepared + length (durable s).decided
names_length s =
    let both = length-append (map (λ (p : PreparedBranch). p.xid) (durable s).prepared) (map (λ (d : Decided). d.xid) (durable s).decided) in
    omega (arith, both, length-map (durable s).prepared (λ (p : PreparedBranch). p.xid), length-map (durable s).decided (λ (d : Decided). d.xid))

pub no_rooms : (m : Branches) (s : State) → IsSound s → BranchesStandFor m s → btree_map_len m.lasting ≤ m.prepared + m.completed → HasNoRooms m
no_rooms m s h st few q = by (working_at m q) (get xid_cmp m.lasting q) refl refl
  where
    ns : List Triple
    ns = lasting_names (durable s)

    named : (z : Triple) → has z ns ≡ is_some (lasting_at m z)
    named z = has_names s z h ∙ ap (λ (o : Option Lasting). is_some o) (sym (st.lasting z))

    fewer_by : (z : Triple) (c : Bool) → has z ns ≡ c → times_in z ns ≤ times_in z (keys m.lasting)
    fewer_by z false e = let none : times_in z ns ≡ 0 = count_nowhere (λ x. xid_eq x z) ns e in omega (arith, none)
    fewer_by z true e =
        let there : has z (keys m.lasting) ≡ true = has_keys z m.lasting.entries ∙ kept_too (working_at m z) (get xid_cmp m.lasting z) (sym (named z) ∙ e) in
        let some = counted z (keys m.lasting) there in
        omega (arith, some, once s z h)
      where
        counted : (z : Triple) (xs : List Triple) → has z xs ≡ true → 1 ≤ times_in z xs
        counted z [] e = absurd (cc e)
        counted z (x ∷ xs) e = one (xid_eq x z) e (counted z xs)
          where
            one : (c : Bool) → (c || has z xs) ≡ true → (has z xs ≡ true → 1 ≤ times_in z xs) → 1 ≤ cond c 1 0 + times_in z xs
            one true e rest = omega arith
            one false e rest = let some = rest e in omega (arith, some)

    as_many : length (keys m.lasting) ≤ length ns
    as_many =
        let all = length-map m.lasting.entries (λ e. e.0) in
        let ps = parts_length s.branches in
        let ds = named_length s.decided in
        omega (arith, all, few, names_length s, ps, ds, st.prepared, st.completed)

    by : (w : Option Kept) (o : Option Lasting) → working_at m q ≡ w → get xid_cmp m.lasting q ≡ o → o ≡ unless_working w o
    by None o e f = refl
    by (Some w) None e f = refl
    by (Some w) (Some l) e f =
        let there : has q (keys m.lasting) ≡ true = has_keys q m.lasting.entries ∙ ap (λ (o : Option Lasting). is_some o) f in
        let name = each_a_name ns (keys m.lasting) (λ z. fewer_by z (has z ns) refl) as_many q there in
        let none : is_some (lasting_at m q) ≡ false = rw e refl in
        absurd (cc (name, named q, none))
