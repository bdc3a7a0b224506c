-- What raising the boundaries at some keys, one after another, makes of all of them.
use Rattle.std.proofs.Common.{◌≡◌, ℕ, ◌≤◌, Bool, true, false, List, [], ◌∷◌, map, None, Some, refl, sym, ap, ◌∙◌, subst, arith}
use Rattle.std.specs.Prelude.{if◌then◌else◌, not, ◌&&◌, ◌||◌, Vec, max, nat_lt, bytes_eq, IfOk, Result, Ok, Err}
use Rattle.std.specs.List.{AllByRecursion as Each, list_any, filter}
use Rattle.std.specs.BTreeMap.{is_at}
use Rattle.std.specs.Map.{lookup, set_value, keys_of}
use Rattle.std.specs.Cmp.Lexicographic.{slice_partial_cmp, lists_agrees}
use Rattle.std.specs.Ordering.{nat_cmp, is_eq, is_lt, is_le, is_gt}
use Rattle.std.specs.declared.alloc.Global.{Global}
use Rattle.std.specs.declared.cmp.Ordering.{Ordering}
use Rattle.std.specs.declared.cmp.Ordering.TheVariants.{Less, Equal, Greater}
use Rattle.std.proofs.lemmas.Bool.Decides.{nat_tests}
use Rattle.std.proofs.lemmas.Map.Keys.{sorted_head, sorted_tail}
use Rattle.std.proofs.lemmas.Map.Text.{is_eq-slice_cmp}
use Rattle.std.proofs.lemmas.Slice.Eq.{bytes_eq-Decides}
use Rattle.mv_ranges.specs.Ranges.{Boundaries, is_before, holds}
use Rattle.mv_ranges.specs.Marks.{lower_keys, raised, raised_at, raised_each}
use Rattle.xa_model.proofs.KeyOrder.{cmp, flipped, upto_before, le_not_before}
use Rattle.mv_ranges.proofs.Boundaries.{keys_cmp, query, Ascending}
use Rattle.mv_ranges.proofs.Raised.{absent, absent_after}

same_key : (a b : List ℕ) → bytes_eq a b ≡ true → a ≡ b
same_key a b h = (bytes_eq-Decides a b).0 h

by_cmp : (a b : List ℕ) (o : Ordering) → cmp a b ≡ o → bytes_eq a b ≡ is_eq o
by_cmp a b o e = sym (is_eq-slice_cmp a b) ∙ ap is_eq e

-- ---- one boundary

pub raised_none : (n : ℕ) (k : List ℕ) (bs : Boundaries) → lookup (is_at (query k)) bs ≡ None → bs ≡ map (raised_at n k) bs
raised_none n k [] none = refl
raised_none n k (b ∷ bs) none = at (cmp k b.0.items) refl (raised_none n k bs)
  where
    stays : bytes_eq k b.0.items ≡ false → b ≡ raised_at n k b
    stays h = rw h refl

    at : (o : Ordering) → cmp k b.0.items ≡ o → (lookup (is_at (query k)) bs ≡ None → bs ≡ map (raised_at n k) bs) → b ∷ bs ≡ map (raised_at n k) (b ∷ bs)
    at Less o rest = ap (λ x. x ∷ bs) (stays (by_cmp k b.0.items Less o)) ∙ ap (λ x. raised_at n k b ∷ x) (rest (rw o at none))
    at Equal o rest = let t : Some b.1 ≡ None = rw o at none in absurd (cc)
    at Greater o rest = ap (λ x. x ∷ bs) (stays (by_cmp k b.0.items Greater o)) ∙ ap (λ x. raised_at n k b ∷ x) (rest (rw o at none))

pub raised_found : (n : ℕ) (k : List ℕ) (v : ℕ) (bs : Boundaries) → Ascending bs → lookup (is_at (query k)) bs ≡ Some v → set_value (is_at (query k)) bs (max v n) ≡ map (raised_at n k) bs
raised_found n k v [] s found = absurd (cc)
raised_found n k v (b ∷ bs) s found = at (cmp k b.0.items) refl (raised_found n k v bs (sorted_tail keys_cmp b.0 (keys_of bs) s))
  where
    stays : bytes_eq k b.0.items ≡ false → b ≡ raised_at n k b
    stays h = rw h refl

    at : (o : Ordering) → cmp k b.0.items ≡ o → (lookup (is_at (query k)) bs ≡ Some v → set_value (is_at (query k)) bs (max v n) ≡ map (raised_at n k) bs) → set_value (is_at (query k)) (b ∷ bs) (max v n) ≡ map (raised_at n k) (b ∷ bs)
    at Less o rest =
        let none : lookup (is_at (query k)) (b ∷ bs) ≡ None = absent k b bs (ap is_lt o) s in
        let t : None ≡ Some v = sym none ∙ found in
        absurd (cc)
    at Equal o rest =
        let here : Some b.1 ≡ Some v = rw o at found in
        let same : b.1 ≡ v = cc in
        let eq : bytes_eq k b.0.items ≡ true = by_cmp k b.0.items Equal o in
        let one : (b.0, max v n) ≡ raised_at n k b = rw (eq, same) refl in
        let none : lookup (is_at (query k)) bs ≡ None = absent_after k b.0 bs (ap is_lt (flipped k b.0.items Equal o)) (sorted_head keys_cmp b.0 (keys_of bs) s) in
        rw o (ap (λ x. x ∷ bs) one ∙ ap (λ x. raised_at n k b ∷ x) (raised_none n k bs none))
    at Greater o rest = rw o (ap (λ x. x ∷ set_value (is_at (query k)) bs (max v n)) (stays (by_cmp k b.0.items Greater o)) ∙ ap (λ x. raised_at n k b ∷ x) (rest (rw o at found)))

-- ---- those of the range

abbrev named : ℕ → List (List ℕ) → Vec ℕ Global × ℕ → Vec ℕ Global × ℕ
named n keys b = (b.0, if list_any (λ k. bytes_eq k b.0.items) keys then max b.1 n else b.1)

named_nil : (n : ℕ) (bs : Boundaries) → bs ≡ map (named n []) bs
named_nil n [] = refl
named_nil n (b ∷ bs) = ap (λ x. b ∷ x) (named_nil n bs)

named_cons : (n : ℕ) (k : List ℕ) (ks : List (List ℕ)) (bs : Boundaries) → map (named n ks) (map (raised_at n k) bs) ≡ map (named n (k ∷ ks)) bs
named_cons n k ks [] = refl
named_cons n k ks (b ∷ bs) =
    ap (λ x. named n ks (raised_at n k b) ∷ x) (named_cons n k ks bs)
    ∙ ap (λ v. (b.0, v) ∷ map (named n (k ∷ ks)) bs) (one (bytes_eq k b.0.items) (list_any (λ k. bytes_eq k b.0.items) ks))
  where
    one : (x y : Bool) → (if y then max (if x then max b.1 n else b.1) n else if x then max b.1 n else b.1) ≡ (if x || y then max b.1 n else b.1)
    one true true = omega arith
    one true false = refl
    one false true = refl
    one false false = refl

each_named : (n : ℕ) (ks : List (Vec ℕ Global)) (bs : Boundaries) → raised_each n ks bs ≡ map (named n (map (λ k. k.items) ks)) bs
each_named n [] bs = named_nil n bs
each_named n (k ∷ ks) bs = each_named n ks (map (raised_at n k.items) bs) ∙ named_cons n k.items (map (λ k. k.items) ks) bs

-- a key among those that pass the test does
sound : (r : List ℕ → Bool) (n : ℕ) (key : List ℕ) (bs : Boundaries) → list_any (λ k. bytes_eq k key) (lower_keys r n bs) ≡ true → r key ≡ true
sound r n key [] h = absurd (cc)
sound r n key (b ∷ bs) h = at (r b.0.items) refl (nat_lt b.1 n) refl (sound r n key bs)
  where
    here : r b.0.items ≡ true → (x : Bool) → bytes_eq b.0.items key ≡ x → (x || list_any (λ k. bytes_eq k key) (lower_keys r n bs)) ≡ true → (list_any (λ k. bytes_eq k key) (lower_keys r n bs) ≡ true → r key ≡ true) → r key ≡ true
    here e true f g rest = ap r (sym (same_key b.0.items key f)) ∙ e
    here e false f g rest = rest g

    at : (x : Bool) → r b.0.items ≡ x → (y : Bool) → nat_lt b.1 n ≡ y → (list_any (λ k. bytes_eq k key) (lower_keys r n bs) ≡ true → r key ≡ true) → r key ≡ true
    at true e true f rest = here e (bytes_eq b.0.items key) refl (rw (e, f) at h) rest
    at true e false f rest = rest (rw (e, f) at h)
    at false e y f rest = rest (rw e at h)

abbrev Listed : (List ℕ → Bool) → ℕ → List (List ℕ) → Boundaries → Type 0
Listed r n keys bs = Each (λ b. r b.0.items ≡ true → nat_lt b.1 n ≡ true → list_any (λ k. bytes_eq k b.0.items) keys ≡ true) bs

more_listed : (r : List ℕ → Bool) (n : ℕ) (k : List ℕ) (keys : List (List ℕ)) (bs : Boundaries) → Listed r n keys bs → Listed r n (k ∷ keys) bs
more_listed r n k keys [] l = tt
more_listed r n k keys (b ∷ bs) l = ((λ h g. either (bytes_eq k b.0.items) (l.0 h g)), more_listed r n k keys bs l.1)
  where
    either : (x : Bool) → list_any (λ k. bytes_eq k b.0.items) keys ≡ true → (x || list_any (λ k. bytes_eq k b.0.items) keys) ≡ true
    either true h = refl
    either false h = h

complete : (r : List ℕ → Bool) (n : ℕ) (bs : Boundaries) → Listed r n (lower_keys r n bs) bs
complete r n [] = tt
complete r n (b ∷ bs) = at (r b.0.items) refl (nat_lt b.1 n) refl (complete r n bs)
  where
    itself : (list_any (λ k. bytes_eq k b.0.items) (b.0.items ∷ lower_keys r n bs)) ≡ true
    itself = let t : bytes_eq b.0.items b.0.items ≡ true = (bytes_eq-Decides b.0.items b.0.items).1 refl in rw t refl

    at : (x : Bool) → r b.0.items ≡ x → (y : Bool) → nat_lt b.1 n ≡ y → Listed r n (lower_keys r n bs) bs → Listed r n (lower_keys r n (b ∷ bs)) (b ∷ bs)
    at true e true f rest =
        let is : lower_keys r n (b ∷ bs) ≡ b.0.items ∷ lower_keys r n bs = rw (e, f) refl in
        subst (λ (ks : List (List ℕ)). Listed r n ks (b ∷ bs)) (sym is) ((λ h g. itself), more_listed r n b.0.items (lower_keys r n bs) bs rest)
    at true e false f rest =
        let is : lower_keys r n (b ∷ bs) ≡ lower_keys r n bs = rw (e, f) refl in
        subst (λ (ks : List (List ℕ)). Listed r n ks (b ∷ bs)) (sym is) ((λ h g. let t : false ≡ true = sym f ∙ g in absurd (cc)), rest)
    at false e y f rest =
        let is : lower_keys r n (b ∷ bs) ≡ lower_keys r n bs = rw e refl in
        subst (λ (ks : List (List ℕ)). Listed r n ks (b ∷ bs)) (sym is) ((λ h g. let t : false ≡ true = sym e ∙ h in absurd (cc)), rest)

named_raised : (r : List ℕ → Bool) (n : ℕ) (keys : List (List ℕ)) (bs : Boundaries) → ((key : List ℕ) → list_any (λ k. bytes_eq k key) keys ≡ true → r key ≡ true) → Listed r n keys bs → map (named n keys) bs ≡ map (raised r n) bs
named_raised r n keys [] s l = refl
named_raised r n keys (b ∷ bs) s l =
    ap (λ x. named n keys b ∷ x) (named_raised r n keys bs s l.1)
    ∙ ap (λ v. (b.0, v) ∷ map (raised r n) bs) (one (list_any (λ k. bytes_eq k b.0.items) keys) refl (r b.0.items) refl)
  where
    one : (x : Bool) → list_any (λ k. bytes_eq k b.0.items) keys ≡ x → (y : Bool) → r b.0.items ≡ y → (if x then max b.1 n else b.1) ≡ (if y then max b.1 n else b.1)
    one true e true f = refl
    one false e false f = refl
    one true e false f = let t : true ≡ false = sym (s b.0.items e) ∙ f in absurd (cc)
    one false e true f = low (nat_lt b.1 n) refl
      where
        low : (z : Bool) → nat_lt b.1 n ≡ z → b.1 ≡ max b.1 n
        low true g = let t : false ≡ true = sym e ∙ l.0 f g in absurd (cc)
        low false g = let le : n ≤ b.1 = grind (arith, nat_tests, g) in omega arith

pub each_raised : (r : List ℕ → Bool) (n : ℕ) (ks : List (Vec ℕ Global)) (bs : Boundaries) → map (λ k. k.items) ks ≡ lower_keys r n bs → raised_each n ks bs ≡ map (raised r n) bs
each_raised r n ks bs is = each_named n ks bs ∙ (ap (λ keys. map (named n keys) bs) is ∙ named_raised r n (lower_keys r n bs) bs (λ key h. sound r n key bs h) (complete r n bs))

-- ---- which boundaries a range holds, as `range` asks

pub held_to : (from to key : List ℕ) → (is_le (cmp from key) && not (is_le (cmp to key))) ≡ holds (record { from = from; to = Some to }) key
held_to from to key = rw (le_not_before from key (is_le (cmp from key)) refl, le_not_before to key (is_le (cmp to key)) refl) (twice (is_le (cmp from key)) (is_le (cmp to key)))
  where
    twice : (x y : Bool) → (x && not y) ≡ (not (not x) && not y)
    twice true y = refl
    twice false y = refl

pub held_from : (from key : List ℕ) → (is_le (cmp from key) && true) ≡ holds (record { from = from; to = None }) key
held_from from key = rw (le_not_before from key (is_le (cmp from key)) refl) (twice (is_le (cmp from key)))
  where
    twice : (x : Bool) → (x && true) ≡ (not (not x) && true)
    twice true = refl
    twice false = refl

pub alike_filter : {X : Type 0} (p q : X → Bool) (xs : List X) → ((x : X) → p x ≡ q x) → filter p xs ≡ filter q xs
alike_filter {X = X} p q xs h = ap (λ (f : X → Bool). filter f xs) (λ i x. h x i)

-- what passes both tests passes the second of those that pass the first
and_so : {X : Type 0} (p q : X → Bool) (x : X) (xs : List X) (a b : Bool) → p x ≡ a → q x ≡ b → filter q (filter p xs) ≡ filter (λ y. p y && q y) xs
    → filter q (if a then x ∷ filter p xs else filter p xs) ≡ (if a && b then x ∷ filter (λ y. p y && q y) xs else filter (λ y. p y && q y) xs)
and_so p q x xs true true e f rest = rw f (ap (λ ys. x ∷ ys) rest)
and_so p q x xs true false e f rest = rw f rest
and_so p q x xs false b e f rest = rest

pub filter_both : {X : Type 0} (p q : X → Bool) (xs : List X) → filter q (filter p xs) ≡ filter (λ x. p x && q x) xs
filter_both p q [] = refl
filter_both p q (x ∷ xs) = and_so p q x xs (p x) (q x) refl refl (filter_both p q xs)

-- a range that runs backwards holds nothing
pub backwards : (from to key : List ℕ) → is_before from to ≡ false → holds (record { from = from; to = Some to }) key ≡ false
backwards from to key h = at (is_before key from) refl (is_before key to) refl
  where
    at : (x : Bool) → is_before key from ≡ x → (y : Bool) → is_before key to ≡ y → (not (is_before key from) && is_before key to) ≡ false
    at true e y f = rw e refl
    at false e false f = rw (e, f) refl
    at false e true f = let t : true ≡ false = sym (upto_before from key to e f) ∙ h in absurd (cc)

-- ---- comparisons of `Vec`s

pub agree : (a b : List ℕ) → slice_partial_cmp (λ x y. Some (nat_cmp x y)) a b ≡ Some (cmp a b)
agree = lists_agrees (λ x y. refl)

pub not_gt : (a b : List ℕ) → is_le (cmp b a) ≡ false → is_gt (cmp a b) ≡ false
not_gt a b h = at (cmp b a) refl
  where
    at : (o : Ordering) → cmp b a ≡ o → is_gt (cmp a b) ≡ false
    at Less e = let t : true ≡ false = sym (ap is_le e) ∙ h in absurd (cc)
    at Equal e = let t : true ≡ false = sym (ap is_le e) ∙ h in absurd (cc)
    at Greater e = ap is_gt (flipped b a Greater e)

-- what an answer is equal to
pub ok_along : {X E L : Type 0} (r : Result X E) (f : X → L) (a b : L) → a ≡ b → IfOk r (λ v. f v ≡ a) → IfOk r (λ v. f v ≡ b)
ok_along (Ok v) f a b e h = h ∙ e
ok_along (Err x) f a b e h = h
