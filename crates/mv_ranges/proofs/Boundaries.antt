-- Which mark stands over a key once a boundary is put, dropped or raised.
use Rattle.std.proofs.Common.{◌≡◌, ℕ, Bool, true, false, List, [], ◌∷◌, ◌++◌, None, Some, refl, sym, ap, ◌∙◌}
use Rattle.std.specs.Prelude.{not, IsSome, Vec, max}
use Rattle.std.specs.List.{AllByRecursion as Each, filter}
use Rattle.std.specs.List.Sorted.{IsStrictlySortedBy}
use Rattle.std.specs.BTreeMap.{insert_entry, is_at}
use Rattle.std.specs.Map.{lookup, remove_entry, keys_of}
use Rattle.std.specs.Cmp.Lexicographic.{slice_cmp}
use Rattle.std.specs.Ordering.{nat_cmp, is_lt, is_le}
use Rattle.std.specs.declared.alloc.Global.{Global}
use Rattle.std.specs.declared.cmp.Ordering.{Ordering}
use Rattle.std.specs.declared.cmp.Ordering.TheVariants.{Less, Equal, Greater}
use Rattle.std.proofs.lemmas.Map.Keys.{sorted_head, sorted_tail}
use Rattle.mv_ranges.specs.Ranges.{Boundaries, is_before, last_mark}
use Rattle.mv_ranges.specs.Marks.{last_mark_below}
use Rattle.xa_model.proofs.KeyOrder.{cmp, before_Less, before_trans, upto_before, le_not_before}

-- the order of a map's keys
abbrev pub keys_cmp : Vec ℕ Global → Vec ℕ Global → Ordering
keys_cmp x y = slice_cmp nat_cmp x.items y.items

abbrev pub query : List ℕ → Vec ℕ Global → Ordering
query key k = slice_cmp nat_cmp key k.items

abbrev pub Ascending : Boundaries → Type 0
Ascending bs = IsStrictlySortedBy keys_cmp (keys_of bs)

-- a key that is below the first boundary
pub none_upto : (m : ℕ) (q : List ℕ) (k : Vec ℕ Global) (bs : Boundaries) → is_before q k.items ≡ true → Each (λ y. keys_cmp k y ≡ Less) (keys_of bs) → last_mark m q bs ≡ m
none_upto m q k [] h all = refl
none_upto m q k (b ∷ bs) h all = let t : is_before q b.0.items ≡ true = before_trans q k.items b.0.items h (ap is_lt all.0) in rw t refl

-- a new boundary with the mark that stands over its key
pub mark_put : (m : ℕ) (q : List ℕ) (k : Vec ℕ Global) (bs : Boundaries) → lookup (is_at (keys_cmp k)) bs ≡ None → last_mark m q (insert_entry keys_cmp bs k (last_mark m k.items bs)) ≡ last_mark m q bs
mark_put m q k [] none = at (is_before q k.items) refl
  where
    at : (x : Bool) → is_before q k.items ≡ x → last_mark m q ((k, m) ∷ []) ≡ m
    at true e = rw e refl
    at false e = rw e refl
mark_put m q k (b ∷ bs) none = at (cmp k.items b.0.items) refl (mark_put b.1 q k bs)
  where
    at : (o : Ordering) → cmp k.items b.0.items ≡ o → (lookup (is_at (keys_cmp k)) bs ≡ None → last_mark b.1 q (insert_entry keys_cmp bs k (last_mark b.1 k.items bs)) ≡ last_mark b.1 q bs) → last_mark m q (insert_entry keys_cmp (b ∷ bs) k (last_mark m k.items (b ∷ bs))) ≡ last_mark m q (b ∷ bs)
    at Less o rest = rw o (by (is_before q k.items) refl)
      where
        by : (x : Bool) → is_before q k.items ≡ x → last_mark m q ((k, m) ∷ b ∷ bs) ≡ last_mark m q (b ∷ bs)
        by true e = let t : is_before q b.0.items ≡ true = before_trans q k.items b.0.items e (ap is_lt o) in rw (e, t) refl
        by false e = rw e refl
    at Equal o rest = let t : Some b.1 ≡ None = rw o at none in absurd (cc)
    at Greater o rest =
        let later : lookup (is_at (keys_cmp k)) bs ≡ None = rw o at none in
        rw (o, rest later) refl

-- what is found is found after another is put
pub found_kept : (q : List ℕ) (k : Vec ℕ Global) (v : ℕ) (bs : Boundaries) → IsSome (lookup (is_at (query q)) bs) → IsSome (lookup (is_at (query q)) (insert_entry keys_cmp bs k v))
found_kept q k v [] is = absurd (cc)
found_kept q k v (b ∷ bs) is = at (cmp k.items b.0.items) refl (found_kept q k v bs)
  where
    at : (o : Ordering) → cmp k.items b.0.items ≡ o → (IsSome (lookup (is_at (query q)) bs) → IsSome (lookup (is_at (query q)) (insert_entry keys_cmp bs k v))) → IsSome (lookup (is_at (query q)) (insert_entry keys_cmp (b ∷ bs) k v))
    at Less o rest = rw o (by (is_at (query q) k) refl)
      where
        by : (x : Bool) → is_at (query q) k ≡ x → IsSome (lookup (is_at (query q)) ((k, v) ∷ b ∷ bs))
        by true e = rw e refl
        by false e = rw e is
    at Equal o rest = rw o (by (is_at (query q) b.0) refl)
      where
        by : (x : Bool) → is_at (query q) b.0 ≡ x → IsSome (lookup (is_at (query q)) ((b.0, v) ∷ bs))
        by true e = rw e refl
        by false e = rw e (rw e at is)
    at Greater o rest = rw o (by (is_at (query q) b.0) refl)
      where
        by : (x : Bool) → is_at (query q) b.0 ≡ x → IsSome (lookup (is_at (query q)) (b ∷ insert_entry keys_cmp bs k v))
        by true e = rw e refl
        by false e = rw e (rest (rw e at is))

-- ---- a boundary that is dropped

none_found : (k b : Vec ℕ Global) (bs : Boundaries) → cmp k.items b.items ≡ Less → Each (λ y. keys_cmp b y ≡ Less) (keys_of bs) → lookup (is_at (query k.items)) bs ≡ None
none_found k b [] h all = refl
none_found k b (c ∷ cs) h all =
    let t : cmp k.items c.0.items ≡ Less = before_Less k.items c.0.items (before_trans k.items b.items c.0.items (ap is_lt h) (ap is_lt all.0)) in
    rw t (none_found k b cs h all.1)

-- two marks that are alike above the low water
alike : (low m v : ℕ) (q : List ℕ) (bs : Boundaries) → max low m ≡ max low v → max low (last_mark m q bs) ≡ max low (last_mark v q bs)
alike low m v q [] h = h
alike low m v q (b ∷ bs) h = at (is_before q b.0.items) refl
  where
    at : (x : Bool) → is_before q b.0.items ≡ x → max low (last_mark m q (b ∷ bs)) ≡ max low (last_mark v q (b ∷ bs))
    at true e = rw e h
    at false e = rw e refl

pub mark_dropped : (low m v : ℕ) (q : List ℕ) (k : Vec ℕ Global) (bs : Boundaries) → Ascending bs → lookup (is_at (keys_cmp k)) bs ≡ Some v → max low (last_mark_below m k.items bs) ≡ max low v → max low (last_mark m q (remove_entry (is_at (keys_cmp k)) bs)) ≡ max low (last_mark m q bs)
mark_dropped low m v q k [] s found h = refl
mark_dropped low m v q k (b ∷ bs) s found h = at (cmp k.items b.0.items) refl (mark_dropped low b.1 v q k bs (sorted_tail keys_cmp b.0 (keys_of bs) s))
  where
    head : Each (λ y. keys_cmp b.0 y ≡ Less) (keys_of bs)
    head = sorted_head keys_cmp b.0 (keys_of bs) s

    at : (o : Ordering) → cmp k.items b.0.items ≡ o → (lookup (is_at (keys_cmp k)) bs ≡ Some v → max low (last_mark_below b.1 k.items bs) ≡ max low v → max low (last_mark b.1 q (remove_entry (is_at (keys_cmp k)) bs)) ≡ max low (last_mark b.1 q bs)) → max low (last_mark m q (remove_entry (is_at (keys_cmp k)) (b ∷ bs))) ≡ max low (last_mark m q (b ∷ bs))
    at Less o rest =
        let there : lookup (is_at (keys_cmp k)) bs ≡ Some v = rw o at found in
        let t : None ≡ Some v = sym (none_found k b.0 bs o head) ∙ there in
        absurd (cc)
    at Equal o rest =
        let there : Some b.1 ≡ Some v = rw o at found in
        let same : b.1 ≡ v = cc in
        let marks : max low m ≡ max low v = rw o at h in
        rw o (by marks same (is_before q b.0.items) refl)
      where
        by : max low m ≡ max low v → b.1 ≡ v → (x : Bool) → is_before q b.0.items ≡ x → max low (last_mark m q bs) ≡ max low (last_mark m q (b ∷ bs))
        by marks same true e = rw e (ap (max low) (none_upto m q b.0 bs e head))
        by marks same false e = rw (e, same) (alike low m v q bs marks)
    at Greater o rest =
        let there : lookup (is_at (keys_cmp k)) bs ≡ Some v = rw o at found in
        let marks : max low (last_mark_below b.1 k.items bs) ≡ max low v = rw o at h in
        rw o (by (rest there marks) (is_before q b.0.items) refl)
      where
        by : max low (last_mark b.1 q (remove_entry (is_at (keys_cmp k)) bs)) ≡ max low (last_mark b.1 q bs) → (x : Bool) → is_before q b.0.items ≡ x → max low (last_mark m q (b ∷ remove_entry (is_at (keys_cmp k)) bs)) ≡ max low (last_mark m q (b ∷ bs))
        by rest true e = rw e refl
        by rest false e = rw e rest

-- ---- what `range` finds last

abbrev last_in : ℕ → Boundaries → ℕ
last_in m [] = m
last_in m (b ∷ bs) = last_in b.1 bs

last_in-end : (m : ℕ) (t : Boundaries) (e : Vec ℕ Global × ℕ) → last_in m (t ++ e ∷ []) ≡ e.1
last_in-end m [] e = refl
last_in-end m (b ∷ t) e = last_in-end b.1 t e

abbrev pub upto : Vec ℕ Global → Boundaries → Boundaries
upto k bs = filter (λ b. not (is_lt (keys_cmp k b.0))) bs

abbrev pub under : Vec ℕ Global → Boundaries → Boundaries
under k bs = filter (λ b. not (is_le (keys_cmp k b.0))) bs

none_left_upto : (k b : Vec ℕ Global) (bs : Boundaries) → is_before k.items b.items ≡ true → Each (λ y. keys_cmp b y ≡ Less) (keys_of bs) → upto k bs ≡ []
none_left_upto k b [] h all = refl
none_left_upto k b (c ∷ cs) h all =
    let t : is_before k.items c.0.items ≡ true = before_trans k.items b.items c.0.items h (ap is_lt all.0) in
    rw t (none_left_upto k b cs h all.1)

none_left_under : (k b : Vec ℕ Global) (bs : Boundaries) → is_before b.items k.items ≡ false → Each (λ y. keys_cmp b y ≡ Less) (keys_of bs) → under k bs ≡ []
none_left_under k b [] h all = refl
none_left_under k b (c ∷ cs) h all =
    let t : cmp k.items c.0.items ≡ Less = before_Less k.items c.0.items (upto_before k.items b.items c.0.items h (ap is_lt all.0)) in
    rw t (none_left_under k b cs h all.1)

upto_last : (m : ℕ) (k : Vec ℕ Global) (bs : Boundaries) → Ascending bs → last_mark m k.items bs ≡ last_in m (upto k bs)
upto_last m k [] s = refl
upto_last m k (b ∷ bs) s = at (is_before k.items b.0.items) refl (upto_last b.1 k bs (sorted_tail keys_cmp b.0 (keys_of bs) s))
  where
    at : (x : Bool) → is_before k.items b.0.items ≡ x → last_mark b.1 k.items bs ≡ last_in b.1 (upto k bs) → last_mark m k.items (b ∷ bs) ≡ last_in m (upto k (b ∷ bs))
    at true e rest = rw (e, none_left_upto k b.0 bs e (sorted_head keys_cmp b.0 (keys_of bs) s)) refl
    at false e rest = rw e rest

under_last : (m : ℕ) (k : Vec ℕ Global) (bs : Boundaries) → Ascending bs → last_mark_below m k.items bs ≡ last_in m (under k bs)
under_last m k [] s = refl
under_last m k (b ∷ bs) s = at (is_le (cmp k.items b.0.items)) refl (under_last b.1 k bs (sorted_tail keys_cmp b.0 (keys_of bs) s))
  where
    at : (x : Bool) → is_le (cmp k.items b.0.items) ≡ x → last_mark_below b.1 k.items bs ≡ last_in b.1 (under k bs) → last_mark_below m k.items (b ∷ bs) ≡ last_in m (under k (b ∷ bs))
    at true e rest = rw (e, none_left_under k b.0 bs (le_not_before k.items b.0.items true e) (sorted_head keys_cmp b.0 (keys_of bs) s)) refl
    at false e rest = rw e rest

pub over_found : (k : Vec ℕ Global) (bs r t : Boundaries) (e : Vec ℕ Global × ℕ) → Ascending bs → r ≡ upto k bs → r ≡ t ++ e ∷ [] → e.1 ≡ last_mark 0 k.items bs
over_found k bs r t e s is ends = sym (last_in-end 0 t e) ∙ (ap (last_in 0) (sym ends ∙ is) ∙ sym (upto_last 0 k bs s))

pub over_none : (k : Vec ℕ Global) (bs r : Boundaries) → Ascending bs → r ≡ upto k bs → r ≡ [] → 0 ≡ last_mark 0 k.items bs
over_none k bs r s is none = ap (last_in 0) (sym none ∙ is) ∙ sym (upto_last 0 k bs s)

pub below_found : (k : Vec ℕ Global) (bs r t : Boundaries) (e : Vec ℕ Global × ℕ) → Ascending bs → r ≡ under k bs → r ≡ t ++ e ∷ [] → e.1 ≡ last_mark_below 0 k.items bs
below_found k bs r t e s is ends = sym (last_in-end 0 t e) ∙ (ap (last_in 0) (sym ends ∙ is) ∙ sym (under_last 0 k bs s))

pub below_none : (k : Vec ℕ Global) (bs r : Boundaries) → Ascending bs → r ≡ under k bs → r ≡ [] → 0 ≡ last_mark_below 0 k.items bs
below_none k bs r s is none = ap (last_in 0) (sym none ∙ is) ∙ sym (under_last 0 k bs s)
