-- Which mark stands over each key once the boundaries of a range are raised.
use Rattle.std.proofs.Common.{◌≡◌, ℕ, ◌≤◌, Bool, true, false, List, [], ◌∷◌, map, Option, None, Some, refl, ap, ◌∙◌, arith, ◌⊎◌, inl, inr}
use Rattle.std.specs.Prelude.{IsSome, Vec, max, if◌then◌else◌}
use Rattle.std.specs.Option.{option_map_or}
use Rattle.std.specs.List.{AllByRecursion as Each}
use Rattle.std.specs.BTreeMap.{is_at}
use Rattle.std.specs.Map.{lookup, keys_of}
use Rattle.std.specs.Ordering.{is_lt, is_le}
use Rattle.std.specs.declared.alloc.Global.{Global}
use Rattle.std.specs.declared.cmp.Ordering.{Ordering}
use Rattle.std.specs.declared.cmp.Ordering.TheVariants.{Less, Equal, Greater}
use Rattle.std.proofs.lemmas.Map.Keys.{sorted_head, sorted_tail}
use Rattle.mv_ranges.specs.Ranges.{Range, Boundaries, is_before, holds, last_mark}
use Rattle.mv_ranges.specs.Marks.{Marks, MayBegin, MayEnd, last_mark_below, mark_in, raised}
use Rattle.xa_model.proofs.KeyOrder.{cmp, before_Less, flipped, upto_before, before_asym}
use Rattle.mv_ranges.proofs.Boundaries.{keys_cmp, query, Ascending}

-- a range may begin at the key: it is one of the boundaries, or the mark over it is high enough
abbrev pub Begins : ℕ → List ℕ → ℕ → Boundaries → Type 0
Begins n key m bs = IsSome (lookup (is_at (query key)) bs) ⊎ (n ≤ last_mark m key bs)

-- a range may end at the key
abbrev pub Ends : ℕ → List ℕ → ℕ → Boundaries → Type 0
Ends n key m bs = IsSome (lookup (is_at (query key)) bs) ⊎ (n ≤ last_mark_below m key bs)

-- a boundary that the range doesn't hold stays
stays : (r : Range) (n : ℕ) (b : Vec ℕ Global × ℕ) → holds r b.0.items ≡ false → (raised (holds r) n b).1 ≡ b.1
stays r n b h = rw h refl

rises : (r : Range) (n : ℕ) (b : Vec ℕ Global × ℕ) → holds r b.0.items ≡ true → (raised (holds r) n b).1 ≡ max b.1 n
rises r n b h = rw h refl

before_from : (r : Range) (key : List ℕ) → is_before key r.from ≡ true → holds r key ≡ false
before_from r key h = rw h refl

past_to : (r : Range) (to key : List ℕ) → r.to ≡ Some to → is_before key to ≡ false → holds r key ≡ false
past_to r to key is h = at (is_before key r.from) refl
  where
    at : (x : Bool) → is_before key r.from ≡ x → holds r key ≡ false
    at true e = rw e refl
    at false e = rw (e, is, h) refl

-- ---- a key before the range

before_range : (r : Range) (n m : ℕ) (q : List ℕ) (bs : Boundaries) → is_before q r.from ≡ true → last_mark m q (map (raised (holds r) n) bs) ≡ last_mark m q bs
before_range r n m q [] h = refl
before_range r n m q (b ∷ bs) h = at (is_before q b.0.items) refl (before_range r n b.1 q bs h)
  where
    at : (x : Bool) → is_before q b.0.items ≡ x → last_mark b.1 q (map (raised (holds r) n) bs) ≡ last_mark b.1 q bs → last_mark m q (map (raised (holds r) n) (b ∷ bs)) ≡ last_mark m q (b ∷ bs)
    at true e rest = rw e refl
    at false e rest =
        let out : (raised (holds r) n b).1 ≡ b.1 = stays r n b (before_from r b.0.items (upto_before b.0.items q r.from e h)) in
        rw e (ap (λ v. last_mark v q (map (raised (holds r) n) bs)) out ∙ rest)

-- ---- a key after the range

all_past : (r : Range) (n m : ℕ) (q to : List ℕ) (bs : Boundaries) → r.to ≡ Some to → Each (λ k. is_before k.items to ≡ false) (keys_of bs) → last_mark m q (map (raised (holds r) n) bs) ≡ last_mark m q bs
all_past r n m q to [] is past = refl
all_past r n m q to (b ∷ bs) is past = at (is_before q b.0.items) refl (all_past r n b.1 q to bs is past.1)
  where
    at : (x : Bool) → is_before q b.0.items ≡ x → last_mark b.1 q (map (raised (holds r) n) bs) ≡ last_mark b.1 q bs → last_mark m q (map (raised (holds r) n) (b ∷ bs)) ≡ last_mark m q (b ∷ bs)
    at true e rest = rw e refl
    at false e rest =
        let out : (raised (holds r) n b).1 ≡ b.1 = stays r n b (past_to r to b.0.items is past.0) in
        rw e (ap (λ v. last_mark v q (map (raised (holds r) n) bs)) out ∙ rest)

-- the boundaries after one that isn't before the key aren't either
later_past : (to : List ℕ) (b : Vec ℕ Global) (bs : Boundaries) → is_before b.items to ≡ false → Each (λ y. keys_cmp b y ≡ Less) (keys_of bs) → Each (λ k. is_before k.items to ≡ false) (keys_of bs)
later_past to b [] h all = tt
later_past to b (c ∷ cs) h all =
    let t : is_before to c.0.items ≡ true = upto_before to b.items c.0.items h (ap is_lt all.0) in
    (before_asym to c.0.items t, later_past to b cs h all.1)

pub absent_after : (k : List ℕ) (b : Vec ℕ Global) (bs : Boundaries) → is_before b.items k ≡ false → Each (λ y. keys_cmp b y ≡ Less) (keys_of bs) → lookup (is_at (query k)) bs ≡ None
absent_after k b [] h all = refl
absent_after k b (c ∷ cs) h all =
    let t : cmp k c.0.items ≡ Less = before_Less k c.0.items (upto_before k b.items c.0.items h (ap is_lt all.0)) in
    rw t (absent_after k b cs h all.1)

-- a key below the first boundary is none of them
pub absent : (k : List ℕ) (b : Vec ℕ Global × ℕ) (bs : Boundaries) → is_before k b.0.items ≡ true → Ascending (b ∷ bs) → lookup (is_at (query k)) (b ∷ bs) ≡ None
absent k b bs h s = let t : cmp k b.0.items ≡ Less = before_Less k b.0.items h in rw t (absent_after k b.0 bs (before_asym k b.0.items h) (sorted_head keys_cmp b.0 (keys_of bs) s))

pub not_some : {X : Type 0} (o : Option X) → o ≡ None → IsSome o → ⊥
not_some None e h = cc
not_some (Some x) e h = cc

after_range : (r : Range) (n m m2 : ℕ) (q to : List ℕ) (bs : Boundaries) → r.to ≡ Some to → is_before q to ≡ false → Ascending bs → Ends n to m bs → (m2 ≡ m) ⊎ (m2 ≡ max m n) → last_mark m2 q (map (raised (holds r) n) bs) ≡ last_mark m q bs
after_range r n m m2 q to [] is h s (inl found) o = absurd (cc)
after_range r n m m2 q to [] is h s (inr high) (inl same) = same
after_range r n m m2 q to [] is h s (inr high) (inr more) = omega arith
after_range r n m m2 q to (b ∷ bs) is h s ends o = at (after_range r n b.1 (raised (holds r) n b).1 q to bs is h (sorted_tail keys_cmp b.0 (keys_of bs) s)) (is_before q b.0.items) refl
  where
    head : Each (λ y. keys_cmp b.0 y ≡ Less) (keys_of bs)
    head = sorted_head keys_cmp b.0 (keys_of bs) s

    high : is_before to b.0.items ≡ true → Ends n to m (b ∷ bs) → n ≤ m
    high t (inl found) = absurd (not_some _ (absent to b bs t s) found)
    high t (inr le) =
        let below : is_le (cmp to b.0.items) ≡ true = ap is_le (before_Less to b.0.items t) in
        rw below at le

    same : n ≤ m → (m2 ≡ m) ⊎ (m2 ≡ max m n) → m2 ≡ m
    same le (inl e) = e
    same le (inr e) = omega arith

    later : cmp to b.0.items ≡ Greater → Ends n to m (b ∷ bs) → Ends n to b.1 bs
    later e (inl found) = inl (rw e at found)
    later e (inr le) = inr (rw e at le)

    inside : (x : Bool) → holds r b.0.items ≡ x → ((raised (holds r) n b).1 ≡ b.1) ⊎ ((raised (holds r) n b).1 ≡ max b.1 n)
    inside true e = inr (rises r n b e)
    inside false e = inl (stays r n b e)

    past : is_before b.0.items to ≡ false → last_mark (raised (holds r) n b).1 q (map (raised (holds r) n) bs) ≡ last_mark b.1 q bs
    past e =
        let out : (raised (holds r) n b).1 ≡ b.1 = stays r n b (past_to r to b.0.items is e) in
        ap (λ v. last_mark v q (map (raised (holds r) n) bs)) out ∙ all_past r n b.1 q to bs is (later_past to b.0 bs e head)

    by : (Ends n to b.1 bs → ((raised (holds r) n b).1 ≡ b.1) ⊎ ((raised (holds r) n b).1 ≡ max b.1 n) → last_mark (raised (holds r) n b).1 q (map (raised (holds r) n) bs) ≡ last_mark b.1 q bs) → (d : Ordering) → cmp to b.0.items ≡ d → last_mark (raised (holds r) n b).1 q (map (raised (holds r) n) bs) ≡ last_mark b.1 q bs
    by rest Less e = past (ap is_lt (flipped to b.0.items Less e))
    by rest Equal e = past (ap is_lt (flipped to b.0.items Equal e))
    by rest Greater e = rest (later e ends) (inside (holds r b.0.items) refl)

    at : (Ends n to b.1 bs → ((raised (holds r) n b).1 ≡ b.1) ⊎ ((raised (holds r) n b).1 ≡ max b.1 n) → last_mark (raised (holds r) n b).1 q (map (raised (holds r) n) bs) ≡ last_mark b.1 q bs) → (x : Bool) → is_before q b.0.items ≡ x → last_mark m2 q (map (raised (holds r) n) (b ∷ bs)) ≡ last_mark m q (b ∷ bs)
    at rest true e = rw e (same (high (upto_before to q b.0.items h e) ends) o)
    at rest false e = rw e (by rest (cmp to b.0.items) refl)

-- ---- a key of the range

-- what isn't after a key before the end is before the end
sooner : (b q : List ℕ) (to : Option (List ℕ)) → is_before q b ≡ false → option_map_or (is_before q) to true ≡ true → option_map_or (is_before b) to true ≡ true
sooner b q None h t = refl
sooner b q (Some to) h t = upto_before b q to h t

held : (r : Range) (key : List ℕ) → is_before key r.from ≡ false → option_map_or (is_before key) r.to true ≡ true → holds r key ≡ true
held r key h t = rw (h, t) refl

in_range : (r : Range) (n m : ℕ) (q : List ℕ) (bs : Boundaries) → option_map_or (is_before q) r.to true ≡ true → Each (λ k. is_before k.items r.from ≡ false) (keys_of bs) → last_mark (max m n) q (map (raised (holds r) n) bs) ≡ max (last_mark m q bs) n
in_range r n m q [] t all = refl
in_range r n m q (b ∷ bs) t all = at (is_before q b.0.items) refl (in_range r n b.1 q bs t all.1)
  where
    at : (x : Bool) → is_before q b.0.items ≡ x → last_mark (max b.1 n) q (map (raised (holds r) n) bs) ≡ max (last_mark b.1 q bs) n → last_mark (max m n) q (map (raised (holds r) n) (b ∷ bs)) ≡ max (last_mark m q (b ∷ bs)) n
    at true e rest = rw e refl
    at false e rest =
        let up : (raised (holds r) n b).1 ≡ max b.1 n = rises r n b (held r b.0.items all.0 (sooner b.0.items q r.to e t)) in
        rw e (ap (λ v. last_mark v q (map (raised (holds r) n) bs)) up ∙ rest)

begun : (r : Range) (n m : ℕ) (q : List ℕ) (bs : Boundaries) → is_before q r.from ≡ false → option_map_or (is_before q) r.to true ≡ true → Ascending bs → Begins n r.from m bs → last_mark m q (map (raised (holds r) n) bs) ≡ max (last_mark m q bs) n
begun r n m q [] h t s (inl found) = absurd (cc)
begun r n m q [] h t s (inr high) = omega arith
begun r n m q (b ∷ bs) h t s begins = at (begun r n b.1 q bs h t (sorted_tail keys_cmp b.0 (keys_of bs) s)) (is_before q b.0.items) refl
  where
    head : Each (λ y. keys_cmp b.0 y ≡ Less) (keys_of bs)
    head = sorted_head keys_cmp b.0 (keys_of bs) s

    high : is_before r.from b.0.items ≡ true → Begins n r.from m (b ∷ bs) → n ≤ m
    high e (inl found) = absurd (not_some _ (absent r.from b bs e s) found)
    high e (inr le) = rw e at le

    later : cmp r.from b.0.items ≡ Greater → Begins n r.from m (b ∷ bs) → Begins n r.from b.1 bs
    later e (inl found) = inl (rw e at found)
    later e (inr le) = inr (rw e at le)

    inside : is_before q b.0.items ≡ false → is_before b.0.items r.from ≡ false → last_mark (raised (holds r) n b).1 q (map (raised (holds r) n) bs) ≡ max (last_mark b.1 q bs) n
    inside e f =
        let up : (raised (holds r) n b).1 ≡ max b.1 n = rises r n b (held r b.0.items f (sooner b.0.items q r.to e t)) in
        ap (λ v. last_mark v q (map (raised (holds r) n) bs)) up ∙ in_range r n b.1 q bs t (later_past r.from b.0 bs f head)

    by : (Begins n r.from b.1 bs → last_mark b.1 q (map (raised (holds r) n) bs) ≡ max (last_mark b.1 q bs) n) → is_before q b.0.items ≡ false → (d : Ordering) → cmp r.from b.0.items ≡ d → last_mark (raised (holds r) n b).1 q (map (raised (holds r) n) bs) ≡ max (last_mark b.1 q bs) n
    by rest e Less d = inside e (ap is_lt (flipped r.from b.0.items Less d))
    by rest e Equal d = inside e (ap is_lt (flipped r.from b.0.items Equal d))
    by rest e Greater d =
        let out : (raised (holds r) n b).1 ≡ b.1 = stays r n b (before_from r b.0.items (ap is_lt (flipped r.from b.0.items Greater d))) in
        ap (λ v. last_mark v q (map (raised (holds r) n) bs)) out ∙ rest (later d begins)

    at : (Begins n r.from b.1 bs → last_mark b.1 q (map (raised (holds r) n) bs) ≡ max (last_mark b.1 q bs) n) → (x : Bool) → is_before q b.0.items ≡ x → last_mark m q (map (raised (holds r) n) (b ∷ bs)) ≡ max (last_mark m q (b ∷ bs)) n
    at rest true e = let le : n ≤ m = high (upto_before r.from q b.0.items h e) begins in rw e (omega arith)
    at rest false e = rw e (by rest e (cmp r.from b.0.items) refl)

-- ---- each key

-- the mark over a key once the range is raised
abbrev pub reached : Range → ℕ → List ℕ → ℕ → ℕ
reached r n q m = if holds r q then max m n else m

pub range_raised : (r : Range) (n : ℕ) (q : List ℕ) (marks : Marks) → Ascending marks.entries → MayBegin n r.from marks → MayEnd n r.to marks → last_mark 0 q (map (raised (holds r) n) marks.entries) ≡ reached r n q (mark_in q marks)
range_raised r n q marks s begins ends = at (is_before q r.from) refl
  where
    among : is_before q r.from ≡ false → option_map_or (is_before q) r.to true ≡ true → last_mark 0 q (map (raised (holds r) n) marks.entries) ≡ reached r n q (mark_in q marks)
    among e t = let h : holds r q ≡ true = held r q e t in rw h (begun r n 0 q marks.entries e t s begins)

    past : (to : List ℕ) → r.to ≡ Some to → MayEnd n (Some to) marks → is_before q to ≡ false → last_mark 0 q (map (raised (holds r) n) marks.entries) ≡ reached r n q (mark_in q marks)
    past to is end f = let h : holds r q ≡ false = past_to r to q is f in rw h (after_range r n 0 0 q to marks.entries is f s end (inl refl))

    by : is_before q r.from ≡ false → (to : Option (List ℕ)) → r.to ≡ to → MayEnd n to marks → last_mark 0 q (map (raised (holds r) n) marks.entries) ≡ reached r n q (mark_in q marks)
    by e None is end = among e (ap (λ o. option_map_or (is_before q) o true) is)
    by e (Some to) is end = split (is_before q to) refl
      where
        split : (x : Bool) → is_before q to ≡ x → last_mark 0 q (map (raised (holds r) n) marks.entries) ≡ reached r n q (mark_in q marks)
        split true f = among e (ap (λ o. option_map_or (is_before q) o true) is ∙ f)
        split false f = past to is end f

    at : (x : Bool) → is_before q r.from ≡ x → last_mark 0 q (map (raised (holds r) n) marks.entries) ≡ reached r n q (mark_in q marks)
    at true e = let h : holds r q ≡ false = before_from r q e in rw h (before_range r n 0 q marks.entries e)
    at false e = by e r.to refl ends
