-- Which mark stands over each key once the boundaries of a range are raised, but for some keys that are ranges of their own.
use Rattle.std.proofs.Common.{◌≡◌, ℕ, zero, suc, Bool, true, false, not, List, [], ◌∷◌, map, Option, None, Some, refl, sym, ap, ◌∙◌, subst, arith}
use Rattle.std.specs.Prelude.{IsSome, Vec, max, ◌&&◌, ◌||◌, if◌then◌else◌, bytes_eq}
use Rattle.std.specs.Option.{option_map_or, unwrap_or}
use Rattle.std.specs.List.{AllByRecursion as Each}
use Rattle.std.specs.BTreeMap.{is_at}
use Rattle.std.specs.Map.{lookup, keys_of}
use Rattle.std.specs.Cmp.Lexicographic.{slice_cmp}
use Rattle.std.specs.Ordering.{nat_cmp, is_eq, is_lt, ordering_then, ordering_reverse}
use Rattle.std.specs.declared.alloc.Global.{Global}
use Rattle.std.specs.declared.cmp.Ordering.{Ordering}
use Rattle.std.specs.declared.cmp.Ordering.TheVariants.{Less, Equal, Greater}
use Rattle.std.proofs.lemmas.Bool.Decides.{nat_tests}
use Rattle.std.proofs.lemmas.Cmp.{nat_cmp_total}
use Rattle.std.proofs.lemmas.Map.Keys.{sorted_head, sorted_tail}
use Rattle.std.proofs.lemmas.Map.Text.{is_eq-slice_cmp}
use Rattle.std.proofs.lemmas.Slice.Eq.{bytes_eq-Decides}
use Rattle.mv_ranges.specs.Ranges.{Range, Boundaries, is_before, is_one, holds, holds_but, last_mark, walked}
use Rattle.mv_ranges.specs.Marks.{Marks, IsApart, IsBoundary, KeepsBoundaries, MayBegin, MayEnd, after, mark_in, raised}
use Rattle.xa_model.proofs.KeyOrder.{cmp, upto_before, before_asym, not_before_itself, flipped}
use Rattle.mv_ranges.proofs.Boundaries.{keys_cmp, query, Ascending}
use Rattle.mv_ranges.proofs.Raised.{absent, not_some, range_raised, reached}

-- the key right after another

next_of : (k q : List ℕ) → is_before q (after k) ≡ true → is_before k q ≡ false
next_of [] [] e = refl
next_of [] (zero ∷ []) e = absurd (cc e)
next_of [] (zero ∷ x ∷ xs) e = absurd (cc e)
next_of [] (suc n ∷ xs) e = absurd (cc (above_zero, e))
  where
    above_zero : nat_cmp (suc n) 0 ≡ Greater
    above_zero = grind (arith, nat_tests)
next_of (y ∷ ys) [] e = refl
next_of (y ∷ ys) (x ∷ xs) e = at (nat_cmp x y) refl e (next_of ys xs)
  where
    back : nat_cmp y x ≡ ordering_reverse (nat_cmp x y)
    back = nat_cmp_total.antisymm y x

    at : (o : Ordering) → nat_cmp x y ≡ o → is_lt (ordering_then o (slice_cmp nat_cmp xs (after ys))) ≡ true
        → (is_before xs (after ys) ≡ true → is_before ys xs ≡ false)
        → is_lt (ordering_then (nat_cmp y x) (slice_cmp nat_cmp ys xs)) ≡ false
    at Less f e rest = ap (λ (p : Ordering). is_lt (ordering_then p (slice_cmp nat_cmp ys xs))) (back ∙ ap ordering_reverse f)
    at Equal f e rest = ap (λ (p : Ordering). is_lt (ordering_then p (slice_cmp nat_cmp ys xs))) (back ∙ ap ordering_reverse f) ∙ rest e
    at Greater f e rest = absurd (cc e)

before_after : (k : List ℕ) → is_before k (after k) ≡ true
before_after [] = refl
before_after (x ∷ xs) = at (nat_cmp x x) refl (before_after xs)
  where
    same : nat_cmp x x ≡ Equal
    same = grind (arith, nat_tests)

    at : (o : Ordering) → nat_cmp x x ≡ o → is_before xs (after xs) ≡ true → is_lt (ordering_then o (slice_cmp nat_cmp xs (after xs))) ≡ true
    at Less e rest = refl
    at Equal e rest = rest
    at Greater e rest = absurd (cc (e, same))

-- neither of two keys is before the other
neither : (a b : List ℕ) → is_before a b ≡ false → is_before b a ≡ false → a ≡ b
neither a b e f = at (cmp a b) refl
  where
    at : (o : Ordering) → cmp a b ≡ o → a ≡ b
    at Less g = absurd (cc (ap is_lt g, e))
    at Equal g = (bytes_eq-Decides a b).0 (sym (is_eq-slice_cmp a b) ∙ ap is_eq g)
    at Greater g = absurd (cc (ap is_lt (flipped a b Greater g), f))

-- the last boundary that isn't after a key

abbrev last_in : List ℕ → Boundaries → Option (Vec ℕ Global × ℕ)
last_in q [] = None
last_in q (b ∷ bs) = if is_before q b.0.items then None else Some (unwrap_or (last_in q bs) b)

-- the mark over a key is its mark
mark_of : (g : Vec ℕ Global × ℕ → ℕ) (m : ℕ) (q : List ℕ) (bs : Boundaries)
    → last_mark m q (map (λ b. (b.0, g b)) bs) ≡ option_map_or g (last_in q bs) m
mark_of g m q [] = refl
mark_of g m q (b ∷ bs) = at (is_before q b.0.items) (last_in q bs) refl (mark_of g (g b) q bs)
  where
    at : (c : Bool) (o : Option (Vec ℕ Global × ℕ)) → last_in q bs ≡ o → last_mark (g b) q (map (λ b. (b.0, g b)) bs) ≡ option_map_or g (last_in q bs) (g b)
        → (if c then m else last_mark (g b) q (map (λ b. (b.0, g b)) bs)) ≡ option_map_or g (if c then None else Some (unwrap_or (last_in q bs) b)) m
    at true o e rest = refl
    at false None e rest = rest ∙ (rw e refl)
    at false (Some x) e rest = rest ∙ (rw e refl)

plain_mark : (m : ℕ) (q : List ℕ) (bs : Boundaries) → last_mark m q bs ≡ option_map_or (λ b. b.1) (last_in q bs) m
plain_mark m q bs = ap (last_mark m q) (same bs) ∙ mark_of (λ b. b.1) m q bs
  where
    same : (bs : Boundaries) → bs ≡ map (λ b. (b.0, b.1)) bs
    same [] = refl
    same (b ∷ bs) = ap (λ x. b ∷ x) (same bs)

-- it isn't after the key
last_upto : (q : List ℕ) (b : Vec ℕ Global × ℕ) (bs : Boundaries) → last_in q bs ≡ Some b → is_before q b.0.items ≡ false
last_upto q b [] e = absurd (cc e)
last_upto q b (c ∷ cs) e = at (is_before q c.0.items) (last_in q cs) refl refl e (last_upto q b cs)
  where
    at : (x : Bool) (o : Option (Vec ℕ Global × ℕ)) → is_before q c.0.items ≡ x → last_in q cs ≡ o → (if x then None else Some (unwrap_or o c)) ≡ Some b
        → (last_in q cs ≡ Some b → is_before q b.0.items ≡ false) → is_before q b.0.items ≡ false
    at true o f g h rest = absurd (cc h)
    at false None f g h rest = let is : c ≡ b = cc h in subst (λ (y : Vec ℕ Global × ℕ). is_before q y.0.items ≡ false) is f
    at false (Some y) f g h rest = let is : y ≡ b = cc h in rest (g ∙ ap (λ (z : Vec ℕ Global × ℕ). Some z) is)

-- what holds of the boundaries holds of it
last_each : (P : Vec ℕ Global → Type 0) (q : List ℕ) (b : Vec ℕ Global × ℕ) (bs : Boundaries) → Each P (keys_of bs) → last_in q bs ≡ Some b → P b.0
last_each P q b [] h e = absurd (cc e)
last_each P q b (c ∷ cs) h e = at (is_before q c.0.items) (last_in q cs) refl e (last_each P q b cs h.1)
  where
    at : (x : Bool) (o : Option (Vec ℕ Global × ℕ)) → last_in q cs ≡ o → (if x then None else Some (unwrap_or o c)) ≡ Some b → (last_in q cs ≡ Some b → P b.0) → P b.0
    at true o g f rest = absurd (cc f)
    at false None g f rest = let is : c ≡ b = cc f in subst (λ (y : Vec ℕ Global × ℕ). P y.0) is h.0
    at false (Some y) g f rest = let is : y ≡ b = cc f in rest (g ∙ ap (λ (z : Vec ℕ Global × ℕ). Some z) is)

-- where a boundary isn't after the key, there is a last one
some_last : (q k : List ℕ) (ds : Boundaries) → Ascending ds → IsSome (lookup (is_at (query k)) ds) → is_before q k ≡ false → last_in q ds ≡ None → ⊥
some_last q k [] s found upto e = cc
some_last q k (d ∷ ds) s found upto e = at (is_before q d.0.items) refl e
  where
    at : (x : Bool) → is_before q d.0.items ≡ x → (if x then None else Some (unwrap_or (last_in q ds) d)) ≡ None → ⊥
    at true f g = not_some (lookup (is_at (query k)) (d ∷ ds)) (absent k d ds (upto_before k q d.0.items upto f) s) found
    at false f g = cc g

-- a boundary that isn't after the key isn't after it either
last_is_last : (q k : List ℕ) (b : Vec ℕ Global × ℕ) (bs : Boundaries) → Ascending bs → IsSome (lookup (is_at (query k)) bs) → is_before q k ≡ false
    → last_in q bs ≡ Some b
    → is_before b.0.items k ≡ false
last_is_last q k b [] s found upto e = absurd (cc e)
last_is_last q k b (c ∷ cs) s found upto e =
    at (cmp k c.0.items) refl (last_is_last q k b cs (sorted_tail keys_cmp c.0 (keys_of cs) s))
  where
    head : Each (λ y. keys_cmp c.0 y ≡ Less) (keys_of cs)
    head = sorted_head keys_cmp c.0 (keys_of cs) s

    not_below : (ks : List (Vec ℕ Global)) → Each (λ y. keys_cmp c.0 y ≡ Less) ks → Each (λ y. is_before y.items c.0.items ≡ false) ks
    not_below [] h = tt
    not_below (y ∷ ys) h = (before_asym c.0.items y.items (ap is_lt h.0), not_below ys h.1)

    later : (x : Bool) (o : Option (Vec ℕ Global × ℕ)) → last_in q cs ≡ o → (if x then None else Some (unwrap_or o c)) ≡ Some b
        → IsSome (lookup (is_at (query k)) cs)
        → (IsSome (lookup (is_at (query k)) cs) → is_before q k ≡ false → last_in q cs ≡ Some b → is_before b.0.items k ≡ false)
        → is_before b.0.items k ≡ false
    later true o f g there rest = absurd (cc g)
    later false None f g there rest = absurd (some_last q k cs (sorted_tail keys_cmp c.0 (keys_of cs) s) there upto f)
    later false (Some y) f g there rest =
        let is : y ≡ b = cc g in rest there upto (f ∙ ap (λ (z : Vec ℕ Global × ℕ). Some z) is)

    at : (p : Ordering) → cmp k c.0.items ≡ p
        → (IsSome (lookup (is_at (query k)) cs) → is_before q k ≡ false → last_in q cs ≡ Some b → is_before b.0.items k ≡ false)
        → is_before b.0.items k ≡ false
    at Less f rest = absurd (not_some (lookup (is_at (query k)) (c ∷ cs)) (absent k c cs (ap is_lt f) s) found)
    at Equal f rest =
        let is : k ≡ c.0.items = (bytes_eq-Decides k c.0.items).0 (sym (is_eq-slice_cmp k c.0.items) ∙ ap is_eq f) in
        let upto_c : is_before b.0.items c.0.items ≡ false =
        last_each (λ y. is_before y.items c.0.items ≡ false) q b (c ∷ cs) (not_before_itself c.0.items, not_below (keys_of cs) head) e in
        subst (λ (y : List ℕ). is_before b.0.items y ≡ false) (sym is) upto_c
    at Greater f rest = later (is_before q c.0.items) (last_in q cs) refl e (rw f at found) rest

-- the boundary of a key that is one is the last
own_last : (q : List ℕ) (b : Vec ℕ Global × ℕ) (bs : Boundaries) → Ascending bs → IsSome (lookup (is_at (query q)) bs) → last_in q bs ≡ Some b
    → b.0.items ≡ q
own_last q b bs s found e = neither b.0.items q (last_is_last q q b bs s found (not_before_itself q) e) (last_upto q b bs e)

-- each of some keys

-- they stay ranges of their own
pub still_apart : (old new : Marks) → KeepsBoundaries old new → (ks : List (Vec ℕ Global)) → Each (λ k. IsApart old k.items) ks
    → Each (λ k. IsApart new k.items) ks
still_apart old new kept [] h = tt
still_apart old new kept (k ∷ ks) h = ((kept _ h.0.0, kept _ h.0.1), still_apart old new kept ks h.1)

pub as_keys : (marks : Marks) (ks : List (Vec ℕ Global)) → Each (λ k. IsApart marks k.items) ks → Each (IsApart marks) (map (λ k. k.items) ks)
as_keys marks [] h = tt
as_keys marks (k ∷ ks) h = (h.0, as_keys marks ks h.1)

one_apart : (marks : Marks) (k : List ℕ) (but : List (List ℕ)) → Each (IsApart marks) but → is_one k but ≡ true → IsApart marks k
one_apart marks k [] h e = absurd (cc e)
one_apart marks k (x ∷ xs) h e = at (bytes_eq x k) refl e (one_apart marks k xs h.1)
  where
    at : (c : Bool) → bytes_eq x k ≡ c → (c || is_one k xs) ≡ true → (is_one k xs ≡ true → IsApart marks k) → IsApart marks k
    at true f g rest = subst (IsApart marks) ((bytes_eq-Decides x k).0 f) h.0
    at false f g rest = rest g

module _ (r : Range) (but : List (List ℕ)) (n : ℕ) (q : List ℕ) (marks : Marks) (s : Ascending marks.entries) (apart : Each (IsApart marks) but) where
  abbrev left : Vec ℕ Global × ℕ → ℕ
  left b = if holds_but r but b.0.items then max b.1 n else b.1

  abbrev all : Vec ℕ Global × ℕ → ℕ
  all b = if holds r b.0.items then max b.1 n else b.1

  same_but : (b : Vec ℕ Global × ℕ) → is_one b.0.items but ≡ true → left b ≡ b.1
  same_but b e = at (holds r b.0.items)
    where
      at : (c : Bool) → (if c && not (is_one b.0.items but) then max b.1 n else b.1) ≡ b.1
      at true = rw e refl
      at false = refl

  as_all : (b : Vec ℕ Global × ℕ) → is_one b.0.items but ≡ false → left b ≡ all b
  as_all b e = at (holds r b.0.items)
    where
      at : (c : Bool) → (if c && not (is_one b.0.items but) then max b.1 n else b.1) ≡ (if c then max b.1 n else b.1)
      at true = rw e refl
      at false = refl

  -- where the last boundary is one of these keys, the key is that one
  is_it : (b : Vec ℕ Global × ℕ) → last_in q marks.entries ≡ Some b → is_one b.0.items but ≡ true → q ≡ b.0.items
  is_it b e one =
      let there : IsApart marks b.0.items = one_apart marks b.0.items but apart one in
      at there.1 (is_before q (after b.0.items)) refl
    where
      at : IsBoundary (after b.0.items) marks → (c : Bool) → is_before q (after b.0.items) ≡ c → q ≡ b.0.items
      at next true f = neither q b.0.items (last_upto q b marks.entries e) (next_of b.0.items q f)
      at next false f =
          absurd (cc (last_is_last q (after b.0.items) b marks.entries s next f e, before_after b.0.items))

  at_last : (o : Option (Vec ℕ Global × ℕ)) (c : Bool) → last_in q marks.entries ≡ o → is_one q but ≡ c
      → option_map_or left o 0 ≡ (if c then option_map_or (λ b. b.1) o 0 else option_map_or all o 0)
  at_last None true e f = refl
  at_last None false e f = refl
  at_last (Some b) c e f = by c f (is_one b.0.items but) refl
    where
      by : (c : Bool) → is_one q but ≡ c → (d : Bool) → is_one b.0.items but ≡ d → left b ≡ (if c then b.1 else all b)
      by true f true g = same_but b g
      by false f true g =
          let is : q ≡ b.0.items = is_it b e g in
          absurd (cc (subst (λ (y : List ℕ). is_one y but ≡ true) (sym is) g, f))
      by true f false g =
          let is : b.0.items ≡ q = own_last q b marks.entries s (one_apart marks q but apart f).0 e in
          absurd (cc (subst (λ (y : List ℕ). is_one y but ≡ false) is g, f))
      by false f false g = as_all b g

  left_out : (c : Bool) → is_one q but ≡ c
      → last_mark 0 q (map (raised (holds_but r but) n) marks.entries)
      ≡ (if c then mark_in q marks else last_mark 0 q (map (raised (holds r) n) marks.entries))
  left_out true f =
      mark_of left 0 q marks.entries ∙ at_last (last_in q marks.entries) true refl f ∙ sym (plain_mark 0 q marks.entries)
  left_out false f =
      mark_of left 0 q marks.entries ∙ at_last (last_in q marks.entries) false refl f ∙ sym (mark_of all 0 q marks.entries)

  as_walked : (m : ℕ) (c : Bool) → is_one q but ≡ c → (if c then m else reached r n q m) ≡ walked r but n q m
  as_walked m true f = at (holds r q)
    where
      at : (d : Bool) → m ≡ (if d && not (is_one q but) then max m n else m)
      at true = rw f refl
      at false = refl
  as_walked m false f = at (holds r q)
    where
      at : (d : Bool) → (if d then max m n else m) ≡ (if d && not (is_one q but) then max m n else m)
      at true = rw f refl
      at false = refl

  pub but_raised : MayBegin n r.from marks → MayEnd n r.to marks
      → last_mark 0 q (map (raised (holds_but r but) n) marks.entries) ≡ walked r but n q (mark_in q marks)
  but_raised begins ends =
      left_out (is_one q but) refl
      ∙ ap (λ (m : ℕ). if is_one q but then mark_in q marks else m) (range_raised r n q marks s begins ends)
      ∙ as_walked (mark_in q marks) (is_one q but) refl
