-- What a walk says of the keys that it walked is what its timestamp reads.
use Rattle.std.proofs.Common.{◌≡◌, ◌⊎◌, inl, inr, ℕ, zero, suc, Bool, true, false, not, ◌&&◌, ◌||◌, cond, List, [], ◌∷◌, ◌++◌, Option, Some, None, refl, sym, ◌∙◌, ap, subst, arith}
use Rattle.std.specs.Prelude.{bytes_eq, filter}
use Rattle.std.specs.Option.{option_map_or}
use Rattle.std.specs.List.{AllByRecursion, list_any}
use Rattle.std.specs.Cmp.Lexicographic.{slice_cmp}
use Rattle.std.specs.Ordering.{nat_cmp, is_lt, ordering_then, ordering_reverse}
use Rattle.std.proofs.lemmas.Cmp.{nat_cmp_total}
use Rattle.std.specs.declared.cmp.Ordering.{Ordering}
use Rattle.std.specs.declared.cmp.Ordering.TheVariants.{Less, Equal, Greater}
use Rattle.std.proofs.lemmas.Bool.{or_parts}
use Rattle.std.proofs.lemmas.Bool.Decides.{nat_tests}
use Rattle.std.proofs.lemmas.Slice.Eq.{bytes_eq-Decides}
use Rattle.xa_model.specs.Ranges.{Range, holds, is_before}
use Rattle.xa_model.specs.State.{Branch}
use Rattle.xa_model.specs.Source.{Version, source, source_among, is_busy, absent}
use Rattle.xa_model.specs.Data.{value_among}
use Rattle.xa_model.specs.Walking.{Stop, Ended, Full, Busy, Walk, Room, takes, less, stopped, having_passed, having_found, pass, walk_at, walk, walk_over, keys_in, last_key, range_by, has_walked, WalkSees}
use Rattle.xa_model.proofs.KeyOrder.{upto_before, not_before_itself}
use Rattle.xa_model.proofs.KeysIn.{among, Ascend, no_source, keys_ascend, filtered_ascend, all_pass, filtered_among}

-- the key isn't after the last of the records
abbrev is_upto : List ℕ → List (List ℕ × List ℕ) → Bool
is_upto key found = list_any (λ r. not (is_before r.0 key)) found

-- the walk passed the key
abbrev HasPassed : List ℕ → Walk → Type 0
HasPassed key w = (w.stop ≡ Ended) ⊎ (is_upto key w.found ≡ true)

-- what it says of a key is so
record SaysRight (t : ℕ) (bs : List Branch) (key : List ℕ) (w : Walk) : Type 0 where
  free : is_busy t (source key t bs) ≡ false
  value : (source key t bs).value ≡ value_among key w.found
  stamp : (source key t bs).timestamp ≡ source_among key w.sources

-- nothing is said of a key that isn't there
record SaysNothing (key : List ℕ) (w : Walk) : Type 0 where
  value : value_among key w.found ≡ None
  stamp : source_among key w.sources ≡ 0

-- one step

module _ (t : ℕ) (bs : List Branch) (k : List ℕ) (later : Room → Walk) where
  abbrev v : Version
  v = source k t bs

  strange_pass : (q : List ℕ) (room : Room) (o : Option (List ℕ)) → bytes_eq k q ≡ false → ((room : Room) → SaysNothing q (later room))
      → SaysNothing q (pass k v.timestamp o room later)
  strange_pass q room None e rest = record { value = (rest room).value; stamp = rw e (rest room).stamp }
  strange_pass q room (Some x) e rest = at (takes room k x)
    where
      at : (c : Bool) → SaysNothing q (cond c (having_passed k v.timestamp (having_found k x (later (less room k x)))) (stopped Full))
      at true = record { value = rw e (rest (less room k x)).value; stamp = rw e (rest (less room k x)).stamp }
      at false = record { value = refl; stamp = refl }

  strange_at : (q : List ℕ) (room : Room) → bytes_eq k q ≡ false → ((room : Room) → SaysNothing q (later room)) → SaysNothing q (walk_at t k v room later)
  strange_at q room e rest = at (is_busy t v)
    where
      at : (c : Bool) → SaysNothing q (cond c (stopped Busy) (pass k v.timestamp v.value room later))
      at true = record { value = refl; stamp = refl }
      at false = strange_pass q room v.value e rest

  -- the key itself
  own_pass : (q : List ℕ) (room : Room) (o : Option (List ℕ)) → k ≡ q → v.value ≡ o → is_busy t v ≡ false → ((room : Room) → SaysNothing q (later room))
      → HasPassed q (pass k v.timestamp o room later) → SaysRight t bs q (pass k v.timestamp o room later)
  own_pass q room None is e free rest passed =
      let here : bytes_eq k q ≡ true = (bytes_eq-Decides k q).1 is in
      record {
        free = subst (λ (x : List ℕ). is_busy t (source x t bs) ≡ false) is free;
        value = ap (λ (x : List ℕ). (source x t bs).value) (sym is) ∙ e ∙ sym (rest room).value;
        stamp = rw here (ap (λ (x : List ℕ). (source x t bs).timestamp) (sym is));
      }
  own_pass q room (Some x) is e free rest passed = at (takes room k x) passed
    where
      here : bytes_eq k q ≡ true
      here = (bytes_eq-Decides k q).1 is

      at : (c : Bool) → HasPassed q (cond c (having_passed k v.timestamp (having_found k x (later (less room k x)))) (stopped Full))
          → SaysRight t bs q (cond c (having_passed k v.timestamp (having_found k x (later (less room k x)))) (stopped Full))
      at true passed = record {
        free = subst (λ (y : List ℕ). is_busy t (source y t bs) ≡ false) is free;
        value = rw here (ap (λ (y : List ℕ). (source y t bs).value) (sym is) ∙ e);
        stamp = rw here (ap (λ (y : List ℕ). (source y t bs).timestamp) (sym is));
      }
      at false (inl ended) = absurd (cc ended)
      at false (inr upto) = absurd (cc upto)

  own_at : (q : List ℕ) (room : Room) → k ≡ q → ((room : Room) → SaysNothing q (later room)) → HasPassed q (walk_at t k v room later)
      → SaysRight t bs q (walk_at t k v room later)
  own_at q room is rest = at (is_busy t v) refl
    where
      at : (c : Bool) → is_busy t v ≡ c → HasPassed q (cond c (stopped Busy) (pass k v.timestamp v.value room later))
          → SaysRight t bs q (cond c (stopped Busy) (pass k v.timestamp v.value room later))
      at true e (inl ended) = absurd (cc ended)
      at true e (inr upto) = absurd (cc upto)
      at false e passed = own_pass q room v.value is refl e rest passed

  -- a key after it
  after_pass : (q : List ℕ) (room : Room) (o : Option (List ℕ)) → bytes_eq k q ≡ false → is_before k q ≡ true
      → ((room : Room) → HasPassed q (later room) → SaysRight t bs q (later room))
      → HasPassed q (pass k v.timestamp o room later) → SaysRight t bs q (pass k v.timestamp o room later)
  after_pass q room None e above rest passed =
      let there = rest room passed in record { free = there.free; value = there.value; stamp = rw e there.stamp }
  after_pass q room (Some x) e above rest passed = at (takes room k x) passed
    where
      abbrev_rest : HasPassed q (having_passed k v.timestamp (having_found k x (later (less room k x)))) → HasPassed q (later (less room k x))
      abbrev_rest (inl ended) = inl ended
      abbrev_rest (inr upto) = inr (sym (ap (λ (b : Bool). not b || is_upto q (later (less room k x)).found) above) ∙ upto)

      at : (c : Bool) → HasPassed q (cond c (having_passed k v.timestamp (having_found k x (later (less room k x)))) (stopped Full))
          → SaysRight t bs q (cond c (having_passed k v.timestamp (having_found k x (later (less room k x)))) (stopped Full))
      at true passed =
          let there = rest (less room k x) (abbrev_rest passed) in
          record { free = there.free; value = rw e there.value; stamp = rw e there.stamp }
      at false (inl ended) = absurd (cc ended)
      at false (inr upto) = absurd (cc upto)

  after_at : (q : List ℕ) (room : Room) → bytes_eq k q ≡ false → is_before k q ≡ true
      → ((room : Room) → HasPassed q (later room) → SaysRight t bs q (later room))
      → HasPassed q (walk_at t k v room later) → SaysRight t bs q (walk_at t k v room later)
  after_at q room e above rest = at (is_busy t v)
    where
      at : (c : Bool) → HasPassed q (cond c (stopped Busy) (pass k v.timestamp v.value room later))
          → SaysRight t bs q (cond c (stopped Busy) (pass k v.timestamp v.value room later))
      at true (inl ended) = absurd (cc ended)
      at true (inr upto) = absurd (cc upto)
      at false passed = after_pass q room v.value e above rest passed

  -- each record's key passes a test that the keys pass
  found_pass : (P : List ℕ → Type 0) (room : Room) (o : Option (List ℕ)) → P k → ((room : Room) → AllByRecursion (λ r. P r.0) (later room).found)
      → AllByRecursion (λ r. P r.0) (pass k v.timestamp o room later).found
  found_pass P room None here rest = rest room
  found_pass P room (Some x) here rest = at (takes room k x)
    where
      at : (c : Bool) → AllByRecursion (λ r. P r.0)
          (cond c (having_passed k v.timestamp (having_found k x (later (less room k x)))) (stopped Full)).found
      at true = (here, rest (less room k x))
      at false = tt

  found_at : (P : List ℕ → Type 0) (room : Room) → P k → ((room : Room) → AllByRecursion (λ r. P r.0) (later room).found)
      → AllByRecursion (λ r. P r.0) (walk_at t k v room later).found
  found_at P room here rest = at (is_busy t v)
    where
      at : (c : Bool) → AllByRecursion (λ r. P r.0) (cond c (stopped Busy) (pass k v.timestamp v.value room later)).found
      at true = tt
      at false = found_pass P room v.value here rest

-- all steps

strange : (t : ℕ) (bs : List Branch) (q : List ℕ) (ks : List (List ℕ)) (room : Room) → among q ks ≡ false → SaysNothing q (walk t bs ks room)
strange t bs q [] room e = record { value = refl; stamp = refl }
strange t bs q (k ∷ ks) room e =
    let both = or_parts (bytes_eq k q) (among q ks) e in
    strange_at t bs k (walk t bs ks) q room both.0 (λ r. strange t bs q ks r both.1)

after_first : (k q : List ℕ) (ks : List (List ℕ)) → AllByRecursion (λ x. is_before k x ≡ true) ks → among q ks ≡ true → is_before k q ≡ true
after_first k q [] h e = absurd (cc e)
after_first k q (x ∷ ks) h e = at (bytes_eq x q) refl e (after_first k q ks h.1)
  where
    at : (c : Bool) → bytes_eq x q ≡ c → (c || among q ks) ≡ true → (among q ks ≡ true → is_before k q ≡ true) → is_before k q ≡ true
    at true f g rest = subst (λ (y : List ℕ). is_before k y ≡ true) ((bytes_eq-Decides x q).0 f) h.0
    at false f g rest = rest g

not_after : (k q : List ℕ) (ks : List (List ℕ)) → AllByRecursion (λ x. is_before k x ≡ true) ks → k ≡ q → among q ks ≡ false
not_after k q ks h is = at (among q ks) refl
  where
    at : (c : Bool) → among q ks ≡ c → c ≡ false
    at false e = refl
    at true e =
        let later : is_before k q ≡ true = after_first k q ks h e in
        absurd (cc (subst (λ (x : List ℕ). is_before x q ≡ true) is later, not_before_itself q))

passed : (t : ℕ) (bs : List Branch) (q : List ℕ) (ks : List (List ℕ)) (room : Room) → Ascend ks → among q ks ≡ true → HasPassed q (walk t bs ks room)
    → SaysRight t bs q (walk t bs ks room)
passed t bs q [] room h e p = absurd (cc e)
passed t bs q (k ∷ ks) room h e p = at (bytes_eq k q) refl e (λ g r. passed t bs q ks r h.1 g)
  where
    at : (c : Bool) → bytes_eq k q ≡ c → (c || among q ks) ≡ true
        → (among q ks ≡ true → (r : Room) → HasPassed q (walk t bs ks r) → SaysRight t bs q (walk t bs ks r)) → SaysRight t bs q (walk t bs (k ∷ ks) room)
    at true f g rest =
        let is : k ≡ q = (bytes_eq-Decides k q).0 f in
        own_at t bs k (walk t bs ks) q room is (λ r. strange t bs q ks r (not_after k q ks h.0 is)) p
    at false f g rest = after_at t bs k (walk t bs ks) q room f (after_first k q ks h.0 g) (rest g) p

found_all : (P : List ℕ → Type 0) (t : ℕ) (bs : List Branch) (ks : List (List ℕ)) (room : Room) → AllByRecursion P ks
    → AllByRecursion (λ r. P r.0) (walk t bs ks room).found
found_all P t bs [] room h = tt
found_all P t bs (k ∷ ks) room h = found_at t bs k (walk t bs ks) P room h.0 (λ r. found_all P t bs ks r h.1)

-- the end of what was walked

-- what is before the next of a key isn't after the key
next_of : (k q : List ℕ) → is_before q (k ++ 0 ∷ []) ≡ true → is_before k q ≡ false
next_of [] [] e = refl
next_of [] (zero ∷ []) e = absurd (cc e)
next_of [] (zero ∷ x ∷ xs) e = absurd (cc e)
next_of [] (suc n ∷ xs) e = absurd (cc (above_zero, e))
  where
    above_zero : nat_cmp (suc n) 0 ≡ Greater
    above_zero = grind (arith, nat_tests)
next_of (y ∷ ys) [] e = refl
next_of (y ∷ ys) (x ∷ xs) e = at (nat_cmp x y) refl e (next_of ys xs)
  where
    back : nat_cmp y x ≡ ordering_reverse (nat_cmp x y)
    back = nat_cmp_total.antisymm y x

    at : (o : Ordering) → nat_cmp x y ≡ o → is_lt (ordering_then o (slice_cmp nat_cmp xs (ys ++ 0 ∷ []))) ≡ true
        → (is_before xs (ys ++ 0 ∷ []) ≡ true → is_before ys xs ≡ false)
        → is_lt (ordering_then (nat_cmp y x) (slice_cmp nat_cmp ys xs)) ≡ false
    at Less f e rest = ap (λ (p : Ordering). is_lt (ordering_then p (slice_cmp nat_cmp ys xs))) (back ∙ ap ordering_reverse f)
    at Equal f e rest = ap (λ (p : Ordering). is_lt (ordering_then p (slice_cmp nat_cmp ys xs))) (back ∙ ap ordering_reverse f) ∙ rest e
    at Greater f e rest = absurd (cc e)

upto_last : (q : List ℕ) (r : List ℕ × List ℕ) (found : List (List ℕ × List ℕ)) → is_before (last_key (r ∷ found)) q ≡ false → is_upto q (r ∷ found) ≡ true
upto_last q r [] e = rw e refl
upto_last q r (s ∷ rest) e = at (is_before r.0 q) (upto_last q s rest e)
  where
    at : (c : Bool) → is_upto q (s ∷ rest) ≡ true → (not c || is_upto q (s ∷ rest)) ≡ true
    at true h = h
    at false h = refl

-- up to a record of the range, what isn't before the range is in it
within_by : (range : Range) (q k : List ℕ) (o : Option (List ℕ)) → is_before k q ≡ false → option_map_or (is_before k) o true ≡ true
    → option_map_or (is_before q) o true ≡ true
within_by range q k None e h = refl
within_by range q k (Some to) e h = upto_before q k to e h

both_parts : (a b : Bool) → (a && b) ≡ true → (a ≡ true) × (b ≡ true)
both_parts true b e = (refl, e)
both_parts false b e = absurd (cc e)

held_upto : (range : Range) (q : List ℕ) (found : List (List ℕ × List ℕ)) → AllByRecursion (λ r. holds range r.0 ≡ true) found → is_upto q found ≡ true
    → not (is_before q range.from) ≡ true → holds range q ≡ true
held_upto range q [] h e from = absurd (cc e)
held_upto range q (r ∷ found) h e from = at (is_before r.0 q) refl e (λ g. held_upto range q found h.1 g from)
  where
    at : (c : Bool) → is_before r.0 q ≡ c → (not c || is_upto q found) ≡ true → (is_upto q found ≡ true → holds range q ≡ true) → holds range q ≡ true
    at true f g rest = rest g
    at false f g rest = rw from (within_by range q r.0 range.to f (both_parts (not (is_before r.0 range.from)) _ h.0).1)

-- together

module _ (t : ℕ) (bs : List Branch) (range : Range) (room : Room) where
  abbrev ks : List (List ℕ)
  ks = filter (holds range) (keys_in bs)

  abbrev w : Walk
  w = walk_over t bs range room

  right : (q : List ℕ) → holds range q ≡ true → HasPassed q w → SaysRight t bs q w
  right q within p = at (among q ks) refl
    where
      at : (c : Bool) → among q ks ≡ c → SaysRight t bs q w
      at true e = passed t bs q ks room (filtered_ascend (holds range) (keys_in bs) (keys_ascend bs)) e p
      at false e =
          let none = strange t bs q ks room e in
          let is : source q t bs ≡ absent = no_source q t bs (sym (filtered_among (holds range) q (keys_in bs) within) ∙ e) in
          record {
            free = rw is refl;
            value = rw is (sym none.value);
            stamp = rw is (sym none.stamp);
          }

  -- what is within the walked range was passed, and is within the range
  walked_within : (stop : Stop) (found : List (List ℕ × List ℕ)) (q : List ℕ) → has_walked stop found ≡ true
      → AllByRecursion (λ r. holds range r.0 ≡ true) found → holds (range_by range stop found) q ≡ true
      → (holds range q ≡ true) × ((stop ≡ Ended) ⊎ (is_upto q found ≡ true))
  walked_within Ended found q some h e = (e, inl refl)
  walked_within Full [] q some h e = absurd (cc some)
  walked_within Full (r ∷ found) q some h e =
      let both = both_parts (not (is_before q range.from)) _ e in
      let upto : is_upto q (r ∷ found) ≡ true = upto_last q r found (next_of (last_key (r ∷ found)) q both.1) in
      (held_upto range q (r ∷ found) h upto both.0, inr upto)
  walked_within Busy [] q some h e = absurd (cc some)
  walked_within Busy (r ∷ found) q some h e =
      let both = both_parts (not (is_before q range.from)) _ e in
      let upto : is_upto q (r ∷ found) ≡ true = upto_last q r found (next_of (last_key (r ∷ found)) q both.1) in
      (held_upto range q (r ∷ found) h upto both.0, inr upto)

  says : has_walked w.stop w.found ≡ true → (q : List ℕ) → holds (range_by range w.stop w.found) q ≡ true → SaysRight t bs q w
  says some q e =
      let both =
      walked_within w.stop w.found q some
      (found_all (λ x. holds range x ≡ true) t bs ks room (all_pass (holds range) (keys_in bs))) e in
      right q both.0 both.1

pub walk_sees : WalkSees
walk_sees t bs range room some = record {
  free = λ q e. (says t bs range room some q e).free;
  values = λ q e. (says t bs range room some q e).value;
  stamps = λ q e. (says t bs range room some q e).stamp;
}
