-- Each field: what is read is what was written, what was written is read again, and which fault it is.
use Rattle.std.proofs.Common.{◌≡◌, ℕ, zero, suc, ◌^◌, ◌<◌, ◌≤◌, Bool, true, false, cond, ltb, eqb, List, [], ◌∷◌, ◌++◌, length, take, drop, Option, Some, None, find, Result, Ok, Err, refl, sym, ap, subst, ◌∙◌, append_assoc, arith}
use Rattle.std.specs.Int.{w16, w32, w64, from_be_bytes, to_be_bytes, cast_signed, cast_unsigned}
use Rattle.std.specs.Option.{ok_or}
use Rattle.std.specs.List.{flat_map, AllByRecursion}
use Rattle.std.specs.Prelude.{ℤ, pos, negsuc, FitsSigned}
use Rattle.std.proofs.lemmas.Bool.{ltb-false, le-ltb}
use Rattle.std.proofs.lemmas.Bool.Decides.{nat_tests}
use Rattle.std.proofs.lemmas.Int.{to_z-of_z, of_z-to_z}
use Rattle.std.proofs.lemmas.List.Concat.{flat_map-cons}
use Rattle.std.proofs.Math.Facts.{sfits_to_z, Fits-of_lt}
use Rattle.xa_codes.specs.declared.detail.Detail.{Detail}
use Rattle.xa_codes.specs.declared.detail.Detail.TheVariants as detail
use Rattle.xa_codes.specs.declared.direction.Direction.{Direction}
use Rattle.xa_xid.specs.Triple.{Triple, IsWithinLimits}
use Rattle.xa_xid.specs.Spelling.{bytes_of}
use Rattle.xa_bytes.proofs.Digits.{IsBytes, IsBytes-rest, Takes, Takes-then, wide16, wide32, wide64}
use Rattle.xa_fields.specs.declared.fault.FieldFault.{FieldFault}
use Rattle.xa_fields.specs.Spelling.{short_bytes, value_bytes, direction_bytes}
use Rattle.xa_fields.specs.Reading as fields
use Rattle.xa_fields.specs.Reading.{◌>>=◌, ReadsBack}
use Rattle.xa_fields.proofs.Fields as back
use Rattle.xa_fields.proofs.Fields.{takes, short}
use Rattle.xa_fields.proofs.Results.{bind_ok, guard_ok, ok_is}
use Rattle.xa_frame.specs.declared.fault.FrameFault.{FrameFault}
use Rattle.xa_frame.specs.declared.fault.FrameFault.TheVariants.{Short, Field}
use Rattle.xa_frame.specs.Limits.{IsKey, IsValue, IsInfo, HoldsCursor}
use Rattle.xa_frame.specs.Spelling.{counted_bytes, cursor_bytes, code_bytes, detail_byte, detail_bytes, details, detail_numbered}
use Rattle.xa_frame.specs.Faults.{After, after_bytes, after_info, after_key, after_value, after_direction, after_number, after_detail, after_xid, and_then, after_both, after_cursor, after_each, after_counted, if_some}
use Rattle.xa_frame.specs.Fields.{of_field}
use Rattle.xa_frame.specs.Reading.{Reads, rest_of, number_at, info_at, key_at, value_at, direction_at, name_at, both_at, field_as, each_at, counted_at, cursor_at, code_at, standing_for, numbered_at, detail_at}
use Rattle.xa_frame.proofs.Digits.{done, number_takes, number_again, number_fault}
use Rattle.xa_frame.proofs.FieldFaults.{info_fault, key_fault, value_fault, direction_fault, name_fault}

-- a reader, the spelling of what it reads, what it reads, and what stands after it
pub record IsField (A : Type 0) (at : Reads A) (spell : A → List ℕ) (fits : A → Type 0) (after : After) : Type 0 where
  pub takes : (bytes : List ℕ) (x : A) (rest : List ℕ) → IsBytes bytes → at bytes ≡ Ok (x, rest) → Takes bytes (spell x) rest × fits x
  pub again : (x : A) (rest : List ℕ) → fits x → at (spell x ++ rest) ≡ Ok (x, rest)
  pub fault : (bytes : List ℕ) → rest_of (at bytes) ≡ after bytes

pub number32 : IsField ℕ (number_at w32) (to_be_bytes w32) (λ n. n < 2 ^ 32) (after_bytes 4)
number32 = record { takes = number_takes w32 (2 ^ 32) wide32; again = number_again w32 (2 ^ 32) wide32; fault = number_fault w32 }

pub number64 : IsField ℕ (number_at w64) (to_be_bytes w64) (λ n. n < 2 ^ 64) (after_bytes 8)
number64 = record { takes = number_takes w64 (2 ^ 64) wide64; again = number_again w64 (2 ^ 64) wide64; fault = number_fault w64 }

-- ---- a field, in a content

ok_field : {A : Type 0} (r : Result A FieldFault) (x : A) → of_field r ≡ Ok x → r ≡ Ok x
ok_field (Ok y) x e = ap (λ (z : _). Ok z) (ok_is y x e)
ok_field (Err d) x e = absurd cc

field : {A : Type 0} {at : fields.Reads A} {spell : A → List ℕ} {fits : A → Type 0} {after : After} → ReadsBack A at spell fits
    → ((bytes : List ℕ) → rest_of (of_field (at bytes)) ≡ after bytes) → IsField A (λ bytes. of_field (at bytes)) spell fits after
field {at = at} F fault = record {
  takes = λ bytes x rest small e. takes F bytes x rest small (ok_field (at bytes) (x, rest) e);
  again = λ x rest h. ap of_field (F.again x rest h);
  fault = fault;
}

pub info : IsField (List ℕ) info_at short_bytes IsInfo after_info
info = field short info_fault

pub key : IsField (List ℕ) key_at short_bytes IsKey after_key
key = field back.key key_fault

pub value : IsField (List ℕ) value_at value_bytes IsValue after_value
value = field back.value value_fault

pub direction : IsField Direction direction_at direction_bytes (λ d. Unit {0}) after_direction
direction = field back.direction direction_fault

pub name : IsField Triple name_at bytes_of IsWithinLimits after_xid
name = field back.name name_fault

rest-guard : {A : Type 0} (b : Bool) (d : FrameFault) (r : Result (A × List ℕ) FrameFault) (s : Result (List ℕ) FrameFault) → rest_of r ≡ s → rest_of (cond b (Err d) r) ≡ cond b (Err d) s
rest-guard true d r s e = refl
rest-guard false d r s e = e

rest-number : {A : Type 0} (b : Bool) (x : ℕ × List ℕ) (f : ℕ × List ℕ → Result (A × List ℕ) FrameFault) → rest_of (ok_or (cond b None (Some x)) Short >>= f) ≡ cond b (Err Short) (rest_of (f x))
rest-number true x f = refl
rest-number false x f = refl

-- ---- one byte

pub eqb_true : (m n : ℕ) → eqb m n ≡ true → m ≡ n
eqb_true m n e = grind (arith, nat_tests)

pub pair_is : {A : Type 0} (x y : A) (s t : List ℕ) → done {A = A × List ℕ} (x, s) ≡ done (y, t) → (x ≡ y) × (s ≡ t)
pair_is {A} x y s t e =
    let p = ok_is (x, s) (y, t) e in
    (ap (λ (q : A × List ℕ). q.0) p, ap (λ (q : A × List ℕ). q.1) p)

one_byte : {A : Type 0} (spell : A → ℕ) (b : ℕ) (bytes : List ℕ) (x y : A) (rest : List ℕ) → b ≡ spell x → IsBytes bytes → done {A = A × List ℕ} (x, bytes) ≡ done (y, rest) → Takes (b ∷ bytes) (spell y ∷ []) rest
one_byte {A} spell b bytes x y rest is fits e =
    let p = pair_is x y bytes rest e in
    let made : Takes (b ∷ bytes) (spell x ∷ []) bytes = record { parts = ap (λ (k : ℕ). k ∷ bytes) is; rest_fits = fits } in
    subst (λ (s : List ℕ). Takes (b ∷ bytes) (spell y ∷ []) s) p.1 (subst (λ (z : A). Takes (b ∷ bytes) (spell z ∷ []) bytes) p.0 made)

-- ---- two fields as one, and what is made of a field

rest-made : {A B : Type 0} (make : A → B) (r : Result (A × List ℕ) FrameFault) → rest_of (r >>= λ x. Ok (make x.0, x.1)) ≡ rest_of r
rest-made make (Ok x) = refl
rest-made make (Err e) = refl

rest-both : {A B : Type 0} (r : Result (A × List ℕ) FrameFault) (g : Reads B) (s : Result (List ℕ) FrameFault) (after : After) → rest_of r ≡ s → ((rest : List ℕ) → rest_of (g rest) ≡ after rest)
    → rest_of {A = A × B} (r >>= λ x. g x.1 >>= λ y. Ok ((x.0, y.0), y.1)) ≡ and_then s after
rest-both (Ok x) g s after e h = rest-made (λ y. (x.0, y)) (g x.1) ∙ h x.1 ∙ ap (λ t. and_then t after) e
rest-both (Err d) g s after e h = ap (λ t. and_then t after) e

both_take : {A B : Type 0} {at : Reads A} {spell : A → List ℕ} {fits : A → Type 0} {after : After} {at' : Reads B} {spell' : B → List ℕ} {fits' : B → Type 0} {after' : After}
    (F : IsField A at spell fits after) (G : IsField B at' spell' fits' after') (bytes : List ℕ) (x : A × B) (rest : List ℕ) → IsBytes bytes → both_at at at' bytes ≡ Ok (x, rest)
    → Takes bytes (spell x.0 ++ spell' x.1) rest × (fits x.0 × fits' x.1)
both_take {A} {B} {at = at} {spell = spell} {fits = fits} {at' = at'} {spell' = spell'} {fits' = fits'} F G bytes x rest small e =
    let a = bind_ok (at bytes) (λ y. at' y.1 >>= λ z. Ok ((y.0, z.0), z.1)) (x, rest) e in
    let b = bind_ok (at' a.0.1) (λ z. Ok ((a.0.0, z.0), z.1)) (x, rest) a.2 in
    let made : A × B = (a.0.0, b.0.0) in
    let p = pair_is made x b.0.1 rest b.2 in
    let t = F.takes bytes a.0.0 a.0.1 small a.1 in
    let u = G.takes a.0.1 b.0.0 b.0.1 t.0.rest_fits b.1 in
    let both = Takes-then bytes (spell a.0.0) a.0.1 (spell' b.0.0) b.0.1 t.0 u.0 in
    subst (λ (r : List ℕ). Takes bytes (spell x.0 ++ spell' x.1) r × (fits x.0 × fits' x.1)) p.1
    (subst (λ (y : A × B). Takes bytes (spell y.0 ++ spell' y.1) b.0.1 × (fits y.0 × fits' y.1)) p.0 (both, (t.1, u.1)))

both_again : {A B : Type 0} {at : Reads A} {spell : A → List ℕ} {fits : A → Type 0} {after : After} {at' : Reads B} {spell' : B → List ℕ} {fits' : B → Type 0} {after' : After}
    (F : IsField A at spell fits after) (G : IsField B at' spell' fits' after') (x : A × B) (rest : List ℕ) → fits x.0 × fits' x.1 → both_at at at' ((spell x.0 ++ spell' x.1) ++ rest) ≡ Ok (x, rest)
both_again {A} {B} {at = at} {spell = spell} {at' = at'} {spell' = spell'} F G x rest h =
    ap (both_at at at') (append_assoc (spell x.0) (spell' x.1) rest)
    ∙ ap (λ (r : Result (A × List ℕ) FrameFault). r >>= λ y. at' y.1 >>= λ z. Ok ((y.0, z.0), z.1)) (F.again x.0 (spell' x.1 ++ rest) h.0)
    ∙ ap (λ (r : Result (B × List ℕ) FrameFault). r >>= λ z. Ok ((x.0, z.0), z.1)) (G.again x.1 rest h.1)

pub both : {A B : Type 0} {at : Reads A} {spell : A → List ℕ} {fits : A → Type 0} {after : After} {at' : Reads B} {spell' : B → List ℕ} {fits' : B → Type 0} {after' : After}
    (F : IsField A at spell fits after) (G : IsField B at' spell' fits' after')
    → IsField (A × B) (both_at at at') (λ x. spell x.0 ++ spell' x.1) (λ x. fits x.0 × fits' x.1) (after_both after after')
both {at = at} {after = after} {at' = at'} {after' = after'} F G = record {
  takes = both_take F G;
  again = both_again F G;
  fault = λ bytes. rest-both (at bytes) at' (after bytes) after' (F.fault bytes) G.fault;
}

-- what is made of a field, and can be taken apart again
pub as_made : {A B : Type 0} {at : Reads A} {spell : A → List ℕ} {fits : A → Type 0} {after : After} (make : A → B) (parts : B → A) → ((x : A) → parts (make x) ≡ x) → ((y : B) → make (parts y) ≡ y)
    → IsField A at spell fits after → IsField B (field_as make at) (λ y. spell (parts y)) (λ y. fits (parts y)) after
as_made {A} {B} {at = at} {spell = spell} {fits = fits} {after = after} make parts apart whole F = record {
  takes = λ bytes y rest small e.
      let b = bind_ok (at bytes) (λ x. Ok (make x.0, x.1)) (y, rest) e in
      let p = pair_is (make b.0.0) y b.0.1 rest b.2 in
      let same : b.0.0 ≡ parts y = sym (apart b.0.0) ∙ ap parts p.0 in
      subst (λ (r : List ℕ). Takes bytes (spell (parts y)) r × fits (parts y)) p.1
      (subst (λ (x : A). Takes bytes (spell x) b.0.1 × fits x) same (F.takes bytes b.0.0 b.0.1 small b.1));
  again = λ y rest h.
      ap (λ (r : Result (A × List ℕ) FrameFault). r >>= λ x. Ok (make x.0, x.1)) (F.again (parts y) rest h) ∙ ap (λ (z : B). Ok (z, rest)) (whole y);
  fault = λ bytes. rest-made make (at bytes) ∙ F.fault bytes;
}

-- ---- fields of one sort

module _ {A : Type 0} {at : Reads A} {spell : A → List ℕ} {fits : A → Type 0} {after : After} (F : IsField A at spell fits after) where
  each_take : (n : ℕ) (bytes : List ℕ) (xs : List A) (rest : List ℕ) → IsBytes bytes → each_at at n bytes ≡ Ok (xs, rest)
      → Takes bytes (flat_map spell xs) rest × (length xs ≡ n) × AllByRecursion fits xs
  unfolding each_at
  each_take zero bytes xs rest small e =
      let p = pair_is [] xs bytes rest e in
      subst (λ (s : List ℕ). Takes bytes (flat_map spell xs) s × (length xs ≡ 0) × AllByRecursion fits xs) p.1
      (subst (λ (ys : List A). Takes bytes (flat_map spell ys) bytes × (length ys ≡ 0) × AllByRecursion fits ys) p.0 (record { parts = refl; rest_fits = small }, refl, tt))
  each_take (suc n) bytes xs rest small e =
      let a = bind_ok (at bytes) (λ first. each_at at n first.1 >>= λ others. Ok (first.0 ∷ others.0, others.1)) (xs, rest) e in
      let b = bind_ok (each_at at n a.0.1) (λ others. Ok (a.0.0 ∷ others.0, others.1)) (xs, rest) a.2 in
      let first = F.takes bytes a.0.0 a.0.1 small a.1 in
      let second = each_take n a.0.1 b.0.0 b.0.1 first.0.rest_fits b.1 in
      let both = Takes-then bytes (spell a.0.0) a.0.1 (flat_map spell b.0.0) b.0.1 first.0 second.0 in
      let p = pair_is (a.0.0 ∷ b.0.0) xs b.0.1 rest b.2 in
      subst (λ (s : List ℕ). Takes bytes (flat_map spell xs) s × (length xs ≡ suc n) × AllByRecursion fits xs) p.1
      (subst (λ (ys : List A). Takes bytes (flat_map spell ys) b.0.1 × (length ys ≡ suc n) × AllByRecursion fits ys) p.0 (rw flat_map-cons both, ap suc second.1, (first.1, second.2)))

  each_again : (xs : List A) (rest : List ℕ) → AllByRecursion fits xs → each_at at (length xs) (flat_map spell xs ++ rest) ≡ Ok (xs, rest)
  unfolding each_at
  each_again [] rest h = refl
  each_again (x ∷ xs) rest h =
      let regrouped : flat_map spell (x ∷ xs) ++ rest ≡ spell x ++ (flat_map spell xs ++ rest) = ap (λ (t : List ℕ). t ++ rest) (flat_map-cons spell x xs) ∙ append_assoc (spell x) (flat_map spell xs) rest in
      ap (each_at at (suc (length xs))) regrouped
      ∙ ap (λ (r : Result (A × List ℕ) FrameFault). r >>= λ first. each_at at (length xs) first.1 >>= λ others. Ok (first.0 ∷ others.0, others.1)) (F.again x (flat_map spell xs ++ rest) h.0)
      ∙ ap (λ (r : Result (List A × List ℕ) FrameFault). r >>= λ others. Ok (x ∷ others.0, others.1)) (each_again xs rest h.1)

  each_after : (n : ℕ) (r : Result (A × List ℕ) FrameFault) (s : Result (List ℕ) FrameFault) → rest_of r ≡ s → ((rest : List ℕ) → rest_of (each_at at n rest) ≡ after_each after n rest)
      → rest_of (r >>= λ first. each_at at n first.1 >>= λ others. Ok (first.0 ∷ others.0, others.1)) ≡ and_then s (after_each after n)
  each_after n (Ok x) s e h = rest-made (λ others. x.0 ∷ others) (each_at at n x.1) ∙ h x.1 ∙ ap (λ t. and_then t (after_each after n)) e
  each_after n (Err d) s e h = ap (λ t. and_then t (after_each after n)) e

  each_fault : (n : ℕ) (bytes : List ℕ) → rest_of (each_at at n bytes) ≡ after_each after n bytes
  unfolding each_at
  each_fault zero bytes = refl
  each_fault (suc n) bytes = each_after n (at bytes) (after bytes) (F.fault bytes) (each_fault n)

pub record AreFew {A : Type 0} (fits : A → Type 0) (xs : List A) : Type 0 where
  pub few : length xs ≤ 256
  pub each : AllByRecursion fits xs

module _ {A : Type 0} {at : Reads A} {spell : A → List ℕ} {fits : A → Type 0} {after : After} (F : IsField A at spell fits after) where
  counted_take : (bytes : List ℕ) (xs : List A) (rest : List ℕ) → IsBytes bytes → counted_at at bytes ≡ Ok (xs, rest) → Takes bytes (counted_bytes spell xs) rest × AreFew fits xs
  unfolding counted_at
  counted_take bytes xs rest small e =
      let b = bind_ok (number_at w16 bytes) (λ n. cond (ltb 256 n.0) (Err Field) (each_at at n.0 n.1)) (xs, rest) e in
      let t = number_takes w16 (2 ^ 16) wide16 bytes b.0.0 b.0.1 small b.1 in
      let g = guard_ok (ltb 256 b.0.0) Field (each_at at b.0.0 b.0.1) (xs, rest) b.2 in
      let f = each_take F b.0.0 b.0.1 xs rest t.0.rest_fits g.1 in
      let high : b.0.0 ≤ 256 = ltb-false 256 b.0.0 g.0 in
      let both = Takes-then bytes (to_be_bytes w16 b.0.0) b.0.1 (flat_map spell xs) rest t.0 f.0 in
      (subst (λ (k : ℕ). Takes bytes (to_be_bytes w16 k ++ flat_map spell xs) rest) (sym f.1) both, record { few = omega (arith, f.1); each = f.2 })

  counted_again : (xs : List A) (rest : List ℕ) → AreFew fits xs → counted_at at (counted_bytes spell xs ++ rest) ≡ Ok (xs, rest)
  unfolding counted_at
  counted_again xs rest h =
      let high : ltb 256 (length xs) ≡ false = le-ltb 256 (length xs) h.few in
      ap (λ (r : Result (ℕ × List ℕ) FrameFault). r >>= λ n. cond (ltb 256 n.0) (Err Field) (each_at at n.0 n.1)) (number_again w16 (2 ^ 16) wide16 (length xs) (flat_map spell xs ++ rest) (omega (arith, h.few)))
      ∙ rw high (each_again F xs rest h.each)

  counted_fault : (bytes : List ℕ) → rest_of (counted_at at bytes) ≡ after_counted after bytes
  unfolding counted_at number_at
  counted_fault bytes =
      let n = from_be_bytes w16 (take 2 bytes) in
      rest-number (ltb (length bytes) 2) (n, drop 2 bytes) (λ n. cond (ltb 256 n.0) (Err Field) (each_at at n.0 n.1))
      ∙ ap (λ (r : Result (List ℕ) FrameFault). cond (ltb (length bytes) 2) (Err Short) r) (rest-guard (ltb 256 n) Field (each_at at n (drop 2 bytes)) (after_each after n (drop 2 bytes)) (each_fault F n (drop 2 bytes)))

  pub counted : IsField (List A) (counted_at at) (counted_bytes spell) (AreFew fits) (after_counted after)
  counted = record { takes = counted_take; again = counted_again; fault = counted_fault }

-- ---- a cursor

cursor_tested : (n : ℕ) (a b : Bool) (bytes : List ℕ) (x : Option Triple) (rest : List ℕ) → eqb n 0 ≡ a → eqb n 1 ≡ b → IsBytes bytes
    → cond a (done {A = Option Triple × List ℕ} (None, bytes)) (cond b (field_as (λ (y : Triple). Some y) name_at bytes) (Err Field)) ≡ Ok (x, rest) → Takes (n ∷ bytes) (cursor_bytes x) rest × HoldsCursor x
cursor_tested n true b bytes x rest g h small e =
    let p = pair_is None x bytes rest e in
    let made : Takes (n ∷ bytes) (0 ∷ []) bytes = record { parts = ap (λ (k : ℕ). k ∷ bytes) (eqb_true n 0 g); rest_fits = small } in
    subst (λ (r : List ℕ). Takes (n ∷ bytes) (cursor_bytes x) r × HoldsCursor x) p.1 (subst (λ (y : Option Triple). Takes (n ∷ bytes) (cursor_bytes y) bytes × HoldsCursor y) p.0 (made, tt))
cursor_tested n false true bytes x rest g h small e =
    let b = bind_ok (name_at bytes) (λ y. Ok (Some y.0, y.1)) (x, rest) e in
    let p = pair_is (Some b.0.0) x b.0.1 rest b.2 in
    let t = name.takes bytes b.0.0 b.0.1 small b.1 in
    let whole : n ∷ bytes ≡ (1 ∷ bytes_of b.0.0) ++ b.0.1 = ap (λ (k : ℕ). k ∷ bytes) (eqb_true n 1 h) ∙ ap (λ (s : List ℕ). 1 ∷ s) t.0.parts in
    let made : Takes (n ∷ bytes) (1 ∷ bytes_of b.0.0) b.0.1 = record { parts = whole; rest_fits = t.0.rest_fits } in
    subst (λ (r : List ℕ). Takes (n ∷ bytes) (cursor_bytes x) r × HoldsCursor x) p.1 (subst (λ (y : Option Triple). Takes (n ∷ bytes) (cursor_bytes y) b.0.1 × HoldsCursor y) p.0 (made, t.1))
cursor_tested n false false bytes x rest g h small e = absurd cc

cursor_takes : (bytes : List ℕ) (x : Option Triple) (rest : List ℕ) → IsBytes bytes → cursor_at bytes ≡ Ok (x, rest) → Takes bytes (cursor_bytes x) rest × HoldsCursor x
unfolding cursor_at
cursor_takes [] x rest small e = absurd cc
cursor_takes (n ∷ bytes) x rest small e = cursor_tested n (eqb n 0) (eqb n 1) bytes x rest refl refl (IsBytes-rest n bytes small) e

cursor_again : (x : Option Triple) (rest : List ℕ) → HoldsCursor x → cursor_at (cursor_bytes x ++ rest) ≡ Ok (x, rest)
unfolding cursor_at
cursor_again None rest h = refl
cursor_again (Some xid) rest h = ap (λ (r : Result (Triple × List ℕ) FrameFault). r >>= λ x. Ok (Some x.0, x.1)) (name.again xid rest h)

cursor_kinds : (a b : Bool) (bytes : List ℕ) → rest_of (cond a (done {A = Option Triple × List ℕ} (None, bytes)) (cond b (field_as (λ (y : Triple). Some y) name_at bytes) (Err Field))) ≡ cond a (Ok bytes) (cond b (after_xid bytes) (Err Field))
cursor_kinds true b bytes = refl
cursor_kinds false true bytes = rest-made (λ (y : Triple). Some y) (name_at bytes) ∙ name.fault bytes
cursor_kinds false false bytes = refl

cursor_fault : (bytes : List ℕ) → rest_of (cursor_at bytes) ≡ after_cursor bytes
unfolding cursor_at
cursor_fault [] = refl
cursor_fault (n ∷ bytes) = cursor_kinds (eqb n 0) (eqb n 1) bytes

pub cursor : IsField (Option Triple) cursor_at cursor_bytes HoldsCursor after_cursor
cursor = record { takes = cursor_takes; again = cursor_again; fault = cursor_fault }

-- ---- codes and details

unsigned_below : (z : ℤ) → FitsSigned w32 z → cast_unsigned w32 z < 2 ^ 32
unsigned_below (pos n) h = omega (arith, h.sfits)
unsigned_below (negsuc n) h = omega (arith, h.sfits)

code_takes : (bytes : List ℕ) (z : ℤ) (rest : List ℕ) → IsBytes bytes → code_at bytes ≡ Ok (z, rest) → Takes bytes (code_bytes z) rest × FitsSigned w32 z
unfolding code_at
code_takes bytes z rest fits e =
    let b = bind_ok (number_at w32 bytes) (λ n. Ok (cast_signed w32 n.0, n.1)) (z, rest) e in
    let t = number_takes w32 (2 ^ 32) wide32 bytes b.0.0 b.0.1 fits b.1 in
    let p = pair_is (cast_signed w32 b.0.0) z b.0.1 rest b.2 in
    let back : b.0.0 ≡ cast_unsigned w32 (cast_signed w32 b.0.0) = sym (of_z-to_z w32 b.0.0 t.1) in
    let made : Takes bytes (code_bytes (cast_signed w32 b.0.0)) b.0.1 = subst (λ (n : ℕ). Takes bytes (to_be_bytes w32 n) b.0.1) back t.0 in
    subst (λ (r : List ℕ). Takes bytes (code_bytes z) r × FitsSigned w32 z) p.1 (subst (λ (y : ℤ). Takes bytes (code_bytes y) b.0.1 × FitsSigned w32 y) p.0 (made, sfits_to_z (Fits-of_lt t.1)))

code_again : (z : ℤ) (rest : List ℕ) → FitsSigned w32 z → code_at (code_bytes z ++ rest) ≡ Ok (z, rest)
unfolding code_at
code_again z rest h =
    ap (λ (r : Result (ℕ × List ℕ) FrameFault). r >>= λ n. Ok (cast_signed w32 n.0, n.1)) (number_again w32 (2 ^ 32) wide32 (cast_unsigned w32 z) rest (unsigned_below z h))
    ∙ ap (λ (y : ℤ). Ok (y, rest)) (to_z-of_z w32 z h)

rest-code : (r : Result (ℕ × List ℕ) FrameFault) → rest_of (r >>= λ n. Ok (cast_signed w32 n.0, n.1)) ≡ rest_of r
rest-code (Ok x) = refl
rest-code (Err e) = refl

code_fault : (bytes : List ℕ) → rest_of (code_at bytes) ≡ after_bytes 4 bytes
unfolding code_at
code_fault bytes = rest-code (number_at w32 bytes) ∙ number_fault w32 bytes

pub code : IsField ℤ code_at code_bytes (λ z. FitsSigned w32 z) (after_bytes 4)
code = record { takes = code_takes; again = code_again; fault = code_fault }

found_first : {A : Type 0} (p : A → Bool) (y : A) (b : Bool) (o : Option A) (x : A) → p y ≡ b → (o ≡ Some x → p x ≡ true) → cond b (Some y) o ≡ Some x → p x ≡ true
found_first {A} p y true o x h k e = let same : y ≡ x = cc in subst (λ (z : A). p z ≡ true) same h
found_first p y false o x h k e = k e

pub found_holds : {A : Type 0} (p : A → Bool) (xs : List A) (x : A) → find p xs ≡ Some x → p x ≡ true
found_holds p [] x e = absurd cc
found_holds p (y ∷ xs) x e = found_first p y (p y) (find p xs) x refl (found_holds p xs x) e

-- a byte that stands for a member of a table
byte_found : {A : Type 0} (spell : A → ℕ) (all : List A) (b : ℕ) (o : Option A) (bytes : List ℕ) (y : A) (rest : List ℕ) → find (λ x. eqb (spell x) b) all ≡ o → IsBytes bytes
    → standing_for o bytes ≡ Ok (y, rest) → Takes (b ∷ bytes) (spell y ∷ []) rest
byte_found spell all b None bytes y rest h fits e = absurd cc
byte_found spell all b (Some x) bytes y rest h fits e = one_byte spell b bytes x y rest (sym (eqb_true (spell x) b (found_holds (λ z. eqb (spell z) b) all x h))) fits e

standing_fault : {A : Type 0} (o : Option A) (bytes : List ℕ) → rest_of (standing_for o bytes) ≡ if_some o bytes
standing_fault None bytes = refl
standing_fault (Some x) bytes = refl

numbered_takes : {A : Type 0} (spell : A → ℕ) (all : List A) (bytes : List ℕ) (x : A) (rest : List ℕ) → IsBytes bytes → numbered_at (λ n. find (λ y. eqb (spell y) n) all) bytes ≡ Ok (x, rest)
    → Takes bytes (spell x ∷ []) rest × Unit {0}
numbered_takes spell all [] x rest fits e = absurd cc
numbered_takes spell all (b ∷ bytes) x rest fits e = (byte_found spell all b (find (λ y. eqb (spell y) b) all) bytes x rest refl (IsBytes-rest b bytes fits) e, tt)

numbered_fault : {A : Type 0} (numbered : ℕ → Option A) (bytes : List ℕ) → rest_of (numbered_at numbered bytes) ≡ after_number numbered bytes
numbered_fault numbered [] = refl
numbered_fault numbered (b ∷ bytes) = standing_fault (numbered b) bytes

-- a byte that stands for a member of a table, each by another number
pub by_number : {A : Type 0} (spell : A → ℕ) (all : List A) → ((x : A) → find (λ y. eqb (spell y) (spell x)) all ≡ Some x)
    → IsField A (numbered_at (λ n. find (λ y. eqb (spell y) n) all)) (λ x. spell x ∷ []) (λ x. Unit {0}) (after_number (λ n. find (λ y. eqb (spell y) n) all))
by_number {A} spell all again = record {
  takes = numbered_takes spell all;
  again = λ x rest h. ap (λ (o : Option A). standing_for o rest) (again x);
  fault = numbered_fault (λ n. find (λ y. eqb (spell y) n) all);
}

pub about : IsField Detail detail_at detail_bytes (λ d. Unit {0}) after_detail
unfolding detail_at
about =
    by_number detail_byte details
    (elim [
      | detail.Nothing ↦ refl
      | detail.Memory ↦ refl
      | detail.Device ↦ refl
      | detail.Busy ↦ refl
      | detail.Late ↦ refl
      | detail.Limit ↦ refl
      | detail.Frame ↦ refl
      | detail.LogFull ↦ refl
      | detail.Access ↦ refl
    ])
