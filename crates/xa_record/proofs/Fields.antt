-- A field that is read is the field that was written, and what was written is read again.
use Rattle.std.proofs.Common.{◌≡◌, ℕ, zero, suc, ◌≤◌, Bool, true, false, cond, ◌&&◌, eqb, leb, List, [], ◌∷◌, ◌++◌, length, Option, Some, None, Result, Ok, Err, refl, ap, subst, ◌∙◌, arith}
use Rattle.std.specs.Prelude.{IfSome, option_map}
use Rattle.std.specs.Result.{result_ok}
use Rattle.std.specs.declared.cmp.Ordering.{Ordering}
use Rattle.std.specs.declared.cmp.Ordering.TheVariants.{Less, Equal, Greater}
use Rattle.std.specs.Cmp.Lexicographic.{slice_cmp}
use Rattle.std.specs.Ordering.{nat_cmp, is_lt}
use Rattle.std.proofs.lemmas.Bool.Decides.{nat_tests}
use Rattle.std.proofs.lemmas.List.{nil_from_length}
use Rattle.std.proofs.lemmas.Option.{cond_some, some_pair_parts}
use Rattle.xa_bytes.proofs.Digits.{IsBytes, IsBytes-rest, Takes}
use Rattle.xa_codes.specs.declared.direction.Direction.{Direction}
use Rattle.xa_xid.specs.Triple.{Triple, IsWithinLimits}
use Rattle.xa_xid.specs.Spelling.{bytes_of}
use Rattle.xa_fields.specs.declared.fault.FieldFault.{FieldFault}
use Rattle.xa_fields.specs.Limits.{IsKey, IsValue}
use Rattle.xa_fields.specs.Reading.{key_at, value_at, direction_at, name_at}
use Rattle.xa_fields.specs.Spelling.{short_bytes, direction_bytes}
use Rattle.xa_fields.proofs.Fields.{takes, key, value, direction, name}
use Rattle.xa_record.specs.Spelling.{left_bytes}
use Rattle.xa_record.specs.Reading.{◌>>=◌, ended, xid_front, last_direction, next_key, left_at}

-- the value of a step that gave one
pub bind_some : {A B : Type 0} (o : Option A) (f : A → Option B) (y : B) → (o >>= f) ≡ Some y → (x : A) × (o ≡ Some x) × (f x ≡ Some y)
bind_some (Some x) f y e = (x, refl, e)
bind_some None f y e = absurd cc

pub both_true : (a b : Bool) → (a && b) ≡ true → (a ≡ true) × (b ≡ true)
both_true true b e = (refl, e)
both_true false b e = absurd cc

pub leb_true : (a b : ℕ) → leb a b ≡ true → a ≤ b
leb_true a b e = grind (arith, nat_tests)

pub true_leb : (a b : ℕ) → a ≤ b → leb a b ≡ true
true_leb a b h = grind (arith, nat_tests)

pub zero_from : (n : ℕ) → eqb n 0 ≡ true → n ≡ 0
zero_from n e = grind (arith, nat_tests)

pub ended_is : {A : Type 0} (x y : A) (bytes : List ℕ) → ended x bytes ≡ Some y → (bytes ≡ []) × (x ≡ y)
ended_is x y bytes e =
    let p = cond_some (eqb (length bytes) 0) x y e in
    (nil_from_length bytes (zero_from (length bytes) p.0), p.1)

ok_of : {A : Type 0} (r : Result A FieldFault) (x : A) → result_ok r ≡ Some x → r ≡ Ok x
ok_of (Ok y) x e = ap (λ (z : _). Ok z) (let same : y ≡ x = cc in same)
ok_of (Err d) x e = absurd cc

-- ---- XIDs and directions

pub name_takes : (bytes : List ℕ) (x : Triple) (rest : List ℕ) → IsBytes bytes → xid_front bytes ≡ Some (x, rest) → Takes bytes (bytes_of x) rest × IsWithinLimits x
unfolding xid_front
name_takes bytes x rest fits e = takes name bytes x rest fits (ok_of (name_at bytes) (x, rest) e)

pub name_again : (x : Triple) (rest : List ℕ) → IsWithinLimits x → xid_front (bytes_of x ++ rest) ≡ Some (x, rest)
unfolding xid_front
name_again x rest h = ap result_ok (name.again x rest h)

pub direction_takes : (bytes : List ℕ) (d : Direction) → IsBytes bytes → last_direction bytes ≡ Some d → bytes ≡ direction_bytes d
unfolding last_direction
direction_takes bytes d fits e =
    let b = bind_some (result_ok (direction_at bytes)) (λ k. ended k.0 k.1) d e in
    let t = takes direction bytes b.0.0 b.0.1 fits (ok_of (direction_at bytes) b.0 b.1) in
    let p = ended_is b.0.0 d b.0.1 b.2 in
    t.0.parts ∙ ap (λ (r : List ℕ). direction_bytes b.0.0 ++ r) p.0 ∙ ap (λ (k : Direction). direction_bytes k) p.1

pub direction_again : (d : Direction) → last_direction (direction_bytes d) ≡ Some d
unfolding last_direction
direction_again d = ap (λ (r : Result (Direction × List ℕ) FieldFault). result_ok r >>= λ k. ended k.0 k.1) (direction.again d [] tt)

-- ---- keys, and what is left at them

is_lt_less : (o : Ordering) → is_lt o ≡ true → o ≡ Less
is_lt_less Less e = refl
is_lt_less Equal e = absurd cc
is_lt_less Greater e = absurd cc

pub key_takes : (previous bytes text rest : List ℕ) → IsBytes bytes → next_key previous bytes ≡ Some (text, rest)
    → Takes bytes (short_bytes text) rest × IsKey text × (slice_cmp nat_cmp previous text ≡ Less)
unfolding next_key
key_takes previous bytes text rest fits e =
    let b = bind_some (result_ok (key_at bytes)) (λ k. cond (is_lt (slice_cmp nat_cmp previous k.0)) (Some k) None) (text, rest) e in
    let t = takes key bytes b.0.0 b.0.1 fits (ok_of (key_at bytes) b.0 b.1) in
    let g = cond_some (is_lt (slice_cmp nat_cmp previous b.0.0)) b.0 (text, rest) b.2 in
    subst (λ (p : List ℕ × List ℕ). Takes bytes (short_bytes p.0) p.1 × IsKey p.0 × (slice_cmp nat_cmp previous p.0 ≡ Less)) g.1
    (t.0, t.1, is_lt_less (slice_cmp nat_cmp previous b.0.0) g.0)

pub key_again : (previous text rest : List ℕ) → IsKey text → slice_cmp nat_cmp previous text ≡ Less → next_key previous (short_bytes text ++ rest) ≡ Some (text, rest)
unfolding next_key
key_again previous text rest h less =
    let above : is_lt (slice_cmp nat_cmp previous text) ≡ true = ap is_lt less in
    ap (λ (r : Result (List ℕ × List ℕ) FieldFault). result_ok r >>= λ k. cond (is_lt (slice_cmp nat_cmp previous k.0)) (Some k) None) (key.again text rest h)
    ∙ rw above refl

pub mapped : {A B : Type 0} (f : A → B) (o : Option A) (y : B) → option_map f o ≡ Some y → (x : A) × (o ≡ Some x) × (f x ≡ y)
mapped f None y e = absurd cc
mapped f (Some x) y e = (x, refl, cc)

pub left_takes : (bytes : List ℕ) (v : Option (List ℕ)) (rest : List ℕ) → IsBytes bytes → left_at bytes ≡ Some (v, rest) → Takes bytes (left_bytes v) rest × IfSome v IsValue
unfolding left_at
left_takes [] v rest fits e = absurd cc
left_takes (zero ∷ bytes) v rest fits e =
    let p = some_pair_parts None v bytes rest e in
    subst (λ (r : List ℕ). Takes (0 ∷ bytes) (left_bytes v) r × IfSome v IsValue) p.1
    (subst (λ (o : Option (List ℕ)). Takes (0 ∷ bytes) (left_bytes o) bytes × IfSome o IsValue) p.0 (record { parts = refl; rest_fits = IsBytes-rest 0 bytes fits }, tt))
left_takes (suc zero ∷ bytes) v rest fits e =
    let m = mapped (λ k. (Some k.0, k.1)) (result_ok (value_at bytes)) (v, rest) e in
    let t = takes value bytes m.0.0 m.0.1 (IsBytes-rest 1 bytes fits) (ok_of (value_at bytes) m.0 m.1) in
    let marked : Takes (1 ∷ bytes) (left_bytes (Some m.0.0)) m.0.1 = record { parts = ap (λ (s : List ℕ). 1 ∷ s) t.0.parts; rest_fits = t.0.rest_fits } in
    subst (λ (p : Option (List ℕ) × List ℕ). Takes (1 ∷ bytes) (left_bytes p.0) p.1 × IfSome p.0 IsValue) m.2 (marked, t.1)
left_takes (suc (suc b) ∷ bytes) v rest fits e = absurd cc

pub left_again : (v : Option (List ℕ)) (rest : List ℕ) → IfSome v IsValue → left_at (left_bytes v ++ rest) ≡ Some (v, rest)
unfolding left_at
left_again None rest h = refl
left_again (Some s) rest h = ap (λ (r : Result (List ℕ × List ℕ) FieldFault). option_map (λ k. (Some k.0, k.1)) (result_ok r)) (value.again s rest h)
