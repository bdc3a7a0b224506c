-- Each field: what is read is what was written, and what was written is read again.
use Rattle.std.proofs.Common.{◌≡◌, ℕ, ◌%◌, ◌^◌, ◌<◌, ◌≤◌, Bool, true, false, cond, ltb, eqb, ◌||◌, List, [], ◌∷◌, ◌++◌, length, take, drop, Option, Some, None, Result, Ok, Err, refl, sym, ap, subst, ◌∙◌, arith}
use Rattle.std.specs.Int.{w16, to_be_bytes}
use Rattle.std.specs.Option.{ok_or}
use Rattle.std.proofs.lemmas.Bool.{ltb-false, le-ltb, or_parts, or_from}
use Rattle.std.proofs.lemmas.Bool.Decides.{nat_tests}
use Rattle.std.proofs.lemmas.List.{take_at, drop_at, take-append-drop, length-append, length-take}
use Rattle.xa_bytes.specs.Numbers.{number_at}
use Rattle.xa_bytes.proofs.Digits.{IsBytes, IsBytes-drop, Takes, wide16, number_takes, number_again}
use Rattle.xa_codes.specs.declared.direction.Direction.{Direction}
use Rattle.xa_codes.specs.declared.direction.Direction.TheVariants.{Commit, Rollback}
use Rattle.xa_xid.specs.Triple.{Triple, IsWithinLimits}
use Rattle.xa_xid.specs.Spelling.{bytes_of}
use Rattle.xa_xid.specs.Reading.{xid_at}
use Rattle.xa_xid.proofs.Front.{xid_takes, xid_again}
use Rattle.xa_limits.specs.declared.TheConstants.{MOST_VALUE}
use Rattle.xa_fields.specs.declared.fault.FieldFault.{FieldFault}
use Rattle.xa_fields.specs.declared.fault.FieldFault.TheVariants.{Cut, Limit}
use Rattle.xa_fields.specs.Limits.{IsShort, IsKey, IsValue}
use Rattle.xa_fields.specs.Spelling.{short_bytes, value_bytes, direction_byte, direction_bytes}
use Rattle.xa_fields.specs.Reading.{◌>>=◌, Reads, bytes_at, short_at, key_at, value_at, direction_at, named, name_at, ReadsBack}
use Rattle.xa_fields.proofs.Results.{bind_ok, guard_ok, ok_is}

pair_is : {A : Type 0} (x y : A) (s t : List ℕ) → ◌≡◌ {A = Result (A × List ℕ) FieldFault} (Ok (x, s)) (Ok (y, t)) → (x ≡ y) × (s ≡ t)
pair_is {A} x y s t e =
    let p = ok_is (x, s) (y, t) e in
    (ap (λ (q : A × List ℕ). q.0) p, ap (λ (q : A × List ℕ). q.1) p)

-- what stands after what was read is bytes too
pub takes : {A : Type 0} {at : Reads A} {spell : A → List ℕ} {fits : A → Type 0} (F : ReadsBack A at spell fits)
    (bytes : List ℕ) (x : A) (rest : List ℕ) → IsBytes bytes → at bytes ≡ Ok (x, rest) → Takes bytes (spell x) rest × fits x
takes {spell = spell} F bytes x rest small e =
    let t = F.found bytes x rest small e in
    let behind : drop (length (spell x)) bytes ≡ rest = ap (drop (length (spell x))) t.0 ∙ drop_at (spell x) rest (length (spell x)) refl in
    (record { parts = t.0; rest_fits = subst (λ (s : List ℕ). IsBytes s) behind (IsBytes-drop (length (spell x)) bytes small) }, t.1)

-- ---- this many bytes

bytes_take : (n : ℕ) (bytes text rest : List ℕ) → bytes_at n bytes ≡ Ok (text, rest) → (bytes ≡ text ++ rest) × (length text ≡ n)
bytes_take n bytes text rest e =
    let g = guard_ok (ltb (length bytes) n) Cut (Ok (take n bytes, drop n bytes)) (text, rest) e in
    let long : n ≤ length bytes = ltb-false _ _ g.0 in
    let p = pair_is (take n bytes) text (drop n bytes) rest g.1 in
    (sym (take-append-drop n bytes) ∙ ap (λ (s : List ℕ). s ++ drop n bytes) p.0 ∙ ap (λ (s : List ℕ). text ++ s) p.1, subst (λ (s : List ℕ). length s ≡ n) p.0 (omega (arith, length-take n bytes)))

bytes_again : (text rest : List ℕ) → bytes_at (length text) (text ++ rest) ≡ Ok (text, rest)
bytes_again text rest =
    let long : ltb (length (text ++ rest)) (length text) ≡ false = le-ltb _ _ (omega (arith, length-append text rest)) in
    rw (long, take_at text rest (length text) refl, drop_at text rest (length text) refl) refl

-- ---- a length of one byte

short_is : (n : ℕ) (bytes text rest : List ℕ) → n < 256 → bytes_at n bytes ≡ Ok (text, rest) → (n ∷ bytes ≡ short_bytes text ++ rest) × (length text ≡ n)
short_is n bytes text rest small e =
    let f = bytes_take n bytes text rest e in
    let low : length text % 256 ≡ n = omega (arith, f.1) in
    (ap (λ (k : ℕ). k ∷ bytes) (sym low) ∙ ap (λ (t : List ℕ). (length text % 256) ∷ t) f.0, f.1)

short_found : (bytes text rest : List ℕ) → IsBytes bytes → short_at bytes ≡ Ok (text, rest) → (bytes ≡ short_bytes text ++ rest) × IsShort text
unfolding short_at
short_found [] text rest small e = absurd cc
short_found (n ∷ bytes) text rest small e =
    let f = short_is n bytes text rest (small 0) e in
    (f.0, omega (arith, f.1, small 0))

short_again : (text rest : List ℕ) → IsShort text → short_at (short_bytes text ++ rest) ≡ Ok (text, rest)
unfolding short_at
short_again text rest h =
    let low : length text % 256 ≡ length text = omega (arith, h) in
    rw low (bytes_again text rest)

pub short : ReadsBack (List ℕ) short_at short_bytes IsShort
short = record { found = short_found; again = short_again }

-- ---- a key

eqb_false : (n : ℕ) → 1 ≤ n → eqb n 0 ≡ false
eqb_false n h = grind (arith, nat_tests)

false_eqb : (n : ℕ) → eqb n 0 ≡ false → 1 ≤ n
false_eqb n e = grind (arith, nat_tests)

key_found : (bytes text rest : List ℕ) → IsBytes bytes → key_at bytes ≡ Ok (text, rest) → (bytes ≡ short_bytes text ++ rest) × IsKey text
unfolding key_at
key_found [] text rest small e = absurd cc
key_found (n ∷ bytes) text rest small e =
    let g = guard_ok (eqb n 0 || ltb 64 n) Limit (bytes_at n bytes) (text, rest) e in
    let t = or_parts (eqb n 0) (ltb 64 n) g.0 in
    let f = short_is n bytes text rest (small 0) g.1 in
    let low : 1 ≤ n = false_eqb n t.0 in
    let high : n ≤ 64 = ltb-false 64 n t.1 in
    (f.0, (omega (arith, f.1), omega (arith, f.1)))

key_again : (text rest : List ℕ) → IsKey text → key_at (short_bytes text ++ rest) ≡ Ok (text, rest)
unfolding key_at
key_again text rest h =
    let low : length text % 256 ≡ length text = omega (arith, h.1) in
    let t : (eqb (length text) 0 || ltb 64 (length text)) ≡ false = or_from _ _ (eqb_false (length text) h.0) (le-ltb 64 (length text) h.1) in
    rw (low, t) (bytes_again text rest)

pub key : ReadsBack (List ℕ) key_at short_bytes IsKey
key = record { found = key_found; again = key_again }

-- ---- a value

some_of_ok : {A : Type 0} (o : Option A) (x : A) → ok_or o Cut ≡ Ok x → o ≡ Some x
some_of_ok None x e = absurd cc
some_of_ok (Some y) x e = ap (λ (z : _). Some z) (ok_is y x e)

value_found : (bytes text rest : List ℕ) → IsBytes bytes → value_at bytes ≡ Ok (text, rest) → (bytes ≡ value_bytes text ++ rest) × IsValue text
unfolding value_at
value_found bytes text rest small e =
    let b = bind_ok (ok_or (number_at w16 bytes) Cut) (λ n. cond (ltb MOST_VALUE n.0) (Err Limit) (bytes_at n.0 n.1)) (text, rest) e in
    let t = number_takes w16 (2 ^ 16) wide16 bytes b.0.0 b.0.1 small (some_of_ok (number_at w16 bytes) b.0 b.1) in
    let g = guard_ok (ltb MOST_VALUE b.0.0) Limit (bytes_at b.0.0 b.0.1) (text, rest) b.2 in
    let f = bytes_take b.0.0 b.0.1 text rest g.1 in
    let high : b.0.0 ≤ MOST_VALUE = ltb-false MOST_VALUE b.0.0 g.0 in
    let whole : bytes ≡ to_be_bytes w16 b.0.0 ++ (text ++ rest) = t.0.parts ∙ ap (λ (s : List ℕ). to_be_bytes w16 b.0.0 ++ s) f.0 in
    (subst (λ (k : ℕ). bytes ≡ to_be_bytes w16 k ++ (text ++ rest)) (sym f.1) whole, omega (arith, f.1))

value_again : (text rest : List ℕ) → IsValue text → value_at (value_bytes text ++ rest) ≡ Ok (text, rest)
unfolding value_at
value_again text rest h =
    let high : ltb MOST_VALUE (length text) ≡ false = le-ltb MOST_VALUE (length text) h in
    ap (λ (o : Option (ℕ × List ℕ)). ok_or o Cut >>= λ n. cond (ltb MOST_VALUE n.0) (Err Limit) (bytes_at n.0 n.1)) (number_again w16 (2 ^ 16) wide16 (length text) (text ++ rest) (omega (arith, h)))
    ∙ rw high (bytes_again text rest)

pub value : ReadsBack (List ℕ) value_at value_bytes IsValue
value = record { found = value_found; again = value_again }

-- ---- a direction

eqb_true : (m n : ℕ) → eqb m n ≡ true → m ≡ n
eqb_true m n e = grind (arith, nat_tests)

spelled_by : (b : ℕ) (c d : Direction) (bytes rest : List ℕ) → b ≡ direction_byte c → ◌≡◌ {A = Result (Direction × List ℕ) FieldFault} (Ok (c, bytes)) (Ok (d, rest)) → b ∷ bytes ≡ direction_bytes d ++ rest
spelled_by b c d bytes rest is e =
    let p = pair_is c d bytes rest e in
    ap (λ (k : ℕ). k ∷ bytes) is ∙ ap (λ (k : Direction). direction_byte k ∷ bytes) p.0 ∙ ap (λ (s : List ℕ). direction_byte d ∷ s) p.1

direction_chosen : (b : ℕ) (p q : Bool) (bytes : List ℕ) (d : Direction) (rest : List ℕ) → eqb b 1 ≡ p → eqb b 2 ≡ q
    → ◌≡◌ {A = Result (Direction × List ℕ) FieldFault} (cond p (Ok (Commit, bytes)) (cond q (Ok (Rollback, bytes)) (Err Limit))) (Ok (d, rest)) → b ∷ bytes ≡ direction_bytes d ++ rest
direction_chosen b true q bytes d rest h k e = spelled_by b Commit d bytes rest (eqb_true b 1 h) e
direction_chosen b false true bytes d rest h k e = spelled_by b Rollback d bytes rest (eqb_true b 2 k) e
direction_chosen b false false bytes d rest h k e = absurd cc

direction_found : (bytes : List ℕ) (d : Direction) (rest : List ℕ) → IsBytes bytes → direction_at bytes ≡ Ok (d, rest) → (bytes ≡ direction_bytes d ++ rest) × Unit {0}
unfolding direction_at
direction_found [] d rest small e = absurd cc
direction_found (b ∷ bytes) d rest small e = (direction_chosen b (eqb b 1) (eqb b 2) bytes d rest refl refl e, tt)

direction_again : (d : Direction) (rest : List ℕ) → Unit {0} → direction_at (direction_bytes d ++ rest) ≡ Ok (d, rest)
unfolding direction_at
direction_again Commit rest h = refl
direction_again Rollback rest h = refl

pub direction : ReadsBack Direction direction_at direction_bytes (λ d. Unit {0})
direction = record { found = direction_found; again = direction_again }

-- ---- an XID

named_is : (bytes : List ℕ) (o : Option (Triple × ℕ)) (x : Triple) (rest : List ℕ) → IsBytes bytes → xid_at bytes ≡ o → named bytes o ≡ Ok (x, rest) → (bytes ≡ bytes_of x ++ rest) × IsWithinLimits x
named_is bytes None x rest small h e = absurd cc
named_is bytes (Some y) x rest small h e =
    let begins = xid_takes bytes y.0 y.1 small h in
    let p = pair_is y.0 x (drop y.1 bytes) rest e in
    let whole : bytes ≡ bytes_of y.0 ++ drop y.1 bytes = sym (take-append-drop y.1 bytes) ∙ ap (λ (t : List ℕ). t ++ drop y.1 bytes) begins.front in
    subst (λ (r : List ℕ). (bytes ≡ bytes_of x ++ r) × IsWithinLimits x) p.1 (subst (λ (z : Triple). (bytes ≡ bytes_of z ++ drop y.1 bytes) × IsWithinLimits z) p.0 (whole, begins.limits))

name_found : (bytes : List ℕ) (x : Triple) (rest : List ℕ) → IsBytes bytes → name_at bytes ≡ Ok (x, rest) → (bytes ≡ bytes_of x ++ rest) × IsWithinLimits x
unfolding name_at
name_found bytes x rest small e = named_is bytes (xid_at bytes) x rest small refl e

name_again : (x : Triple) (rest : List ℕ) → IsWithinLimits x → name_at (bytes_of x ++ rest) ≡ Ok (x, rest)
unfolding name_at
name_again x rest h =
    ap (λ (o : Option (Triple × ℕ)). named (bytes_of x ++ rest) o) (xid_again x rest h)
    ∙ ap (λ (r : List ℕ). Ok (x, r)) (drop_at (bytes_of x) rest (length (bytes_of x)) refl)

pub name : ReadsBack Triple name_at bytes_of IsWithinLimits
name = record { found = name_found; again = name_again }
