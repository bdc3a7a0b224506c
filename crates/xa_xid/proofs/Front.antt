-- What is read at the front is spelled so, and what is spelled so is read.
use Rattle.std.proofs.Common.{◌≡◌, ℕ, zero, suc, ℤ, ◌+◌, ◌<◌, ◌≤◌, Bool, true, false, cond, ltb, eqb, ◌||◌, List, [], ◌∷◌, ◌++◌, length, get_or, take, drop, All, Option, Some, None, Result, Ok, Err, refl, sym, ap, subst, ◌∙◌, append_assoc, arith, pos, negsuc, ◌^◌, ◌/◌, ◌%◌, FitsSigned, w32}
use Rattle.std.specs.Ordering.{int_eq}
use Rattle.std.specs.Prelude.{option_map, IfSome}
use Rattle.std.specs.Result.{result_ok}
use Rattle.std.specs.Int.{from_be_bytes, to_be_bytes, cast_signed, cast_unsigned}
use Rattle.std.proofs.lemmas.Bool.{ltb-false, le-ltb, or_parts, or_from}
use Rattle.std.proofs.lemmas.Bool.Decides.{Decides-int_eq, nat_tests}
use Rattle.std.proofs.lemmas.Int.{to_z-of_z, of_z-to_z}
use Rattle.std.proofs.lemmas.List.{take_at, drop_at, take-take, drop-take, take-append-drop, append_cancel_left, length-append, length-take, length-drop}
use Rattle.std.proofs.lemmas.List.Elements.{All-take, All-drop, All-from_get_or}
use Rattle.std.proofs.Math.Facts.{sfits_to_z, Fits-of_lt}
use Rattle.std.proofs.lemmas.Nat.{be_bytes_4, from_be_bytes-to_be_bytes_4}
use Rattle.std.proofs.lemmas.Option.{some_pair_parts}
use Rattle.xa_xid.specs.declared.xid.XidFault.{XidFault}
use Rattle.xa_xid.specs.declared.xid.XidFault.TheVariants.{Null, GtridLength, BqualLength}
use Rattle.xa_xid.specs.Triple.{Triple, IsXid, IsWithinLimits}
use Rattle.xa_xid.specs.Fault.{xid_of}
use Rattle.xa_xid.specs.Spelling.{bytes_of, BeginsWith}
use Rattle.xa_xid.specs.Reading.{parts_at, xid_at}

not_true : (b : Bool) → (b ≡ true → ⊥) → b ≡ false
not_true true h = absurd (h refl)
not_true false h = refl

fault_free : (a b c : Bool) (v x : Triple) → cond a (Err Null) (cond b (Err GtridLength) (cond c (Err BqualLength) (Ok v))) ≡ Ok x → (a ≡ false) × (b ≡ false) × (c ≡ false) × (v ≡ x)
fault_free true b c v x e = absurd cc
fault_free false true c v x e = absurd cc
fault_free false false true v x e = absurd cc
fault_free false false false v x e = (refl, refl, refl, cc)

eqb_false : (n : ℕ) → 1 ≤ n → eqb n 0 ≡ false
eqb_false n h = grind (arith, nat_tests)

false_eqb : (n : ℕ) → eqb n 0 ≡ false → 1 ≤ n
false_eqb n e = grind (arith, nat_tests)

-- parts within the limits make an XID
pub xid_of_limits : (x : Triple) → IsXid x.format x.gtrid x.bqual → xid_of x.format x.gtrid x.bqual ≡ Ok x
xid_of_limits x h =
    let n : int_eq x.format (negsuc 0) ≡ false = not_true (int_eq x.format (negsuc 0)) (λ t. h.0 ((Decides-int_eq x.format (negsuc 0)).0 t)) in
    let g : (eqb (length x.gtrid) 0 || ltb 64 (length x.gtrid)) ≡ false = or_from (eqb (length x.gtrid) 0) (ltb 64 (length x.gtrid)) (eqb_false (length x.gtrid) h.1) (le-ltb 64 (length x.gtrid) h.2) in
    let b : ltb 64 (length x.bqual) ≡ false = le-ltb 64 (length x.bqual) h.3 in
    rw (n, g, b) refl

-- and no others do
pub limits_of_xid : (format : ℤ) (gtrid bqual : List ℕ) (x : Triple) → xid_of format gtrid bqual ≡ Ok x → IsXid format gtrid bqual × (record { format = format; gtrid = gtrid; bqual = bqual } ≡ x)
limits_of_xid format gtrid bqual x e =
    let t = fault_free (int_eq format (negsuc 0)) (eqb (length gtrid) 0 || ltb 64 (length gtrid)) (ltb 64 (length bqual)) (record { format = format; gtrid = gtrid; bqual = bqual }) x e in
    let g = or_parts (eqb (length gtrid) 0) (ltb 64 (length gtrid)) t.1 in
    let apart : format ≡ negsuc 0 → ⊥ = λ same. absurd (let both : true ≡ false = sym ((Decides-int_eq format (negsuc 0)).1 same) ∙ t.0 in cc) in
    ((apart, false_eqb (length gtrid) g.0, ltb-false 64 (length gtrid) g.1, ltb-false 64 (length bqual) t.2), t.3)

past_none : {A : Type 0} (b : Bool) (o : Option A) (y : A) → cond b None o ≡ Some y → (b ≡ false) × (o ≡ Some y)
past_none true o y e = absurd cc
past_none false o y e = (refl, e)

some_same : {A : Type 0} (x y : A) → ◌≡◌ {A = Option A} (Some x) (Some y) → x ≡ y
some_same x y e = cc

-- what was made and given on with its length
made : (r : Result Triple XidFault) (k : ℕ) (x : Triple) (n : ℕ) → option_map {U = Triple × ℕ} (λ y. (y, k)) (result_ok r) ≡ Some (x, n) → (r ≡ Ok x) × (k ≡ n)
made (Ok y) k x n e = let p = some_pair_parts y x k n e in (cc p.0, p.1)
made (Err f) k x n e = absurd cc

unsigned_below : (z : ℤ) → FitsSigned w32 z → cast_unsigned w32 z < 2 ^ 32
unsigned_below (pos n) h = omega (arith, h.sfits)
unsigned_below (negsuc n) h = omega (arith, h.sfits)

parts_again : (x : Triple) (rest : List ℕ) → IsXid x.format x.gtrid x.bqual → parts_at x.format (length x.gtrid) (length x.bqual) (x.gtrid ++ x.bqual ++ rest) ≡ Some (x, 6 + length x.gtrid + length x.bqual)
unfolding parts_at
parts_again x rest h =
    let long : ltb (length (x.gtrid ++ (x.bqual ++ rest))) (length x.gtrid + length x.bqual) ≡ false = le-ltb _ _ (omega (arith, length-append x.gtrid (x.bqual ++ rest), length-append x.bqual rest)) in
    rw (append_assoc x.gtrid x.bqual rest, long, take_at x.gtrid (x.bqual ++ rest) (length x.gtrid) refl, drop_at x.gtrid (x.bqual ++ rest) (length x.gtrid) refl, take_at x.bqual rest (length x.bqual) refl, xid_of_limits x h) refl

head_at : (a b c d g l : ℕ) (parts : List ℕ) → xid_at (a ∷ b ∷ c ∷ d ∷ g ∷ l ∷ parts) ≡ parts_at (cast_signed w32 (from_be_bytes w32 (a ∷ b ∷ c ∷ d ∷ []))) g l parts
unfolding xid_at
head_at a b c d g l parts =
    let long : ltb (length (a ∷ b ∷ c ∷ d ∷ g ∷ l ∷ parts)) 6 ≡ false = le-ltb _ _ (omega arith) in
    rw long refl

-- what is spelled so is read, whatever follows it
pub xid_again : (x : Triple) (rest : List ℕ) → IsWithinLimits x → xid_at (bytes_of x ++ rest) ≡ Some (x, length (bytes_of x))
xid_again x rest h =
    let m = cast_unsigned w32 x.format in
    let format : cast_signed w32 (from_be_bytes w32 (to_be_bytes w32 m)) ≡ x.format = ap (cast_signed w32) (from_be_bytes-to_be_bytes_4 m (unsigned_below x.format h.format)) ∙ to_z-of_z w32 x.format h.format in
    let len : 6 + length x.gtrid + length x.bqual ≡ length (bytes_of x) = omega (arith, length-append x.gtrid x.bqual) in
    head_at (m / 16777216 % 256) (m / 65536 % 256) (m / 256 % 256) (m % 256) (length x.gtrid) (length x.bqual) (x.gtrid ++ x.bqual ++ rest)
    ∙ ap (λ (z : ℤ). parts_at z (length x.gtrid) (length x.bqual) (x.gtrid ++ x.bqual ++ rest)) format
    ∙ parts_again x rest h.lengths
    ∙ ap (λ (k : ℕ). Some (x, k)) len

within : (bytes : List ℕ) (g n : ℕ) → ((i : ℕ) → get_or bytes i 0 < 256) → All (λ b. b < 256) (take n (drop g bytes))
within bytes g n fits = All-take (λ b. b < 256) n (drop g bytes) (All-drop (λ b. b < 256) g bytes (All-from_get_or (λ b. b < 256) bytes 0 (λ i _. fits i)))

first_four : (a b c d : ℕ) (rest : List ℕ) → ((i : ℕ) → get_or (a ∷ b ∷ c ∷ d ∷ rest) i 0 < 256) → (i : ℕ) → get_or (a ∷ b ∷ c ∷ d ∷ []) i 0 < 256
first_four a b c d rest fits zero = fits 0
first_four a b c d rest fits (suc zero) = fits 1
first_four a b c d rest fits (suc (suc zero)) = fits 2
first_four a b c d rest fits (suc (suc (suc zero))) = fits 3
first_four a b c d rest fits (suc (suc (suc (suc i)))) = omega arith

number_below : (a b c d : ℕ) → ((i : ℕ) → get_or (a ∷ b ∷ c ∷ d ∷ []) i 0 < 256) → from_be_bytes w32 (a ∷ b ∷ c ∷ d ∷ []) < 2 ^ 32
number_below a b c d fits = omega (arith, fits 0, fits 1, fits 2, fits 3)

take-add : (g l : ℕ) (xs : List ℕ) → take (g + l) xs ≡ take g xs ++ take l (drop g xs)
take-add g l xs = sym (take-append-drop g (take (g + l) xs)) ∙ rw (take-take g (g + l) xs (omega arith), drop-take g l xs) refl

spells : (z : ℤ) (a b c d g l : ℕ) (gtrid bqual both : List ℕ) → to_be_bytes w32 (cast_unsigned w32 z) ≡ a ∷ b ∷ c ∷ d ∷ [] → length gtrid ≡ g → length bqual ≡ l → both ≡ gtrid ++ bqual
    → bytes_of (record { format = z; gtrid = gtrid; bqual = bqual }) ≡ a ∷ b ∷ c ∷ d ∷ g ∷ l ∷ both
spells z a b c d g l gtrid bqual both head g-len l-len parts =
    ap (λ (bs : List ℕ). bs ++ (length gtrid ∷ length bqual ∷ (gtrid ++ bqual))) head ∙ rw (g-len, l-len, ← parts) refl

tail_fits : (a b c d g l : ℕ) (parts : List ℕ) → ((i : ℕ) → get_or (a ∷ b ∷ c ∷ d ∷ g ∷ l ∷ parts) i 0 < 256) → (i : ℕ) → get_or parts i 0 < 256
tail_fits a b c d g l parts fits i = fits (suc (suc (suc (suc (suc (suc i))))))

-- parts that were read stand at the front
parts_take : (a b c d g l : ℕ) (parts : List ℕ) (x : Triple) (n : ℕ) → ((i : ℕ) → get_or (a ∷ b ∷ c ∷ d ∷ g ∷ l ∷ parts) i 0 < 256)
    → parts_at (cast_signed w32 (from_be_bytes w32 (a ∷ b ∷ c ∷ d ∷ []))) g l parts ≡ Some (x, n) → BeginsWith (a ∷ b ∷ c ∷ d ∷ g ∷ l ∷ parts) x n
unfolding parts_at
parts_take a b c d g l parts x n fits e =
    let m = from_be_bytes w32 (a ∷ b ∷ c ∷ d ∷ []) in
    let z = cast_signed w32 m in
    let p = past_none (ltb (length parts) (g + l)) _ (x, n) e in
    let long : g + l ≤ length parts = ltb-false _ _ p.0 in
    let q = made (xid_of z (take g parts) (take l (drop g parts))) (6 + g + l) x n p.1 in
    let gtrid = take g parts in
    let bqual = take l (drop g parts) in
    let r = limits_of_xid z gtrid bqual x q.0 in
    let four = first_four a b c d (g ∷ l ∷ parts) fits in
    let below : m < 2 ^ 32 = number_below a b c d four in
    let head : to_be_bytes w32 (cast_unsigned w32 z) ≡ a ∷ b ∷ c ∷ d ∷ [] = ap (to_be_bytes w32) (of_z-to_z w32 m below) ∙ be_bytes_4 (a ∷ b ∷ c ∷ d ∷ []) m refl four refl in
    let g-len : length gtrid ≡ g = omega (arith, length-take g parts) in
    let l-len : length bqual ≡ l = omega (arith, length-take l (drop g parts), length-drop g parts) in
    let count : 6 + g + l ≡ suc (suc (suc (suc (suc (suc (g + l)))))) = omega arith in
    let spelled : bytes_of (record { format = z; gtrid = gtrid; bqual = bqual }) ≡ a ∷ b ∷ c ∷ d ∷ g ∷ l ∷ take (g + l) parts = spells z a b c d g l gtrid bqual (take (g + l) parts) head g-len l-len (take-add g l parts) in
    let front : take (6 + g + l) (a ∷ b ∷ c ∷ d ∷ g ∷ l ∷ parts) ≡ a ∷ b ∷ c ∷ d ∷ g ∷ l ∷ take (g + l) parts = rw count refl in
    let long' : length (take (g + l) parts) ≡ g + l = omega (arith, length-take (g + l) parts) in
    let begins : BeginsWith (a ∷ b ∷ c ∷ d ∷ g ∷ l ∷ parts) (record { format = z; gtrid = gtrid; bqual = bqual }) (6 + g + l) = record {
      limits = record {
        format = sfits_to_z (Fits-of_lt below);
        lengths = r.0;
        gtrid = within parts 0 g (tail_fits a b c d g l parts fits);
        bqual = within parts g l (tail_fits a b c d g l parts fits);
      };
      front = front ∙ sym spelled;
      len = omega (arith, ap length spelled);
      fits = omega arith;
    } in
    subst (λ (y : Triple). BeginsWith (a ∷ b ∷ c ∷ d ∷ g ∷ l ∷ parts) y n) r.1 (subst (λ (k : ℕ). BeginsWith (a ∷ b ∷ c ∷ d ∷ g ∷ l ∷ parts) (record { format = z; gtrid = gtrid; bqual = bqual }) k) q.1 begins)

-- what is read is spelled so
pub xid_takes : (bytes : List ℕ) (x : Triple) (n : ℕ) → ((i : ℕ) → get_or bytes i 0 < 256) → xid_at bytes ≡ Some (x, n) → BeginsWith bytes x n
unfolding xid_at
xid_takes [] x n fits e = absurd cc
xid_takes (a ∷ []) x n fits e = absurd cc
xid_takes (a ∷ b ∷ []) x n fits e = absurd cc
xid_takes (a ∷ b ∷ c ∷ []) x n fits e = absurd cc
xid_takes (a ∷ b ∷ c ∷ d ∷ []) x n fits e = absurd cc
xid_takes (a ∷ b ∷ c ∷ d ∷ g ∷ []) x n fits e = absurd cc
xid_takes (a ∷ b ∷ c ∷ d ∷ g ∷ l ∷ parts) x n fits e = parts_take a b c d g l parts x n fits (sym (head_at a b c d g l parts) ∙ e)

pub found : (bytes : List ℕ) (r : Option (Triple × ℕ)) → ((i : ℕ) → get_or bytes i 0 < 256) → r ≡ xid_at bytes → IfSome r (λ p. BeginsWith bytes p.0 p.1)
found bytes None fits e = tt
found bytes (Some p) fits e = xid_takes bytes p.0 p.1 fits (sym e)

-- no XID's bytes begin those of another, and the bytes determine the XID
pub one_reading : (x y : Triple) (s t : List ℕ) → IsWithinLimits x → IsWithinLimits y → bytes_of x ++ s ≡ bytes_of y ++ t → (x ≡ y) × (s ≡ t)
one_reading x y s t h k e =
    let both : Some (x, length (bytes_of x)) ≡ Some (y, length (bytes_of y)) = sym (xid_again x s h) ∙ ap xid_at e ∙ xid_again y t k in
    let same : x ≡ y = (some_pair_parts x y (length (bytes_of x)) (length (bytes_of y)) both).0 in
    (same, append_cancel_left (bytes_of x) s t (e ∙ ap (λ (z : Triple). bytes_of z ++ t) (sym same)))
