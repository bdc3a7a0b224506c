-- A function that reads the texts of XIDs: it takes a text apart, whatever stands in it, and looks whether what it made of
-- the parts is spelled so.
use Rattle.std.proofs.Common.{◌≡◌, ℕ, ◌+◌, ◌-◌, ◌*◌, ◌/◌, ◌%◌, ◌<◌, ◌==◌, ◌≢◌, suc, nat_lt, ℤ, pos, negsuc, neg_ℤ, Bool, true, false, List, [], ◌∷◌, ◌++◌, get_or, All, Option, Some, None, IfSome, if◌then◌else◌, refl, sym, ap, ◌∙◌, arith, FitsSigned, w32}
use Rattle.std.specs.Prelude.{bytes_eq, decimal}
use Rattle.std.specs.Fmt.{signed_decimal}
use Rattle.std.specs.Int.{int_wrap}
use Rattle.std.specs.List.{slice_split}
use Rattle.std.specs.Result.{result_ok}
use Rattle.std.specs.Str.Parse.{signed_digits_value}
use Rattle.std.proofs.lemmas.Bool.{ne_eqb}
use Rattle.std.proofs.lemmas.Bool.Decides.{nat_tests}
use Rattle.std.proofs.lemmas.Fmt.{decimal_is_IsNumeral}
use Rattle.std.proofs.lemmas.Int.{SFits-int_wrap, int_wrap_fits}
use Rattle.std.proofs.lemmas.List.Elements.{All-cons, All-head, All-nil, All-tail, All-weaker}
use Rattle.std.proofs.lemmas.List.Splits.{slice_split_at, slice_split_none}
use Rattle.std.proofs.lemmas.Slice.Eq.{bytes_eq-Decides}
use Rattle.std.proofs.lemmas.Str.Parse.{digit_at}
use Rattle.xa_xid.specs.Fault.{xid_of}
use Rattle.xa_xid.specs.Spelling.{hex, hex_digit, text_of}
use Rattle.xa_xid.specs.Triple.{Triple, IsWithinLimits}
use Rattle.xa_xid.proofs.Front.{xid_of_limits}
use Rattle.xa_xid.proofs.Hex.{hex_no_colon}
use Rattle.xa_xid.proofs.Number.{signed_no_colon}
use Rattle.xa_xid.proofs.Parts.{made_so}
use Rattle.xa_script.specs.Requests.{ReadsTexts}

-- ---- bytes

abbrev digit_from : ℕ → ℕ
digit_from c = if nat_lt c 58 then c - 48 else c - 87

abbrev bytes_from : List ℕ → List ℕ
bytes_from [] = []
bytes_from (high ∷ []) = []
bytes_from (high ∷ low ∷ digits) = ((16 * digit_from high + digit_from low) % 256) ∷ bytes_from digits

digit_from_hex : (n : ℕ) → n < 16 → digit_from (hex_digit n) ≡ n
digit_from_hex n h = grind (arith, nat_tests)

bytes_from_hex : (bytes : List ℕ) → All (λ b. b < 256) bytes → bytes_from (hex bytes) ≡ bytes
bytes_from_hex [] h = refl
bytes_from_hex (b ∷ bytes) h =
    let small : b < 256 = All-head (λ b. b < 256) b bytes h in
    let high = digit_from_hex (b / 16) (omega arith) in
    let low = digit_from_hex (b % 16) (omega arith) in
    let byte : (16 * digit_from (hex_digit (b / 16)) + digit_from (hex_digit (b % 16))) % 256 ≡ b = rw (high, low) (omega arith) in
    let rest = bytes_from_hex bytes (All-tail (λ b. b < 256) b bytes h) in
    ap (λ (n : ℕ). n ∷ bytes_from (hex bytes)) byte ∙ ap (λ (s : List ℕ). b ∷ s) rest

all_bytes : (digits : List ℕ) → All (λ b. b < 256) (bytes_from digits)
all_bytes [] = All-nil (λ b. b < 256)
all_bytes (high ∷ []) = All-nil (λ b. b < 256)
all_bytes (high ∷ low ∷ digits) = All-cons (λ b. b < 256) ((16 * digit_from high + digit_from low) % 256) (bytes_from digits) (omega arith) (all_bytes digits)

-- ---- numbers

abbrev number_from : List ℕ → ℤ
number_from text = int_wrap w32 (signed_digits_value 10 text)

signed_value : (z : ℤ) → FitsSigned w32 z → signed_digits_value 10 (signed_decimal z) ≡ z
signed_value (pos n) h =
    let digits = decimal_is_IsNumeral n (omega (arith, h.sfits)) in
    let first = digit_at (decimal n) 0 digits.0.1 digits.0.0 in
    let minus : (get_or (decimal n) 0 0 == 45) ≡ false = ne_eqb (get_or (decimal n) 0 0) 45 (λ e. omega (arith, first.0)) in
    let plus : (get_or (decimal n) 0 0 == 43) ≡ false = ne_eqb (get_or (decimal n) 0 0) 43 (λ e. omega (arith, first.0)) in
    rw (minus, plus) (ap (λ (k : ℕ). pos k) digits.1)
signed_value (negsuc n) h =
    let digits = decimal_is_IsNumeral (suc n) (omega (arith, h.sfits)) in
    ap (λ (k : ℕ). neg_ℤ (pos k)) digits.1

number_from_decimal : (z : ℤ) → FitsSigned w32 z → number_from (signed_decimal z) ≡ z
number_from_decimal z h = ap (int_wrap w32) (signed_value z h) ∙ int_wrap_fits w32 z h

-- ---- texts

abbrev parts_at_colons : List ℕ → List (List ℕ)
parts_at_colons text = slice_split (λ b. b == 58) text

abbrev xid_from_parts : List (List ℕ) → Option Triple
xid_from_parts (format ∷ gtrid ∷ bqual ∷ []) = result_ok (xid_of (number_from format) (bytes_from gtrid) (bytes_from bqual))
xid_from_parts _ = None

abbrev if_spelled : List ℕ → Option Triple → Option Triple
if_spelled text None = None
if_spelled text (Some x) = if bytes_eq (text_of x) text then Some x else None

abbrev pub reader : List ℕ → Option Triple
reader text = if_spelled text (xid_from_parts (parts_at_colons text))

abbrev is_colon : ℕ → Bool
is_colon b = b == 58

no_part : (text : List ℕ) → All (λ b. b ≢ 58) text → All (λ b. is_colon b ≡ false) text
no_part text h = All-weaker (λ b. b ≢ 58) (λ b. is_colon b ≡ false) (λ b ne. ne_eqb b 58 ne) text h

three_parts : (x : Triple) → IsWithinLimits x → parts_at_colons (text_of x) ≡ signed_decimal x.format ∷ hex x.gtrid ∷ hex x.bqual ∷ []
three_parts x h =
    slice_split_at is_colon (signed_decimal x.format) 58 (hex x.gtrid ++ (58 ∷ hex x.bqual)) (no_part (signed_decimal x.format) (signed_no_colon x.format h.format)) refl
    ∙ ap (λ (parts : List (List ℕ)). signed_decimal x.format ∷ parts) (slice_split_at is_colon (hex x.gtrid) 58 (hex x.bqual) (no_part (hex x.gtrid) (hex_no_colon x.gtrid)) refl)
    ∙ ap (λ (parts : List (List ℕ)). signed_decimal x.format ∷ hex x.gtrid ∷ parts) (slice_split_none is_colon (hex x.bqual) (no_part (hex x.bqual) (hex_no_colon x.bqual)))

reads_each : (x : Triple) → IsWithinLimits x → reader (text_of x) ≡ Some x
reads_each x h =
    let number = number_from_decimal x.format h.format in
    let gtrid = bytes_from_hex x.gtrid h.gtrid in
    let bqual = bytes_from_hex x.bqual h.bqual in
    let made : xid_from_parts (parts_at_colons (text_of x)) ≡ Some x = rw (three_parts x h, number, gtrid, bqual, xid_of_limits x h.lengths) refl in
    let same : bytes_eq (text_of x) (text_of x) ≡ true = (bytes_eq-Decides (text_of x) (text_of x)).1 refl in
    ap (if_spelled (text_of x)) made ∙ rw same refl

first_of_both : (o : Option Triple) (P : Triple → Type 0) → IfSome o (λ x. IsWithinLimits x × P x) → IfSome o (λ x. IsWithinLimits x)
first_of_both None P h = tt
first_of_both (Some x) P h = h.0

from_parts_limits : (parts : List (List ℕ)) → IfSome (xid_from_parts parts) (λ x. IsWithinLimits x)
from_parts_limits [] = tt
from_parts_limits (format ∷ []) = tt
from_parts_limits (format ∷ gtrid ∷ []) = tt
from_parts_limits (format ∷ gtrid ∷ bqual ∷ []) =
    let z = number_from format in
    let g = bytes_from gtrid in
    let b = bytes_from bqual in
    first_of_both (result_ok (xid_of z g b)) (λ x. signed_decimal z ++ (58 ∷ (hex g ++ (58 ∷ hex b))) ≡ text_of x)
    (made_so (signed_decimal z ++ (58 ∷ (hex g ++ (58 ∷ hex b)))) z g b (xid_of z g b) refl (SFits-int_wrap w32 (signed_digits_value 10 format)) (all_bytes gtrid) (all_bytes bqual) refl)
from_parts_limits (format ∷ gtrid ∷ bqual ∷ other ∷ others) = tt

spelled_by : (text : List ℕ) (x : Triple) (b : Bool) → bytes_eq (text_of x) text ≡ b → IsWithinLimits x →
    IfSome (if b then Some x else None) (λ y. IsWithinLimits y × (text ≡ text_of y))
spelled_by text x true e h = (h, sym ((bytes_eq-Decides (text_of x) text).0 e))
spelled_by text x false e h = tt

spelled_so : (text : List ℕ) (o : Option Triple) → IfSome o (λ x. IsWithinLimits x) → IfSome (if_spelled text o) (λ x. IsWithinLimits x × (text ≡ text_of x))
spelled_so text None h = tt
spelled_so text (Some x) h = spelled_by text x (bytes_eq (text_of x) text) refl h

reads_only : (text : List ℕ) → IfSome (reader text) (λ x. IsWithinLimits x × (text ≡ text_of x))
reads_only text = spelled_so text (xid_from_parts (parts_at_colons text)) (from_parts_limits (parts_at_colons text))

pub reads_texts : ReadsTexts reader
reads_texts = record { each = reads_each; only = reads_only }
