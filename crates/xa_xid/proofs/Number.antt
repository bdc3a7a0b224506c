-- The one spelling of a number in decimal.
use Rattle.std.proofs.Common.{◌≡◌, ◌≢◌, ◌⊎◌, ℕ, zero, suc, ℤ, pos, negsuc, neg_ℤ, ◌+◌, ◌/◌, ◌%◌, ◌^◌, ◌<◌, ◌≤◌, List, [], ◌∷◌, ◌++◌, length, get_or, drop, All, Result, Ok, Err, refl, sym, ap, subst, ◌∙◌, arith, inl, inr, FitsSigned, w32}
use Rattle.std.specs.Prelude.{IfOk, decimal, IsUtf8}
use Rattle.std.specs.Fmt.{signed_decimal}
use Rattle.std.specs.Int.{IsInRange}
use Rattle.std.specs.Result.{OkIff}
use Rattle.std.specs.Str.Parse.{AllDigits, digits_value, ParsesSigned}
use Rattle.std.proofs.lemmas.Fmt.{decimal_digit, decimal_step, decimal_is_IsNumeral, first_decimal, decimal-digits_value, parse-signed_decimal, IsAscii-signed, length-decimal-le}
use Rattle.std.proofs.lemmas.Str.Parse.{IsNumeralModel, numerals_by_value, tells_digits, digit_at, parse_signed_minus, parse_signed_plain}
use Rattle.std.proofs.lemmas.List.Elements.{All-cons, All-from_get_or}
use Rattle.std.proofs.lemmas.List.{length_push, length-append, append_assoc, get_or-drop}
use Rattle.std.proofs.lemmas.Bool.{cases_lt}
use Rattle.std.proofs.lemmas.Str.{IsUtf8-from_ascii}
use Rattle.xa_xid.specs.Spelling.{IsPlain}

own : IsNumeralModel (AllDigits 10) (digits_value 10)
own = numerals_by_value (AllDigits 10) tells_digits

pub decimal_at : (n : ℕ) → n < 2 ^ 32 → 10 ≤ n → decimal n ≡ decimal (n / 10) ++ ((48 + n % 10) ∷ [])
decimal_at n h k = decimal_step n k (omega arith)

pub length-decimal_at : (n : ℕ) → n < 2 ^ 32 → 10 ≤ n → length (decimal n) ≡ length (decimal (n / 10)) + 1
length-decimal_at n h k = ap length (decimal_at n h k) ∙ length_push (decimal (n / 10)) (48 + n % 10)

below_64 : (n : ℕ) → n < 2 ^ 32 → n < 2 ^ 64
below_64 n h = omega arith

digits_plain : (n : ℕ) → n < 2 ^ 32 → 0 < n → IsInRange 49 57 (get_or (decimal n) 0 0)
digits_plain n h k =
    let first = first_decimal n k (below_64 n h) in
    let digits = decimal_is_IsNumeral n (below_64 n h) in
    let range = digit_at (decimal n) 0 digits.0.1 digits.0.0 in
    (omega arith, range.1)

pub plain_signed : (z : ℤ) → FitsSigned w32 z → IsPlain (signed_decimal z)
plain_signed (pos zero) h = inl (decimal_digit 0 (omega arith))
plain_signed (pos (suc n)) h = inr (inl (digits_plain (suc n) (omega (arith, h.sfits)) (omega arith)))
plain_signed (negsuc n) h = inr (inr (refl, digits_plain (suc n) (omega (arith, h.sfits)) (omega arith)))

zero_value : digits_value 10 (48 ∷ []) ≡ 0
zero_value = refl

zero_case : {E : Type 0} (text : List ℕ) (r : Result ℤ E) → text ≡ 48 ∷ [] → ParsesSigned w32 10 text r → IfOk r (λ z. text ≡ signed_decimal z)
zero_case {E} text (Ok z) e h =
    let g : ParsesSigned {E = E} w32 10 (48 ∷ []) (Ok z) = rw e at h in
    let is_zero : z ≡ pos 0 = g.1 in
    e ∙ sym (ap signed_decimal is_zero ∙ decimal_digit 0 (omega arith))
zero_case text (Err x) e h = tt

-- what a text gives where it reads as a number
if_ok : {E : Type 0} (r : Result ℤ E) (P : Type 0) (v : ℤ) (Q : ℤ → Type 0) → OkIff r P v → (P → Q v) → IfOk r Q
if_ok (Ok z) P v Q h k = subst Q (sym h.1) (k h.0)
if_ok (Err e) P v Q h k = tt

digits_case : {E : Type 0} (text : List ℕ) (r : Result ℤ E) → IsInRange 49 57 (get_or text 0 0) → ParsesSigned w32 10 text r → IfOk r (λ z. text ≡ signed_decimal z)
digits_case text r k h =
    let plus : get_or text 0 0 ≢ 43 = omega (arith, k.0) in
    let minus : get_or text 0 0 ≢ 45 = omega (arith, k.0) in
    if_ok r (AllDigits 10 text × (0 < length text) × (digits_value 10 text < 2 ^ 31)) (pos (digits_value 10 text)) (λ z. text ≡ signed_decimal z) (parse_signed_plain own w32 text r h plus minus)
    (λ p. sym (decimal-digits_value own text p.0 p.1 (λ e. absurd (omega (arith, k.0))) (omega (arith, p.2))))

signed-negative : (v : ℕ) → 0 < v → signed_decimal (neg_ℤ (pos v)) ≡ 45 ∷ decimal v
signed-negative zero h = absurd (omega arith)
signed-negative (suc v) h = refl

-- digits that don't begin with 0 are no zero
value_positive : (digits : List ℕ) → digits ≡ decimal (digits_value 10 digits) → 49 ≤ get_or digits 0 0 → 0 < digits_value 10 digits
value_positive digits e h =
    elim (cases_lt 0 (digits_value 10 digits)) [
      | inl lt ↦ lt
      | inr le ↦
          let none : digits_value 10 digits ≡ 0 = omega arith in
          let zeros : digits ≡ 48 ∷ [] = e ∙ ap decimal none ∙ decimal_digit 0 (omega arith) in
          absurd (let first : get_or digits 0 0 ≡ 48 = ap (λ (d : List ℕ). get_or d 0 0) zeros in omega arith)
    ]

from_minus : (text : List ℕ) → get_or text 0 0 ≡ 45 → text ≡ 45 ∷ drop 1 text
from_minus [] e = absurd (omega arith)
from_minus (x ∷ text) e = cc

minus_case : {E : Type 0} (text : List ℕ) (r : Result ℤ E) → get_or text 0 0 ≡ 45 → IsInRange 49 57 (get_or text 1 0) → ParsesSigned w32 10 text r → IfOk r (λ z. text ≡ signed_decimal z)
minus_case text r e k h =
    let digits = drop 1 text in
    let first : get_or digits 0 0 ≡ get_or text 1 0 = get_or-drop 1 text 0 0 in
    if_ok r (AllDigits 10 digits × (0 < length digits) × (digits_value 10 digits ≤ 2 ^ 31)) (neg_ℤ (pos (digits_value 10 digits))) (λ z. text ≡ signed_decimal z) (parse_signed_minus own w32 text r h e)
    (λ p.
    let spelled : digits ≡ decimal (digits_value 10 digits) = sym (decimal-digits_value own digits p.0 p.1 (λ z. absurd (omega (arith, k.0))) (omega (arith, p.2))) in
    let positive : 0 < digits_value 10 digits = value_positive digits spelled (omega (arith, k.0)) in
    from_minus text e ∙ ap (λ (d : List ℕ). 45 ∷ d) spelled ∙ sym (signed-negative (digits_value 10 digits) positive))

spelled_so : {E : Type 0} (text : List ℕ) (r : Result ℤ E) → IsPlain text → ParsesSigned w32 10 text r → IfOk r (λ z. text ≡ signed_decimal z)
spelled_so text r (inl e) h = zero_case text r e h
spelled_so text r (inr (inl k)) h = digits_case text r k h
spelled_so text r (inr (inr p)) h = minus_case text r p.0 p.1 h

fits_so : {E : Type 0} (text : List ℕ) (r : Result ℤ E) → ParsesSigned w32 10 text r → IfOk r (λ z. FitsSigned w32 z)
fits_so text (Ok z) h = subst (λ (v : ℤ). FitsSigned w32 v) (sym h.1) h.0.1
fits_so text (Err e) h = tt

both : {E : Type 0} (r : Result ℤ E) (P Q : ℤ → Type 0) → IfOk r P → IfOk r Q → IfOk r (λ z. P z × Q z)
both (Ok z) P Q h k = (h, k)
both (Err e) P Q h k = tt

-- a plain text that reads as a number is the number's one spelling
pub plain_reads : {E : Type 0} (text : List ℕ) (r : Result ℤ E) → IsPlain text → ParsesSigned w32 10 text r → IfOk r (λ z. FitsSigned w32 z × (text ≡ signed_decimal z))
plain_reads text r plain h = both r (λ z. FitsSigned w32 z) (λ z. text ≡ signed_decimal z) (fits_so text r h) (spelled_so text r plain h)

-- and the number's spelling reads as the number
pub spelled_reads : {E : Type 0} (z : ℤ) (text : List ℕ) (r : Result ℤ E) → FitsSigned w32 z → text ≡ signed_decimal z → ParsesSigned w32 10 text r → r ≡ Ok z
spelled_reads z text r h e p = parse-signed_decimal w32 z text r h (omega (arith, h.sfits)) e p

pub spelled_utf8 : (z : ℤ) (text : List ℕ) → FitsSigned w32 z → text ≡ signed_decimal z → IsUtf8 text
spelled_utf8 z text h e = rw e (IsUtf8-from_ascii (signed_decimal z) (IsAscii-signed z (omega (arith, h.sfits))))

decimal_no_colon : (n : ℕ) → n < 2 ^ 32 → All (λ b. b ≢ 58) (decimal n)
decimal_no_colon n h =
    let digits = decimal_is_IsNumeral n (below_64 n h) in
    All-from_get_or (λ b. b ≢ 58) (decimal n) 0 (λ i lt e. let range = digit_at (decimal n) i digits.0.1 lt in omega (arith, range.1))

pub signed_no_colon : (z : ℤ) → FitsSigned w32 z → All (λ b. b ≢ 58) (signed_decimal z)
signed_no_colon (pos n) h = decimal_no_colon n (omega (arith, h.sfits))
signed_no_colon (negsuc n) h = All-cons (λ b. b ≢ 58) 45 (decimal (suc n)) (λ e. omega arith) (decimal_no_colon (suc n) (omega (arith, h.sfits)))

-- ---- writing

pub room_after : (old new : List ℕ) (n : ℕ) → n < 2 ^ 32 → 10 ≤ n → new ≡ old ++ decimal (n / 10) → length old + length (decimal n) ≤ 269 → length new < 269
room_after old new n h k e room = omega (arith, ap length e, length-append old (decimal (n / 10)), length-decimal_at n h k)

pub room_first : (old : List ℕ) (n : ℕ) → n < 10 → length old + length (decimal n) ≤ 269 → length old < 269
room_first old n h room = omega (arith, ap length (decimal_digit n h))

pub after_more : (old mid new : List ℕ) (n : ℕ) → n < 2 ^ 32 → 10 ≤ n → mid ≡ old ++ decimal (n / 10) → new ≡ mid ++ (48 + n % 10) ∷ [] → new ≡ old ++ decimal n
after_more old mid new n h k e f = f ∙ ap (λ (x : List ℕ). x ++ (48 + n % 10) ∷ []) e ∙ append_assoc old (decimal (n / 10)) ((48 + n % 10) ∷ []) ∙ ap (λ (x : List ℕ). old ++ x) (sym (decimal_at n h k))

pub after_one : (old new : List ℕ) (n : ℕ) → n < 10 → new ≡ old ++ (48 + n % 10) ∷ [] → new ≡ old ++ decimal n
after_one old new n h f =
    let same : n % 10 ≡ n = omega arith in
    f ∙ ap (λ (k : ℕ). old ++ (48 + k) ∷ []) same ∙ ap (λ (x : List ℕ). old ++ x) (sym (decimal_digit n h))

pub length-decimal_short : (n : ℕ) → n ≤ 2 ^ 31 → length (decimal n) ≤ 10
length-decimal_short n h = length-decimal-le 10 n (omega arith) (omega arith) (omega arith)
