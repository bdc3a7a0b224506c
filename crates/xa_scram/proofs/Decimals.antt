-- The one spelling of a number in decimal.
use Rattle.std.proofs.Common.{◌≡◌, ◌≢◌, ℕ, ◌+◌, ◌/◌, ◌%◌, ◌^◌, ◌<◌, ◌≤◌, List, [], ◌∷◌, ◌++◌, length, get_or, Result, Ok, Err, sym, ap, subst}
use Rattle.std.proofs.Common.{◌∙◌, arith}
use Rattle.std.specs.Prelude.{IfOk, decimal, IsUtf8}
use Rattle.std.specs.Result.{OkIff}
use Rattle.std.specs.Str.Parse.{AllDigits, digits_value, ParsesUnsigned}
use Rattle.std.proofs.lemmas.Fmt.{decimal_digit, decimal_step, decimal_is_IsNumeral, first_decimal, decimal-digits_value, parse-decimal}
use Rattle.std.proofs.lemmas.Fmt.{IsAscii-decimal, length-decimal-le}
use Rattle.std.proofs.lemmas.Str.Parse.{IsNumeralModel, numerals_by_value, tells_digits, digit_at, parse_plain}
use Rattle.std.proofs.lemmas.List.Elements.{All-from_get_or}
use Rattle.std.proofs.lemmas.List.{length_push, length-append, append_assoc}
use Rattle.std.proofs.lemmas.Str.{IsUtf8-from_ascii}
use Rattle.xa_scram.specs.Cutting.{HasNone, IsPlain}

own : IsNumeralModel (AllDigits 10) (digits_value 10)
own = numerals_by_value (AllDigits 10) tells_digits

pub decimal_at : (n : ℕ) → n < 2 ^ 32 → 10 ≤ n → decimal n ≡ decimal (n / 10) ++ ((48 + n % 10) ∷ [])
decimal_at n h k = decimal_step n k (omega arith)

pub length-decimal_at : (n : ℕ) → n < 2 ^ 32 → 10 ≤ n → length (decimal n) ≡ length (decimal (n / 10)) + 1
length-decimal_at n h k = ap length (decimal_at n h k) ∙ length_push (decimal (n / 10)) (48 + n % 10)

below_64 : (n : ℕ) → n < 2 ^ 32 → n < 2 ^ 64
below_64 n h = omega arith

-- a number other than 0 begins with another digit
pub plain_decimal : (n : ℕ) → n < 2 ^ 32 → 0 < n → IsPlain (decimal n)
plain_decimal n h k =
    let first = first_decimal n k (below_64 n h) in
    let digits = decimal_is_IsNumeral n (below_64 n h) in
    let range = digit_at (decimal n) 0 digits.0.1 digits.0.0 in
    (omega arith, range.1)

if_ok : {E : Type 0} (r : Result ℕ E) (P : Type 0) (v : ℕ) (Q : ℕ → Type 0) → OkIff r P v → (P → Q v) → IfOk r Q
if_ok (Ok z) P v Q h k = subst Q (sym h.1) (k h.0)
if_ok (Err e) P v Q h k = tt

-- a plain text that reads as a number is the number's one spelling
pub plain_reads : {E : Type 0} (text : List ℕ) (r : Result ℕ E) → IsPlain text → ParsesUnsigned 32 10 text r → IfOk r (λ n. text ≡ decimal n)
plain_reads text r k h =
    let plus : get_or text 0 0 ≢ 43 = omega (arith, k.0) in
    if_ok r (AllDigits 10 text × (0 < length text) × (digits_value 10 text < 2 ^ 32)) (digits_value 10 text) (λ n. text ≡ decimal n)
    (parse_plain own 32 text r h plus)
    (λ p. sym (decimal-digits_value own text p.0 p.1 (λ e. absurd (omega (arith, k.0))) (omega (arith, p.2))))

-- and the number's spelling reads as the number
pub spelled_reads : {E : Type 0} (n : ℕ) (text : List ℕ) (r : Result ℕ E) → n < 2 ^ 32 → text ≡ decimal n → ParsesUnsigned 32 10 text r → r ≡ Ok n
spelled_reads n text r h e p = parse-decimal 32 n text r h (below_64 n h) e p

pub spelled_utf8 : (n : ℕ) (text : List ℕ) → n < 2 ^ 32 → text ≡ decimal n → IsUtf8 text
spelled_utf8 n text h e = rw e (IsUtf8-from_ascii (decimal n) (IsAscii-decimal n (below_64 n h)))

-- digits are neither a colon nor a comma
pub decimal_none : (byte n : ℕ) → n < 2 ^ 32 → (48 ≤ byte → byte ≤ 57 → ⊥) → HasNone byte (decimal n)
decimal_none byte n h other =
    let digits = decimal_is_IsNumeral n (below_64 n h) in
    All-from_get_or (λ b. b ≢ byte) (decimal n) 0 (λ i lt e. let range =
    digit_at (decimal n) i digits.0.1 lt in other (omega (arith, range.0)) (omega (arith, range.1)))

pub length-decimal_count : (n : ℕ) → n ≤ 1000000 → length (decimal n) ≤ 7
length-decimal_count n h = length-decimal-le 7 n (omega arith) (omega arith) (omega arith)

-- ---- writing

pub room_after : (old new : List ℕ) (n : ℕ) → n < 2 ^ 32 → 10 ≤ n → new ≡ old ++ decimal (n / 10) → length old + length (decimal n) ≤ 256
    → length new < 256
room_after old new n h k e room = omega (arith, ap length e, length-append old (decimal (n / 10)), length-decimal_at n h k)

pub room_first : (old : List ℕ) (n : ℕ) → n < 10 → length old + length (decimal n) ≤ 256 → length old < 256
room_first old n h room = omega (arith, ap length (decimal_digit n h))

pub after_more : (old mid new : List ℕ) (n : ℕ) → n < 2 ^ 32 → 10 ≤ n → mid ≡ old ++ decimal (n / 10) → new ≡ mid ++ (48 + n % 10) ∷ []
    → new ≡ old ++ decimal n
after_more old mid new n h k e f = f ∙ ap (λ (x : List ℕ). x ++ (48 + n % 10) ∷ []) e ∙ append_assoc old (decimal (n / 10)) ((48 + n % 10) ∷ [])
    ∙ ap (λ (x : List ℕ). old ++ x) (sym (decimal_at n h k))

pub after_one : (old new : List ℕ) (n : ℕ) → n < 10 → new ≡ old ++ (48 + n % 10) ∷ [] → new ≡ old ++ decimal n
after_one old new n h f =
    let same : n % 10 ≡ n = omega arith in
    f ∙ ap (λ (k : ℕ). old ++ (48 + k) ∷ []) same ∙ ap (λ (x : List ℕ). old ++ x) (sym (decimal_digit n h))
