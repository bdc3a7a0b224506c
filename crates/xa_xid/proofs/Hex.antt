-- What hexadecimal digits spell.
use Rattle.std.proofs.Common.{◌≡◌, ◌≢◌, ℕ, ◌+◌, ◌*◌, ◌/◌, ◌%◌, ◌<◌, ◌≤◌, List, [], ◌∷◌, ◌++◌, length, take, drop, get_or, All, refl, sym, ap, subst, ◌∙◌, arith}
use Rattle.std.proofs.lemmas.Bool.Decides.{nat_tests}
use Rattle.std.proofs.lemmas.List.{append-nil, length-append, length-take, nil_from_length, drop_at}
use Rattle.std.proofs.lemmas.List.Concat.{flat_map-append}
use Rattle.std.proofs.lemmas.List.Elements.{All-head, All-drop, All-nil, All-cons}
use Rattle.xa_xid.specs.Spelling.{hex, hex_byte, hex_digit}

pub length-hex : (bytes : List ℕ) → length (hex bytes) ≡ 2 * length bytes
length-hex [] = refl
length-hex (b ∷ bytes) = omega (arith, length-hex bytes)

pub hex-push : (bytes : List ℕ) (b : ℕ) → hex (bytes ++ b ∷ []) ≡ hex bytes ++ hex_byte b
hex-push bytes b = flat_map-append hex_byte bytes (b ∷ [])

hex_digit_one : (m n : ℕ) → hex_digit m ≡ hex_digit n → m ≡ n
hex_digit_one m n e = grind (arith, nat_tests)

hex_byte_one : (a b : ℕ) → hex_byte a ≡ hex_byte b → a ≡ b
hex_byte_one a b e =
    let high : hex_digit (a / 16) ≡ hex_digit (b / 16) = ap (λ (s : List ℕ). get_or s 0 0) e in
    let low : hex_digit (a % 16) ≡ hex_digit (b % 16) = ap (λ (s : List ℕ). get_or s 1 0) e in
    let h : a / 16 ≡ b / 16 = hex_digit_one (a / 16) (b / 16) high in
    let l : a % 16 ≡ b % 16 = hex_digit_one (a % 16) (b % 16) low in
    omega arith

-- what hexadecimal digits begin with is the front of what they spell
pub hex_rest : (front : List ℕ) (rest bytes : List ℕ) → hex front ++ rest ≡ hex bytes → (tail : List ℕ) × (bytes ≡ front ++ tail) × (rest ≡ hex tail)
hex_rest [] rest bytes e = (bytes, refl, e)
hex_rest (b ∷ front) rest [] e = absurd cc
hex_rest (b ∷ front) rest (a ∷ bytes) e =
    let high : hex_digit (b / 16) ≡ hex_digit (a / 16) = ap (λ (s : List ℕ). get_or s 0 0) e in
    let low : hex_digit (b % 16) ≡ hex_digit (a % 16) = ap (λ (s : List ℕ). get_or s 1 0) e in
    let h : b / 16 ≡ a / 16 = hex_digit_one (b / 16) (a / 16) high in
    let l : b % 16 ≡ a % 16 = hex_digit_one (b % 16) (a % 16) low in
    let same : b ≡ a = omega arith in
    let others : hex front ++ rest ≡ hex bytes = cc in
    let r = hex_rest front rest bytes others in
    (r.0, cc (same, r.1), r.2)

hex_none : (bytes : List ℕ) → [] ≡ hex bytes → bytes ≡ []
hex_none [] e = refl
hex_none (b ∷ bytes) e = absurd cc

-- the bytes are determined by their digits
pub hex_one : (a b : List ℕ) → hex a ≡ hex b → a ≡ b
hex_one a b e =
    let r = hex_rest a [] b (append-nil (hex a) ∙ e) in
    sym (append-nil a) ∙ sym (r.1 ∙ ap (λ (t : List ℕ). a ++ t) (hex_none r.0 r.2))

no_byte : (rest tail : List ℕ) → 2 ≤ length rest → ((b : ℕ) → b < 256 → get_or rest 0 0 ∷ get_or rest 1 0 ∷ [] ≢ hex_byte b) → All (λ b. b < 256) tail → rest ≢ hex tail
no_byte [] tail long none all e = omega arith
no_byte (high ∷ []) tail long none all e = omega arith
no_byte (high ∷ low ∷ rest) [] long none all e = absurd cc
no_byte (high ∷ low ∷ rest) (b ∷ tail) long none all e = none b (All-head (λ b. b < 256) b tail all) cc

-- digits after those that were read, of which the first two are no byte's
pub wrong_digits : (text front rest bytes : List ℕ) → text ≡ hex front ++ rest → 2 ≤ length rest → ((b : ℕ) → b < 256 → get_or rest 0 0 ∷ get_or rest 1 0 ∷ [] ≢ hex_byte b) → All (λ b. b < 256) bytes → text ≢ hex bytes
wrong_digits text front rest bytes so_far long none all e =
    let r = hex_rest front rest bytes (sym so_far ∙ e) in
    let tail : drop (length front) bytes ≡ r.0 = ap (λ (s : List ℕ). drop (length front) s) r.1 ∙ drop_at front r.0 (length front) refl in
    no_byte rest r.0 long none (subst (λ (s : List ℕ). All (λ b. b < 256) s) tail (All-drop (λ b. b < 256) (length front) bytes all)) r.2

-- more digits than there is room for
pub too_many : (text front rest bytes : List ℕ) → text ≡ hex front ++ rest → 2 ≤ length rest → length front ≡ 64 → length bytes ≤ 64 → text ≢ hex bytes
too_many text front rest bytes so_far long full short e =
    let r = hex_rest front rest bytes (sym so_far ∙ e) in
    omega (arith, ap length r.1, length-append front r.0, ap length r.2, length-hex r.0)

-- a digit without another
pub one_digit : (text front rest bytes : List ℕ) → text ≡ hex front ++ rest → length rest ≡ 1 → text ≢ hex bytes
one_digit text front rest bytes so_far one e =
    let r = hex_rest front rest bytes (sym so_far ∙ e) in
    omega (arith, ap length r.2, length-hex r.0)

-- all digits were read
pub all_read : (text front rest bytes : List ℕ) → text ≡ hex front ++ rest → length rest ≡ 0 → text ≡ hex bytes → front ≡ bytes
all_read text front rest bytes so_far none e =
    let empty : rest ≡ [] = nil_from_length rest none in
    hex_one front bytes (sym (append-nil (hex front)) ∙ ap (λ (s : List ℕ). hex front ++ s) (sym empty) ∙ sym so_far ∙ e)

hex_digit_no_colon : (n : ℕ) → hex_digit n ≢ 58
hex_digit_no_colon n e = grind (arith, nat_tests)

pub hex_no_colon : (bytes : List ℕ) → All (λ b. b ≢ 58) (hex bytes)
hex_no_colon [] = All-nil (λ b. b ≢ 58)
hex_no_colon (b ∷ bytes) = All-cons (λ b. b ≢ 58) (hex_digit (b / 16)) (hex_digit (b % 16) ∷ hex bytes) (hex_digit_no_colon (b / 16)) (All-cons (λ b. b ≢ 58) (hex_digit (b % 16)) (hex bytes) (hex_digit_no_colon (b % 16)) (hex_no_colon bytes))

-- there is room for the next byte's two digits
pub hex_room : (old out bytes : List ℕ) (i : ℕ) → i < length bytes → out ≡ old ++ hex (take i bytes) → length old + 2 * length bytes ≤ 269 → length out + 1 < 269
hex_room old out bytes i lt e room = omega (arith, ap length e, length-append old (hex (take i bytes)), length-hex (take i bytes), length-take i bytes)

pub length_all : (old out bytes : List ℕ) → out ≡ old ++ hex bytes → length out ≡ length old + 2 * length bytes
length_all old out bytes e = ap length e ∙ length-append old (hex bytes) ∙ ap (λ (k : ℕ). length old + k) (length-hex bytes)
