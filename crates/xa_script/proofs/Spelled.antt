-- The words of a request's line are read as what they were made of.
use Rattle.std.proofs.Common.{◌≡◌, ◌≢◌, ◌∙◌, ℕ, ℤ, pos, negsuc, zero, suc, ◌+◌, ◌-◌, ◌*◌, ◌/◌, ◌%◌, ◌^◌, ◌<◌, ◌≤◌, ◌==◌, Bool, true, false, List, [], ◌∷◌, ◌++◌, length, All, Option, Some, None, refl, sym, ap, subst, arith, if◌then◌else◌, FitsSigned, w32, codes, find}
use Rattle.std.specs.Prelude.{nat_le, bytes_eq, option_and_then, unwrap_or}
use Rattle.std.specs.Fmt.{decimal, signed_decimal}
use Rattle.std.specs.Int.{to_be_bytes}
use Rattle.std.specs.Option.{option_map}
use Rattle.std.proofs.lemmas.Bool.{and_from, eqb-true, le-leb, lt-ltb}
use Rattle.std.proofs.lemmas.Bool.Decides.{nat_tests}
use Rattle.std.proofs.lemmas.Fmt.{decimal_by_steps, decimal_digit}
use Rattle.std.proofs.lemmas.List.Elements.{All-cons, All-head, All-nil, All-tail}
use Rattle.xa_script.specs.Asking.{direction_text, flag_texts, flags_text}
use Rattle.xa_script.specs.Flags.{bits_from, flags_of}
use Rattle.xa_script.specs.Hexadecimal.{bytes_of}
use Rattle.xa_script.specs.Numbers.{begins_well, count_of, is_digit, moment_of, number_of, value_from}
use Rattle.xa_script.specs.Replies.{value_text}
use Rattle.xa_script.specs.Requests.{direction_of, key_of, value_of}
use Rattle.xa_script.specs.Texts.{is_quoted}
use Rattle.xa_script.proofs.Asked.{is_simple, is_simple_character, simple_both}
use Rattle.xa_script.proofs.Quotes.{byte_read, digit_read}
use Rattle.xa_script.proofs.Tables.{differs}
use Rattle.xa_limits.specs.declared.TheConstants.{MOST_KEY, MOST_VALUE}
use Rattle.xa_fields.specs.Limits.{IsKey, IsValue}
use Rattle.xa_codes.specs.declared.direction.Direction.{Direction}
use Rattle.xa_codes.specs.declared.direction.Direction.TheVariants as direction
use Rattle.xa_xid.specs.Spelling.{hex, hex_byte, hex_digit, text_of}
use Rattle.xa_xid.specs.Triple.{Triple, IsWithinLimits}
use Rattle.xa_xid.proofs.Hex.{length-hex}

-- ---- numbers

digit_simple : (n : ℕ) → n < 10 → is_simple_character (48 + n) ≡ true
digit_simple n h = grind (arith, nat_tests)

one_simple : (n : ℕ) → n < 10 → is_simple ((48 + n) ∷ []) ≡ true
one_simple n h = and_from (is_simple_character (48 + n)) true (digit_simple n h) refl

pub decimal_simple : (n : ℕ) → n < 2 ^ 64 → is_simple (decimal n) ≡ true
decimal_simple n h =
    decimal_by_steps (λ n ds. is_simple ds ≡ true) one_simple
    (λ n ds ten so_far. simple_both ds ((48 + n % 10) ∷ []) so_far (one_simple (n % 10) (omega arith))) n h

value_more : (m : ℕ) (ds : List ℕ) (c : ℕ) → value_from m (ds ++ c ∷ []) ≡ option_and_then (λ v. value_from v (c ∷ [])) (value_from m ds)
value_more m [] c = refl
value_more m (d ∷ ds) c =
    elim (is_digit d) as (λ b. (if b then value_from (10 * m + (d - 48)) (ds ++ c ∷ []) else None)
    ≡ option_and_then (λ v. value_from v (c ∷ [])) (if b then value_from (10 * m + (d - 48)) ds else None))
    [ true ↦ value_more (10 * m + (d - 48)) ds c | false ↦ refl ]

digit_value : (m n : ℕ) → n < 10 → value_from m ((48 + n) ∷ []) ≡ Some (10 * m + n)
digit_value m n h =
    let digit : is_digit (48 + n) ≡ true = grind (arith, nat_tests) in
    let same : 10 * m + (48 + n - 48) ≡ 10 * m + n = omega arith in
    rw digit (ap (λ (k : ℕ). Some k) same)

zero_more : (n : ℕ) → 10 * 0 + n ≡ n
zero_more n = omega arith

decimal_value : (n : ℕ) → n < 2 ^ 64 → value_from 0 (decimal n) ≡ Some n
decimal_value n h =
    decimal_by_steps (λ n ds. value_from 0 ds ≡ Some n) (λ n small. digit_value 0 n small ∙ ap (λ (k : ℕ). Some k) (zero_more n))
    (λ n ds ten so_far.
    let whole : 10 * (n / 10) + n % 10 ≡ n = omega arith in
    value_more 0 ds (48 + n % 10) ∙ ap (option_and_then (λ v. value_from v ((48 + n % 10) ∷ []))) so_far
    ∙ digit_value (n / 10) (n % 10) (omega arith) ∙ ap (λ (k : ℕ). Some k) whole) n h

-- the first of digits of a number that isn't 0
well_more : (ds : List ℕ) (c : ℕ) → begins_well ds ≡ true → begins_well (ds ++ c ∷ []) ≡ true
well_more [] c h = cc
well_more (d ∷ ds) c h = h

well_begun : (n : ℕ) → 1 ≤ n → n < 2 ^ 64 → begins_well (decimal n) ≡ true
well_begun n some h =
    decimal_by_steps (λ n ds. 1 ≤ n → begins_well ds ≡ true) (λ n small more. grind (arith, nat_tests))
    (λ n ds ten so_far more. well_more ds (48 + n % 10) (so_far (omega arith))) n h some

pub number_read : (n : ℕ) → 1 ≤ n → n < 2 ^ 64 → number_of (decimal n) ≡ Some n
number_read n some h = rw (well_begun n some h, decimal_value n h, lt-ltb n (2 ^ 64) h) refl

no_zero : (n : ℕ) → 1 ≤ n → n < 2 ^ 64 → decimal n ≢ codes "0"
no_zero n some h e =
    let read : number_of (codes "0") ≡ Some n = sym (ap number_of e) ∙ number_read n some h in cc

pub moment_read : (n : ℕ) → n < 2 ^ 64 → moment_of (decimal n) ≡ Some n
moment_read n h = go n h
  where
    go : (n : ℕ) → n < 2 ^ 64 → moment_of (decimal n) ≡ Some n
    go zero h = rw (decimal_digit 0 (omega arith)) refl
    go (suc n) h = rw (differs (decimal (suc n)) (codes "0") (no_zero (suc n) (omega arith) h)) (number_read (suc n) (omega arith) h)

pub count_read : (n : ℕ) → n < 2 ^ 32 → count_of (decimal n) ≡ Some n
count_read n h = go n h
  where
    go : (n : ℕ) → n < 2 ^ 32 → count_of (decimal n) ≡ Some n
    go zero h = rw (decimal_digit 0 (omega arith)) refl
    go (suc n) h =
        let wide : suc n < 2 ^ 64 = omega arith in
        let other = differs (decimal (suc n)) (codes "0") (no_zero (suc n) (omega arith) wide) in
        let within : nat_le (suc n) 4_294_967_295 ≡ true = le-leb (suc n) 4_294_967_295 (omega arith) in
        rw (other, number_read (suc n) (omega arith) wide, within) refl

-- ---- bytes

hex_digit_simple : (n : ℕ) → n < 16 → is_simple_character (hex_digit n) ≡ true
hex_digit_simple n h = grind (arith, nat_tests)

pub hex_simple : (bytes : List ℕ) → All (λ b. b < 256) bytes → is_simple (hex bytes) ≡ true
hex_simple [] h = refl
hex_simple (b ∷ bytes) h =
    let small : b < 256 = All-head (λ b. b < 256) b bytes h in
    let high = hex_digit_simple (b / 16) (omega arith) in
    let low = hex_digit_simple (b % 16) (omega arith) in
    rw (high, low) (hex_simple bytes (All-tail (λ b. b < 256) b bytes h))

hex_read : (bytes : List ℕ) → All (λ b. b < 256) bytes → bytes_of (hex bytes) ≡ Some bytes
hex_read [] h = refl
hex_read (b ∷ bytes) h =
    let first = byte_read b (All-head (λ b. b < 256) b bytes h) in
    let others = hex_read bytes (All-tail (λ b. b < 256) b bytes h) in
    rw (first, others) refl

hex_bare : (bytes : List ℕ) → is_quoted (hex bytes) ≡ false
hex_bare [] = refl
hex_bare (b ∷ bytes) = grind (arith, nat_tests)

some_digits : (bytes : List ℕ) → 1 ≤ length bytes → nat_le 1 (length (hex bytes)) ≡ true
some_digits bytes h = le-leb 1 (length (hex bytes)) (omega (arith, length-hex bytes))

few_digits : (most : ℕ) (bytes : List ℕ) → length bytes ≤ most → nat_le (length (hex bytes)) (2 * most) ≡ true
few_digits most bytes h = le-leb (length (hex bytes)) (2 * most) (omega (arith, length-hex bytes))

pub key_read : (key : List ℕ) → IsKey key → All (λ b. b < 256) key → key_of (hex key) ≡ Some key
key_read key h bytes = rw (hex_bare key, some_digits key h.0, few_digits MOST_KEY key h.1) (hex_read key bytes)

no_dash : (b : ℕ) (bytes : List ℕ) → bytes_eq (hex (b ∷ bytes)) (codes "-") ≡ false
no_dash b bytes = differs (hex (b ∷ bytes)) (codes "-") (λ e. cc)

pub value_read : (value : List ℕ) → IsValue value → All (λ b. b < 256) value → value_of (value_text value) ≡ Some value
value_read [] h bytes = refl
value_read (b ∷ value) h bytes =
    let digits = b ∷ value in
    rw (hex_bare digits, no_dash b value, some_digits digits (omega arith), few_digits MOST_VALUE digits h) (hex_read digits bytes)

pub value_simple : (value : List ℕ) → All (λ b. b < 256) value → is_simple (value_text value) ≡ true
value_simple [] h = refl
value_simple (b ∷ value) h = hex_simple (b ∷ value) h

-- ---- XIDs

signed_simple : (z : ℤ) → FitsSigned w32 z → is_simple (signed_decimal z) ≡ true
signed_simple (pos n) h = decimal_simple n (omega (arith, h.sfits))
signed_simple (negsuc n) h = decimal_simple (suc n) (omega (arith, h.sfits))

pub xid_simple : (x : Triple) → IsWithinLimits x → is_simple (text_of x) ≡ true
xid_simple x h =
    simple_both (signed_decimal x.format) (58 ∷ (hex x.gtrid ++ (58 ∷ hex x.bqual))) (signed_simple x.format h.format)
    (simple_both (hex x.gtrid) (58 ∷ hex x.bqual) (hex_simple x.gtrid h.gtrid) (hex_simple x.bqual h.bqual))

-- ---- directions and flags

pub direction_read : (d : Direction) → direction_of (direction_text d) ≡ Some d
direction_read direction.Commit = refl
direction_read direction.Rollback = refl

pub direction_simple : (d : Direction) → is_simple (direction_text d) ≡ true
direction_simple direction.Commit = refl
direction_simple direction.Rollback = refl

-- a text of flags that is a word, and is read as those flags
abbrev pub Spells : ℕ → List ℕ → Type 0
Spells flags text = (is_simple text ≡ true) × (flags_of text ≡ Some flags)

abbrev AllSpell : List (List ℕ × ℕ) → Type 0
AllSpell [] = Unit {0}
AllSpell (entry ∷ entries) = Spells entry.1 entry.0 × AllSpell entries

names_spell : AllSpell flag_texts
names_spell =
    ((refl, refl), ((refl, refl), ((refl, refl), ((refl, refl), ((refl, refl), ((refl, refl), ((refl, refl), ((refl, refl), ((refl, refl), ((refl, refl), ((refl, refl), ((refl, refl), ((refl, refl), ((refl, refl), ((refl, refl), tt)))))))))))))))

if_named : (flags : ℕ) (entry : List ℕ × ℕ) (b : Bool) → (entry.1 == flags) ≡ b → Spells entry.1 entry.0 →
    (other : List ℕ) (rest : Option (List ℕ × ℕ)) → Spells flags (unwrap_or (option_map (λ e. e.0) rest) other) →
    Spells flags (unwrap_or (option_map (λ e. e.0) (if b then Some entry else rest)) other)
if_named flags entry true e h other rest k = subst (λ (n : ℕ). Spells n entry.0) (eqb-true entry.1 flags e) h
if_named flags entry false e h other rest k = k

either_spells : (flags : ℕ) (other : List ℕ) (entries : List (List ℕ × ℕ)) → AllSpell entries → Spells flags other →
    Spells flags (unwrap_or (option_map (λ entry. entry.0) (find (λ entry. entry.1 == flags) entries)) other)
either_spells flags other [] all h = h
either_spells flags other (entry ∷ entries) all h =
    if_named flags entry (entry.1 == flags) refl all.0 other (find (λ entry. entry.1 == flags) entries)
    (either_spells flags other entries all.1 h)

-- two digits more
byte_bits : (m b : ℕ) (cs : List ℕ) → b < 256 → bits_from m (hex_byte b ++ cs) ≡ bits_from (256 * m + b) cs
byte_bits m b cs h =
    let high = digit_read (b / 16) (omega arith) in
    let low = digit_read (b % 16) (omega arith) in
    let whole : 16 * (16 * m + b / 16) + b % 16 ≡ 256 * m + b = omega arith in
    rw (high, low) (ap (λ (n : ℕ). bits_from n cs) whole)

four_bits : (a b c d : ℕ) → a < 256 → b < 256 → c < 256 → d < 256 →
    bits_from 0 (hex (a ∷ b ∷ c ∷ d ∷ [])) ≡ Some (256 * (256 * (256 * (256 * 0 + a) + b) + c) + d)
four_bits a b c d p q r s =
    byte_bits 0 a (hex (b ∷ c ∷ d ∷ [])) p ∙ byte_bits (256 * 0 + a) b (hex (c ∷ d ∷ [])) q
    ∙ byte_bits (256 * (256 * 0 + a) + b) c (hex (d ∷ [])) r ∙ byte_bits (256 * (256 * (256 * 0 + a) + b) + c) d [] s

abbrev is_byte : ℕ → Type 0
is_byte b = b < 256

four_bytes : (n : ℕ) → All is_byte (to_be_bytes w32 n)
four_bytes n =
    let a = n / 2 ^ 24 % 256 in
    let b = n / 2 ^ 16 % 256 in
    let c = n / 2 ^ 8 % 256 in
    let d = n % 256 in
    All-cons is_byte a (b ∷ c ∷ d ∷ []) (omega arith) (All-cons is_byte b (c ∷ d ∷ []) (omega arith) (All-cons is_byte c (d ∷ []) (omega arith) (All-cons is_byte d [] (omega arith) (All-nil is_byte))))

digits_spell : (n : ℕ) → n < 2 ^ 32 → Spells n (codes "0x" ++ hex (to_be_bytes w32 n))
digits_spell n h =
    let a = n / 2 ^ 24 % 256 in
    let b = n / 2 ^ 16 % 256 in
    let c = n / 2 ^ 8 % 256 in
    let d = n % 256 in
    let whole : 256 * (256 * (256 * (256 * 0 + a) + b) + c) + d ≡ n = omega arith in
    (hex_simple (to_be_bytes w32 n) (four_bytes n), four_bits a b c d (omega arith) (omega arith) (omega arith) (omega arith) ∙ ap (λ (k : ℕ). Some k) whole)

pub flags_spell : (n : ℕ) → n < 2 ^ 32 → Spells n (flags_text n)
flags_spell n h = either_spells n (codes "0x" ++ hex (to_be_bytes w32 n)) flag_texts names_spell (digits_spell n h)
