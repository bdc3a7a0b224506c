-- Numbers read digit by digit.
use Rattle.std.proofs.Common.{◌≡◌, ℕ, ◌+◌, ◌-◌, ◌*◌, ◌^◌, ◌<◌, ◌≤◌, ◌==◌, nat_lt, Bool, true, false, List, [], ◌∷◌, length, drop, get_or, Option, Some, None, refl, sym, ap, ◌∙◌, arith, if◌then◌else◌, add-one, drop-cons, append_assoc, lit<, ◌++◌}
use Rattle.std.specs.Option.{option_map}
use Rattle.std.proofs.lemmas.Bool.{ltb-false, lt-ltb, le-ltb, ne_eqb, not_from_false}
use Rattle.std.proofs.lemmas.List.{drop_all}
use Rattle.std.proofs.Math.Nat.{pow-le-pow_right}
use Rattle.std.proofs.lemmas.Grind.{pow_more}
use Rattle.xa_script.specs.Hexadecimal.{byte_of, bytes_of}
use Rattle.xa_script.specs.Numbers.{is_digit, value_from, begins_well, below_limit, number_of}

pub begins : (word : List ℕ) → (length word == 0) ≡ false → (get_or word 0 0 ≡ 48 → ⊥) → begins_well word ≡ true
begins [] e h = cc
begins (c ∷ cs) e h = not_from_false (c == 48) (ne_eqb c 48 h)

-- a number above the limit stays above it
over : (n : ℕ) (cs : List ℕ) → 2 ^ 64 ≤ n → below_limit (value_from n cs) ≡ None
over n [] h = rw (le-ltb n (2 ^ 64) h) refl
over n (c ∷ cs) h =
    elim (is_digit c) as (λ b. below_limit (if b then value_from (10 * n + (c - 48)) cs else None) ≡ None)
    [ true ↦ over (10 * n + (c - 48)) cs (omega arith) | false ↦ refl ]

none_below : (b : Bool) (n : ℕ) → ◌≡◌ {A = Option ℕ} (if b then Some n else None) None → b ≡ false
none_below true n h = cc
none_below false n h = refl

limit_none : (n : ℕ) → below_limit (Some n) ≡ None → 2 ^ 64 ≤ n
limit_none n h = ltb-false n (2 ^ 64) (none_below (nat_lt n (2 ^ 64)) n h)

stuck_by : (n c : ℕ) (cs : List ℕ) (b : Bool) → below_limit (if b then Some (10 * n + (c - 48)) else None) ≡ None →
    below_limit (if b then value_from (10 * n + (c - 48)) cs else None) ≡ None
stuck_by n c cs true h = over (10 * n + (c - 48)) cs (limit_none (10 * n + (c - 48)) h)
stuck_by n c cs false h = refl

-- where one digit more is too much, more digits are
pub stuck : (n c : ℕ) (cs : List ℕ) → below_limit (value_from n (c ∷ [])) ≡ None → below_limit (value_from n (c ∷ cs)) ≡ None
stuck n c cs h = stuck_by n c cs (is_digit c) h

pub ended : (word : List ℕ) (i n : ℕ) → n < 2 ^ 64 → length word ≤ i → begins_well word ≡ true →
    below_limit (value_from 0 word) ≡ below_limit (value_from n (drop i word)) → Some n ≡ number_of word
ended word i n small all well same =
    let rest : drop i word ≡ [] = drop_all i word all in
    let below : nat_lt n (2 ^ 64) ≡ true = lt-ltb n (2 ^ 64) small in
    rw (well, same, rest, below) refl

pub failed : (word : List ℕ) (i n : ℕ) → i < length word → begins_well word ≡ true →
    below_limit (value_from 0 word) ≡ below_limit (value_from n (drop i word)) →
    below_limit (value_from n (get_or word i 0 ∷ [])) ≡ None → None ≡ number_of word
failed word i n below well same none =
    let cut : drop i word ≡ get_or word i 0 ∷ drop (i + 1) word = rw (add-one, drop-cons word i 0) refl in
    sym (rw (well, same, cut) (stuck n (get_or word i 0) (drop (i + 1) word) none))

-- bytes in front of bytes that may not be there
in_front : (done : List ℕ) (byte : ℕ) (o : Option (List ℕ)) →
    option_map (λ bytes. done ++ bytes) (option_map (λ bytes. byte ∷ bytes) o) ≡ option_map (λ bytes. (done ++ byte ∷ []) ++ bytes) o
in_front done byte None = refl
in_front done byte (Some bytes) = ap (λ (xs : List ℕ). Some xs) (sym (append_assoc done (byte ∷ []) bytes))

-- one pair of digits more is read
pub pair_read : (digits done rest : List ℕ) (byte : ℕ) → 2 ≤ length rest → Some byte ≡ byte_of (get_or rest 0 0) (get_or rest 1 0) →
    bytes_of digits ≡ option_map (λ bytes. done ++ bytes) (bytes_of rest) →
    bytes_of digits ≡ option_map (λ bytes. (done ++ byte ∷ []) ++ bytes) (bytes_of (drop 2 rest))
pair_read digits done [] byte two is same = absurd (omega arith)
pair_read digits done (high ∷ []) byte two is same = absurd (omega arith)
pair_read digits done (high ∷ low ∷ rest) byte two is same =
    same ∙ rw (← is) (in_front done byte (bytes_of rest))

-- i digits make a number below 16 ^ 8, where there are at most 8
pub fits_eight : (i n d : ℕ) → i < 8 → n < 16 ^ i → d < 16 → 16 * n + d < 2 ^ 32
fits_eight i n d below small digit =
    let all : 16 ^ i ≤ 16 ^ 7 = pow-le-pow_right {n = 16} (lit< tt) {i = i} {j = 7} (omega arith) in
    omega arith

pub more_digits : (i n d : ℕ) → n < 16 ^ i → d < 16 → 16 * n + d < 16 ^ (i + 1)
more_digits i n d small digit = rw (pow_more 16 i) (omega arith)
