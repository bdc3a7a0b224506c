-- Bytes that are xored, one by one.
use Rattle.std.proofs.Common.{◌≡◌, ℕ, zero, suc, ◌-◌, ◌<◌, ◌≤◌, List, [], ◌∷◌, ◌++◌, length, replicate, get_or, refl, sym, ap, ◌∙◌, arith, inl}
use Rattle.std.proofs.Common.{inr}
use Rattle.std.specs.Prelude.{bit_xor, bit_or}
use Rattle.std.specs.Int.Bits.{xor_assoc, xor_self, xor_zero_l, xor_zero_r, or_zero_r}
use Rattle.std.proofs.lemmas.Nat.{le_or_l, le_or_r}
use Rattle.std.proofs.lemmas.Bool.{cases_lt}
use Rattle.std.proofs.lemmas.List.{same_lists, get_or_default, get_or_append_left, get_or-append_right, get_or-replicate, get_or-map, length-map}
use Rattle.std.proofs.lemmas.List.{length-append, length-replicate}
use Rattle.xa_scram.specs.Believed.Keyed.{xor_bytes, padded}

pub length-xor_bytes : (xs ys : List ℕ) → length xs ≡ length ys → length (xor_bytes xs ys) ≡ length xs
length-xor_bytes [] ys e = refl
length-xor_bytes (x ∷ xs) [] e = absurd (omega arith)
length-xor_bytes (x ∷ xs) (y ∷ ys) e =
    let tail : length xs ≡ length ys = omega arith in
    omega (arith, length-xor_bytes xs ys tail)

pub get_or-xor_bytes : (xs ys : List ℕ) (k : ℕ) → length xs ≡ length ys → k < length xs
    → get_or (xor_bytes xs ys) k 0 ≡ bit_xor (get_or xs k 0) (get_or ys k 0)
get_or-xor_bytes [] ys k e h = absurd (omega arith)
get_or-xor_bytes (x ∷ xs) [] k e h = absurd (omega arith)
get_or-xor_bytes (x ∷ xs) (y ∷ ys) zero e h = refl
get_or-xor_bytes (x ∷ xs) (y ∷ ys) (suc k) e h = get_or-xor_bytes xs ys k (omega arith) (omega arith)

-- two lists of one length with the same at each index
pub by_index : (xs ys : List ℕ) → length xs ≡ length ys → ((k : ℕ) → k < length xs → get_or xs k 0 ≡ get_or ys k 0) → xs ≡ ys
by_index xs ys e same = same_lists xs ys e (λ k d lt. get_or_default xs k d 0 lt ∙ same k lt ∙ get_or_default ys k 0 d (omega arith))

pub xored_so : (all xs ys : List ℕ) (n : ℕ) → length all ≡ n → length xs ≡ n → length ys ≡ n
    → ((k : ℕ) → k < n → get_or all k 0 ≡ bit_xor (get_or xs k 0) (get_or ys k 0)) → all ≡ xor_bytes xs ys
xored_so all xs ys n a b c same =
    let len : length xs ≡ length ys = omega arith in
    by_index all (xor_bytes xs ys) (omega (arith, length-xor_bytes xs ys len)) (λ k lt. same k (omega arith)
    ∙ sym (get_or-xor_bytes xs ys k len (omega arith)))

-- what is xored twice comes back
pub xor_back : (a b : ℕ) → bit_xor (bit_xor a b) b ≡ a
xor_back a b = xor_assoc a b b ∙ ap (bit_xor a) (xor_self b) ∙ xor_zero_r a

pub xor_bytes_back : (xs ys : List ℕ) → length xs ≡ length ys → xor_bytes (xor_bytes xs ys) ys ≡ xs
xor_bytes_back [] ys e = refl
xor_bytes_back (x ∷ xs) [] e = absurd (omega arith)
xor_bytes_back (x ∷ xs) (y ∷ ys) e = cc (xor_back x y, xor_bytes_back xs ys (omega arith))

-- two bytes are equal if they xor to 0, and a number is 0 if an or with it is
pub same_from_xor : (a b : ℕ) → bit_xor a b ≡ 0 → a ≡ b
same_from_xor a b e = sym (xor_back a b) ∙ ap (λ x. bit_xor x b) e ∙ xor_zero_l b

pub xor_same : (a b : ℕ) → a ≡ b → bit_xor a b ≡ 0
xor_same a b e = ap (λ x. bit_xor x b) e ∙ xor_self b

pub or_left : (a b : ℕ) → bit_or a b ≡ 0 → a ≡ 0
or_left a b e = omega (arith, le_or_l a b)

pub or_right : (a b : ℕ) → bit_or a b ≡ 0 → b ≡ 0
or_right a b e = omega (arith, le_or_r a b)

pub or_both : (a b : ℕ) → a ≡ 0 → b ≡ 0 → bit_or a b ≡ 0
or_both a b e f = cc (or_zero_r 0)

-- a short key in a block
pub length-padded : (byte : ℕ) (key : List ℕ) → length key ≤ 64 → length (padded byte key) ≡ 64
length-padded byte key h =
    length-map (key ++ replicate (64 - length key) 0) (λ b. bit_xor b byte)
    ∙ omega (arith, length-append key (replicate (64 - length key) 0), length-replicate {A = ℕ} (64 - length key) 0)

get_or-zeros : (key : List ℕ) (k : ℕ) → length key ≤ k → k < 64 → get_or (key ++ replicate (64 - length key) 0) k 0 ≡ 0
get_or-zeros key k h lt = get_or-append_right key (replicate (64 - length key) 0) (length key) k 0 refl h
    ∙ get_or-replicate {A = ℕ} (64 - length key) (k - length key) 0 0 (omega arith)

pub padded_so : (block key : List ℕ) (byte : ℕ) → length key ≤ 64 → length block ≡ 64
    → ((k : ℕ) → k < length key → get_or block k 0 ≡ bit_xor (get_or key k 0) byte)
    → ((k : ℕ) → length key ≤ k → k < 64 → get_or block k 0 ≡ byte) → block ≡ padded byte key
padded_so block key byte short len front back =
    let filled = key ++ replicate (64 - length key) 0 in
    let all : length filled ≡ 64 = omega (arith, length-append key (replicate (64 - length key) 0), length-replicate {A = ℕ} (64 - length key) 0)
    in
    by_index block (padded byte key) (len ∙ sym (length-padded byte key short)) (λ k lt. elim (cases_lt k (length key)) [
      | inl low ↦ front k low ∙ ap (λ b. bit_xor b byte) (sym (get_or_append_left key (replicate (64 - length key) 0) 0 k low))
          ∙ sym (get_or-map (λ b. bit_xor b byte) filled k 0 0 (omega arith))
      | inr high ↦ back k high (omega arith) ∙ sym (ap (λ b. bit_xor b byte) (get_or-zeros key k high (omega arith)) ∙ xor_zero_l byte)
          ∙ sym (get_or-map (λ b. bit_xor b byte) filled k 0 0 (omega arith))
    ])
