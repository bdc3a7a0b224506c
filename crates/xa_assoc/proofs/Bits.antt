-- Bits of an array of words.
use Rattle.std.proofs.Common.{◌≡◌, ℕ, ◌+◌, ◌*◌, ◌/◌, ◌%◌, ◌<◌, ◌≤◌, ◌^◌, nat_lt, Bool, true, false, List, [], ◌∷◌, zero, suc, ◌-◌, length, get_or, refl, ◌∙◌, arith, w64}
use Rattle.std.specs.Int.{bit_at, trailing_zeros}
use Rattle.std.proofs.lemmas.Bool.Decides.{nat_tests}
use Rattle.std.proofs.lemmas.Nat.Bits.{bit_at_ones, bit_at-trailing_zeros}
use Rattle.std.specs.List.{AllByRecursion}
use Rattle.xa_assoc.specs.Free.{is_free}

-- the lowest bit that is set in the first word that isn't 0 is the first index that is free
first_in_word : (words : List ℕ) (i w t k : ℕ) → get_or words i 0 ≡ w → ((j : ℕ) → j < t → bit_at w j ≡ 0) → 64 * i ≤ k → k < 64 * i + t → t < 64 → is_free words k ≡ false
first_in_word words i w t k at below low high small =
    let word : k / 64 ≡ i = omega arith in
    let bit : k % 64 < t = omega arith in
    rw (word, at, below (k % 64) bit) refl

index_free : (words : List ℕ) (i w t : ℕ) → get_or words i 0 ≡ w → t < 64 → bit_at w t ≡ 1 → is_free words (64 * i + t) ≡ true
index_free words i w t at small is =
    let word : (64 * i + t) / 64 ≡ i = omega arith in
    let bit : (64 * i + t) % 64 ≡ t = omega arith in
    rw (word, bit, at, is) refl

index_first : (words : List ℕ) (i w t : ℕ) → get_or words i 0 ≡ w → t < 64 → ((j : ℕ) → j < t → bit_at w j ≡ 0) → ((k : ℕ) → k < 64 * i → is_free words k ≡ false)
    → (k : ℕ) → k < 64 * i + t → is_free words k ≡ false
index_first words i w t at small below before k high = by_side (nat_lt k (64 * i)) refl
  where
    by_side : (c : Bool) → nat_lt k (64 * i) ≡ c → is_free words k ≡ false
    by_side true e = before k (grind (arith, nat_tests))
    by_side false e = let low : 64 * i ≤ k = grind (arith, nat_tests) in first_in_word words i w t k at below low high small

pub first_index : (words : List ℕ) (i : ℕ) → 0 < get_or words i 0 → get_or words i 0 < 2 ^ 64 → ((k : ℕ) → k < 64 * i → is_free words k ≡ false)
    → (is_free words (64 * i + trailing_zeros w64 (get_or words i 0)) ≡ true)
    × ((k : ℕ) → k < 64 * i + trailing_zeros w64 (get_or words i 0) → is_free words k ≡ false)
first_index words i low small before =
    let w = get_or words i 0 in
    let t = trailing_zeros w64 w in
    let lowest = bit_at-trailing_zeros w64 w low small in
    (index_free words i w t refl lowest.0 lowest.1, index_first words i w t refl lowest.0 lowest.2 before)

-- where all words are full, all indices are free
all_same : (xs : List ℕ) (v i : ℕ) → AllByRecursion (λ x. x ≡ v) xs → i < length xs → get_or xs i 0 ≡ v
all_same [] v i all within = absurd (omega arith)
all_same (x ∷ xs) v zero all within = all.0
all_same (x ∷ xs) v (suc i) all within = all_same xs v i all.1 (omega arith)

pub all_free : (words : List ℕ) (v : ℕ) → AllByRecursion (λ x. x ≡ v) words → v ≡ 2 ^ 64 - 1 → length words ≡ 16 → (k : ℕ) → k < 1024 → is_free words k ≡ true
all_free words v all full sixteen k below =
    let within : k / 64 < length words = omega arith in
    let small : k % 64 < 64 = omega arith in
    let here : get_or words (k / 64) 0 ≡ 2 ^ 64 - 1 = all_same words v (k / 64) all within ∙ full in
    rw (here, bit_at_ones 64 (k % 64) small) refl
