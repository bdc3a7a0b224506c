-- A number's decimal digits are read as that number.
use Rattle.std.proofs.Common.{◌≡◌, ◌+◌, ◌-◌, ◌*◌, ◌/◌, ◌%◌, ◌<◌, ◌≤◌, ◌^◌, ℕ, Bool, true, false, List, [], ◌∷◌, ◌++◌, Some, None, refl, ap, ◌∙◌, arith, cond}
use Rattle.std.specs.Prelude.{decimal, nat_lt}
use Rattle.std.proofs.lemmas.Bool.{ne_eqb}
use Rattle.std.proofs.lemmas.Bool.Decides.{nat_tests}
use Rattle.std.proofs.lemmas.Fmt.{decimal_by_steps}
use Rattle.xa_script.specs.Numbers.{begins_well, is_digit, number_of, value_from}

a_digit : (d : ℕ) → d < 10 → is_digit (48 + d) ≡ true
a_digit d small = grind (arith, nat_tests, small)

-- one digit more
with_digit : (a m d : ℕ) (ds : List ℕ) → value_from a ds ≡ Some m → d < 10 → value_from a (ds ++ (48 + d) ∷ []) ≡ Some (10 * m + d)
with_digit a m d [] is small =
    let same : a ≡ m = cc is in
    rw (a_digit d small) (ap Some (omega (arith, same)))
with_digit a m d (c ∷ ds) is small = go (λ rest. with_digit (10 * a + (c - 48)) m d ds rest small) (is_digit c) is
  where
    go : (value_from (10 * a + (c - 48)) ds ≡ Some m → value_from (10 * a + (c - 48)) (ds ++ (48 + d) ∷ []) ≡ Some (10 * m + d)) → (b : Bool)
        → cond b (value_from (10 * a + (c - 48)) ds) None ≡ Some m
        → cond b (value_from (10 * a + (c - 48)) (ds ++ (48 + d) ∷ [])) None ≡ Some (10 * m + d)
    go behind true is = behind is
    go behind false is = absurd (cc is)

value_read : (n : ℕ) → n < 2 ^ 64 → value_from 0 (decimal n) ≡ Some n
value_read n small =
    decimal_by_steps (λ n ds. value_from 0 ds ≡ Some n)
    (λ n one. with_digit 0 0 n [] refl one ∙ ap Some (omega arith))
    (λ n ds more is. with_digit 0 (n / 10) (n % 10) ds is (omega arith) ∙ ap Some (omega arith))
    n small

-- more digits after the first
still : (ds more : List ℕ) → begins_well ds ≡ true → begins_well (ds ++ more) ≡ true
still [] more well = absurd (cc well)
still (c ∷ ds) more well = well

begins : (n : ℕ) → n < 2 ^ 64 → 1 ≤ n → begins_well (decimal n) ≡ true
begins n small =
    decimal_by_steps (λ n ds. 1 ≤ n → begins_well ds ≡ true)
    (λ n one some. rw (ne_eqb (48 + n) 48 (λ e. omega (arith, e, some))) refl)
    (λ n ds more is some. still ds ((48 + n % 10) ∷ []) (is (omega (arith, more))))
    n small

pub number_read : (n : ℕ) → 1 ≤ n → n < 2 ^ 64 → number_of (decimal n) ≡ Some n
number_read n some small =
    let below : nat_lt n (2 ^ 64) ≡ true = grind (arith, nat_tests, small) in
    rw (begins n small some, value_read n small, below) refl
