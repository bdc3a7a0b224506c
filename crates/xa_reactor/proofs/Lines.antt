-- How many orders are told of.
use Rattle.std.proofs.Common.{ℕ, ◌≡◌, ◌<◌, ◌≤◌, ◌+◌, ◌-◌, ◌*◌, ◌^◌, max, min, Bool, true, false, List, [], ◌∷◌, length, arith, refl}
use Rattle.std.proofs.lemmas.Bool.Decides.{nat_tests}
use Rattle.std.specs.Prelude.{if◌then◌else◌}
use Rattle.xa_reactor.specs.Allowance.{accounted, has_line, latest, lines_of, orders_of, told_of, with_line, without_line}
use Rattle.xa_reactor.specs.declared.allowance.Allowance.{Allowance}

-- what lies ahead after one more line
ahead : (until now last rest : ℕ) → last + 100000 < 2 ^ 64 → now ≤ last → until - now ≤ 99000
    → 1000 * rest + min (max until now + 1000) (2 ^ 64 - 1) ≤ max (min (max until now + 1000) (2 ^ 64 - 1)) (last + 100000)
    → 1000 * (1 + rest) + until ≤ max until (last + 100000)
ahead until now last rest most by some h = omega arith

-- so it is after an order
module _ (a : Allowance) (now last : ℕ) (later : List ℕ) where
  abbrev Holds : Bool → Type 0
  Holds has =
      1000 * (lines_of (if has then with_line a now else without_line a).0 + told_of (if has then with_line a now else without_line a).1 later)
      + a.until ≤ max a.until (last + 100000)

  by_line : (has : Bool) → has ≡ has_line a now → last + 100000 < 2 ^ 64 → now ≤ last
      → ((b : Allowance) → 1000 * told_of b later + b.until ≤ max b.until (last + 100000)) → Holds has
  by_line true is most by h =
      ahead a.until now last (told_of (with_line a now).1 later) most by (grind (arith, nat_tests, is)) (h (with_line a now).1)
  by_line false is most by h = omega (arith, h (without_line a).1)

pub few : (a : Allowance) (times : List ℕ) (last : ℕ) → last + 100000 < 2 ^ 64 → latest times ≤ last
    → 1000 * told_of a times + a.until ≤ max a.until (last + 100000)
few a [] last most all = omega arith
few a (now ∷ later) last most all =
    by_line a now last later (has_line a now) refl most (omega arith) (λ b. few b later last most (omega arith))

-- nor is one lost
module _ (a : Allowance) (now : ℕ) (later : List ℕ) where
  abbrev Counts : Bool → Type 0
  Counts has =
      orders_of (if has then with_line a now else without_line a).0 + accounted (if has then with_line a now else without_line a).1 later
      ≡ a.left_out + (1 + length later)

  counts_by : (has : Bool) → a.left_out + (1 + length later) < 2 ^ 64
      → ((b : Allowance) → b.left_out + length later < 2 ^ 64 → accounted b later ≡ b.left_out + length later) → Counts has
  counts_by true most h = omega (arith, h (with_line a now).1 (omega arith))
  counts_by false most h = omega (arith, h (without_line a).1 (omega arith))

pub none_lost : (a : Allowance) (times : List ℕ) → a.left_out + length times < 2 ^ 64 → accounted a times ≡ a.left_out + length times
none_lost a [] most = omega arith
none_lost a (now ∷ later) most = omega (arith, counts_by a now later (has_line a now) (omega (arith, most)) (λ b. none_lost b later))
