-- How many lines a loop tells of orders: 100 at once, one more for each second that went by, and no more than 100 are kept.
use Rattle.std.specs.Prelude.{ℕ, ◌≡◌, ◌<◌, ◌≤◌, ◌+◌, ◌-◌, ◌*◌, ◌^◌, max, min, nat_le, Bool, List, [], ◌∷◌, length, Option, Some, None, if◌then◌else◌}
use Rattle.xa_reactor.specs.declared.allowance.Allowance.{Allowance}
use Rattle.xa_reactor.specs.declared.noted.Noted.{Noted}

abbrev pub new_allowance : Allowance
new_allowance = record { until = 0; left_out = 0 }

-- A line takes a second, after those that were taken before, or from now on; at most 100 may lie ahead.
abbrev pub has_line : Allowance → ℕ → Bool
has_line a now = nat_le (a.until - now) 99000

-- how many orders weren't told of, since the last one that was; none is left to be told
abbrev pub with_line : Allowance → ℕ → Option ℕ × Allowance
with_line a now = (Some a.left_out, record { until = min (max a.until now + 1000) (2 ^ 64 - 1); left_out = 0 })

-- one more wasn't
abbrev pub without_line : Allowance → Option ℕ × Allowance
without_line a = (None, record a { left_out = min (a.left_out + 1) (2 ^ 64 - 1) })

-- a line is taken, in milliseconds, if there is one
abbrev pub taken : Allowance → ℕ → Option ℕ × Allowance
taken a now = if has_line a now then with_line a now else without_line a

-- what is left after an order, if there was one
abbrev pub after_noted : Option Noted → ℕ → Allowance → Allowance
after_noted None now a = a
after_noted (Some noted) now a = (taken a now).1

-- ---- laws

abbrev pub lines_of : Option ℕ → ℕ
lines_of None = 0
lines_of (Some left_out) = 1

-- how many orders of some are told of, by the times at which they were answered
abbrev pub told_of : Allowance → List ℕ → ℕ
told_of a [] = 0
told_of a (now ∷ later) = lines_of (taken a now).0 + told_of (taken a now).1 later

abbrev pub latest : List ℕ → ℕ
latest [] = 0
latest (now ∷ later) = max now (latest later)

-- It is at most 100, and one for each second until the latest of them.
abbrev pub FewAreTold : Type 0
FewAreTold = (times : List ℕ) → latest times + 100000 < 2 ^ 64 → 1000 * told_of new_allowance times ≤ latest times + 100000

abbrev pub orders_of : Option ℕ → ℕ
orders_of None = 0
orders_of (Some left_out) = left_out + 1

-- how many of some the lines tell of or count, and those that are left to be counted
abbrev pub accounted : Allowance → List ℕ → ℕ
accounted a [] = a.left_out
accounted a (now ∷ later) = orders_of (taken a now).0 + accounted (taken a now).1 later

-- Each is told of, or counted.
abbrev pub NoneIsLost : Type 0
NoneIsLost = (times : List ℕ) → length times < 2 ^ 64 → accounted new_allowance times ≡ length times

-- ---- worked rows

abbrev pub with_those : ℕ → ℕ → Allowance
with_those until left_out = record { until = until; left_out = left_out }

-- The first line at the beginning, and the 100th; the next one within a second isn't; after a second one is, after 37 that
-- weren't; and an hour later there are 100, and no more.
pub record AllowanceRows : Type 0 where
  pub first : taken new_allowance 0 ≡ (Some 0, with_those 1000 0)
  pub last : taken (with_those 99000 0) 0 ≡ (Some 0, with_those 100000 0)
  pub none : taken (with_those 100000 36) 999 ≡ (None, with_those 100000 37)
  pub again : taken (with_those 100000 37) 1000 ≡ (Some 37, with_those 101000 0)
  pub kept : taken (with_those 101000 0) 3600000 ≡ (Some 0, with_those 3601000 0)
