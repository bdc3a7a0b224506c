-- Laws of the low water, and of the floor of work.
use Rattle.std.specs.Prelude.{ℕ, ◌≡◌, ◌<◌, ◌≤◌, true, ◌⊎◌, Some}
use Rattle.std.specs.List.{AllByRecursion}
use Rattle.xa_model.specs.declared.outcome.Outcome.{Outcome}
use Rattle.xa_model.specs.State.{State, known_count, is_working, timestamp_of}
use Rattle.xa_model.specs.Answer.{Answer}
use Rattle.xa_model.specs.Turn.{Happening}
use Rattle.xa_model.specs.Step.{step}
use Rattle.xa_model.specs.Invariants.Sound.{IsSound}
use Rattle.xa_model.specs.Invariants.Loggable.{IsRecoverable}
use Rattle.xa_model.specs.Invariants.LowWater.{is_known, is_known_at, low_water, work_floor}

-- it is at most each known branch's timestamp
abbrev pub BelowKnown : Type 0
BelowKnown = (s : State) → AllByRecursion (λ b. is_known b ≡ true → low_water s ≤ b.timestamp) s.branches

-- and it is a known branch's, or none is known, and it is the last that was given
abbrev pub IsReached : Type 0
IsReached =
    (s : State)
    → (is_known_at (low_water s) s.branches ≡ true)
    ⊎ ((known_count s.branches ≡ 0) × (low_water s ≡ timestamp_of s.boot s.given))

-- each timestamp that is given from now on is above it
abbrev pub BelowNext : Type 0
BelowNext = (s : State) (n : ℕ) → IsSound s → s.given < n → low_water s < timestamp_of s.boot n

-- whatever happens, and whatever the device did, it never falls: not when
-- branches are completed, not over a restart or an opening
abbrev pub NeverFalls : Type 0
NeverFalls =
    (s : State) (happening : Happening) (outcome : Outcome) (a : Answer) → IsRecoverable s
    → step s happening outcome ≡ Some a
    → low_water s ≤ low_water a.after

-- no branch works below the floor of work, and each timestamp that is given from now on is above it
abbrev pub WorksAbove : Type 0
WorksAbove = (s : State) → AllByRecursion (λ b. is_working b.phase ≡ true → work_floor s ≤ b.timestamp) s.branches

abbrev pub BeginsAbove : Type 0
BeginsAbove = (s : State) (n : ℕ) → 0 < n → work_floor s < timestamp_of s.boot n

-- it never falls either
abbrev pub FloorNeverFalls : Type 0
FloorNeverFalls =
    (s : State) (happening : Happening) (outcome : Outcome) (a : Answer) → IsRecoverable s
    → step s happening outcome ≡ Some a
    → work_floor s ≤ work_floor a.after
