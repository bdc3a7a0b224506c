-- The times of a loop, in milliseconds.
use Rattle.std.specs.Prelude.{ℕ, ◌≡◌, ◌⊎◌, ◌+◌, ◌-◌, ◌*◌, ◌/◌, ◌^◌, max, min, Bool, true, false, not, ◌&&◌, nat_lt, nat_le, Option, Some, None, if◌then◌else◌}
use Rattle.xa_reactor.specs.declared.clock.LoopClock.{LoopClock}
use Rattle.xa_reactor.specs.declared.common.Settings.{Settings}
use Rattle.xa_reactor.specs.declared.timing.TheConstants.{PAUSE, LOOK}

-- the loop hasn't waited since the clock was read
abbrev pub IsRead : LoopClock → Type 0
IsRead clock = clock.is_past ≡ false

-- the clock of a loop that has waited
abbrev pub after_wait : LoopClock → LoopClock
after_wait clock = record clock { is_past = true }

-- if a look is due, the next one is a second later
abbrev pub looked : LoopClock → LoopClock
looked clock = if nat_le clock.looks clock.now then record clock { looks = min (clock.now + 1000) (2 ^ 64 - 1) } else clock

-- there is a limit, and it was quiet for as many seconds
abbrev pub is_too_quiet : ℕ → ℕ → Bool
is_too_quiet quiet seconds = nat_lt 0 seconds && nat_le (1000 * seconds) quiet

-- it is inside a frame, there is a limit, and it was quiet for as many seconds
abbrev pub is_overdue : Bool → ℕ → ℕ → Bool
is_overdue is_inside quiet seconds = is_inside && is_too_quiet quiet seconds

-- What may be answered of a session: whether it has an association of its own, and whether one of these is with a branch
-- that isn't marked.
pub record Ties : Type 1 where
  pub associated : Bool → Type 0
  pub unmarked : Bool → Type 0

-- Whether a connection was quiet for too long, by whether it was for an idle session, and for one at work: if only the
-- second limit has passed it ends if it has an association; if only the first has, unless it has one with an unmarked
-- branch.
abbrev pub HasVanished : Ties → Bool → Bool → Bool → Type 0
HasVanished ties true true ends = ends ≡ true
HasVanished ties false false ends = ends ≡ false
HasVanished ties false true ends = ties.associated ends
HasVanished ties true false ends = (unmarked : Bool) × ties.unmarked unmarked × (ends ≡ not unmarked)

-- By what is answered of its session: a connection is to end if it is overdue inside a frame, or was quiet for too
-- long.
pub record IsToEnd (ties : Ties) (is_inside : Bool) (quiet : ℕ) (settings : Settings) (ends : Bool) : Type 0 where
  pub overdue : is_overdue is_inside quiet settings.frame_seconds ≡ true → ends ≡ true
  pub vanished : is_overdue is_inside quiet settings.frame_seconds ≡ false
      → HasVanished ties (is_too_quiet quiet settings.idle_seconds) (is_too_quiet quiet settings.branch_seconds) ends

-- 40 looks of one connection, and fewer of more
abbrev pub looks_of : ℕ → ℕ
looks_of connections = 40 / max connections 1

-- at first not at all, and a millisecond after a thousand looks
abbrev pub gather_nanos : ℕ → ℕ
gather_nanos looks = if nat_le 1000 looks then 1000000 else 0

abbrev pub wait_of : Bool → Bool → Bool → Option ℕ
wait_of has_turn pauses has_connections =
    if has_turn then Some 0 else (if pauses then Some PAUSE else (if has_connections then Some LOOK else None))
