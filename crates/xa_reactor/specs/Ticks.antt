-- When the loops tell the manager the time.
use Rattle.std.specs.Prelude.{ℕ, ◌≡◌, ◌⊎◌, ◌+◌, ◌-◌, ◌*◌, ◌^◌, max, min, Bool, true, false, ◌||◌, nat_le, nat_lt, List, Option, Some, None, Result}
use Rattle.xa_assoc.specs.declared.fault.ConnectFault.{ConnectFault}
use Rattle.xa_frame.specs.declared.reply.Reply.{Reply}
use Rattle.xa_frame.specs.declared.question.Question.{Question}
use Rattle.xa_frame.specs.declared.request.Request.TheVariants.{Tick}
use Rattle.xa_frame.specs.Spelling.{SpellsRequest}
use Rattle.xa_reactor.specs.declared.ticks.Ticks.{Ticks}
use Rattle.xa_reactor.specs.declared.visited.Visited.{Visited}
use Rattle.xa_reactor.specs.declared.visited.Visited.TheVariants.{Done, Refused, Down}
use Rattle.xa_reactor.specs.Aside.{HasVisited}

-- none was told
abbrev pub new_ticks : Ticks
new_ticks = record { told = None; is_refused = false }

-- by the last one that was taken: none was, or this many seconds have passed, or the clock went back
abbrev pub is_due_behind : Option ℕ → ℕ → ℕ → Bool
is_due_behind None moment seconds = true
is_due_behind (Some told) moment seconds = nat_lt moment told || nat_le seconds (moment - told)

abbrev pub is_due : Ticks → ℕ → ℕ → Bool
is_due ticks moment seconds = is_due_behind ticks.told moment seconds

abbrev pub after_tick : ℕ → Ticks
after_tick moment = record { told = Some moment; is_refused = false }

abbrev pub refused_by : Ticks → Ticks
refused_by ticks = record ticks { is_refused = true }

-- by what came of one
abbrev pub after_visit : Ticks → ℕ → Visited → Ticks
after_visit ticks moment (Done marked) = after_tick moment
after_visit ticks moment (Refused reason) = refused_by ticks
after_visit ticks moment Down = ticks

-- this many seconds later, by a loop's clock, in milliseconds; not 0, which is the first time
abbrev pub next_tick : ℕ → ℕ → ℕ
next_tick now seconds = max (min (now + min (seconds * 1000) (2 ^ 64 - 1)) (2 ^ 64 - 1)) 1

-- by what a connect, a call of a session and its hang-up do at the door
module _ {D : Type 0} (connected : D → Result ℕ ConnectFault → D → Type 0)
    (called : ℕ → D → Question → Reply → D → Type 0) (left : ℕ → D → D → Type 0) where
  -- a moment was told, by a session of its own
  pub record Tells (d e : D) : Type 0 where
    pub moment : ℕ
    pub content : List ℕ
    pub spells : SpellsRequest content (Tick moment)
    pub answered : Result Reply ConnectFault
    pub visited : HasVisited connected called left content d answered e

  -- nothing, or one moment
  abbrev pub IsTimed : D → D → Type 0
  IsTimed d e = (d ≡ e) ⊎ Tells d e

-- ---- worked rows

-- Every 10 seconds: the first moment; one 9 and one 10 seconds after the last; and one before it, which is refused.
pub record TickRows : Type 0 where
  pub first : is_due new_ticks 1700000000 10 ≡ true
  pub early : is_due (after_tick 1700000000) 1700000009 10 ≡ false
  pub due : is_due (after_tick 1700000000) 1700000010 10 ≡ true
  pub back : is_due (after_tick 1700000000) 1699999999 10 ≡ true
