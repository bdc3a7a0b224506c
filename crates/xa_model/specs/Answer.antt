-- What a step answers: a reply and the state after it.
use Rattle.std.specs.Prelude.{ℤ, pos, Bool, Option, Some, None, List, [], ◌∷◌, if◌then◌else◌}
pub use Rattle.xa_frame.specs.Made.{plain, detailed, carrying}
use Rattle.xa_frame.specs.declared.reply.Reply.{Reply}
use Rattle.xa_model.specs.State.{State}

pub record Answer : Type 0 where
  pub reply : Reply
  pub after : State

abbrev pub answer : Reply → State → Answer
answer reply after = record { reply = reply; after = after }

-- success that carries nothing
abbrev pub ok : State → Answer
ok after = answer (plain (pos 0)) after

-- checks in their order: the first that applies is answered
abbrev pub first : List (Bool × Reply) → Option Reply
first [] = None
first (check ∷ checks) = if check.0 then Some check.1 else first checks

-- a refusal changes nothing
abbrev pub unless : Option Reply → State → Answer → Answer
unless (Some reply) s go_on = answer reply s
unless None s go_on = go_on

-- a marked branch is answered with its mark, and leaves the state that is named first
abbrev pub marked : Option ℤ → State → Answer → Answer
marked (Some code) s go_on = answer (plain code) s
marked None s go_on = go_on
