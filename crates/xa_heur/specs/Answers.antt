-- What the branch table says of a branch in a state, and which refusal a code stands for.
use Rattle.std.specs.Prelude.{ℤ, Bool, true, false, ◌≡◌, Option, Some, None, Result, Ok, Err, option_map, if◌then◌else◌}
use Rattle.xa_codes.specs.declared.call.Call.{Call}
use Rattle.xa_codes.specs.declared.call.Call.TheVariants as call
use Rattle.xa_frame.specs.declared.reply.Reply.{Reply}
use Rattle.xa_record.specs.declared.record.Record.{Record}
use Rattle.xa_model.specs.State.{Known}
use Rattle.xa_model.specs.Answer.{plain}
use Rattle.xa_model.specs.Phases.{heuristic_refusal}
use Rattle.xa_branch.specs.declared.state.State.{State}
use Rattle.xa_branch.specs.State.{state_by}

-- A branch of which this is known may be in this state: with some associations, or with none.
pub record IsStateOf (state : State) (known : Known) : Type 0 where
  pub is_active : Bool
  pub rests : Bool
  pub is : state_by known is_active rests ≡ Some state

-- the code, or the one in the place of a record, as the refusal that carries nothing else
abbrev pub refused : Result Record ℤ → Option Reply
refused (Ok r) = None
refused (Err code) = Some (plain code)

abbrev pub answered : Option ℤ → Option Reply
answered code = option_map plain code

-- the two calls that ask for a completion
abbrev pub completes : Call → Bool
completes call.Commit = true
completes call.Rollback = true
completes _ = false

-- how such a call is refused if the operator completed the branch
abbrev pub completion_refusal : Call → Known → Option Reply
completion_refusal asked known = if completes asked then heuristic_refusal known else None
