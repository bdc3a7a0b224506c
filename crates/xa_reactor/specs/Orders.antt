-- What connections ask of the server itself.
use Rattle.std.specs.Prelude.{ℕ, Option, None, Some, List, ◌∷◌, [], ◌++◌}
use Rattle.xa_connection.specs.declared.answering.Answering.{Answering}
use Rattle.xa_connection.specs.declared.asked.Asked.{Asked}
use Rattle.xa_connection.specs.declared.asked.Asked.TheVariants as asked
use Rattle.xa_connection.specs.declared.connection.Connection.{Connection}
use Rattle.xa_connection.specs.Calls.{AnswersServer}
use Rattle.xa_control.specs.declared.answer.Answer.{Answer}
use Rattle.xa_control.specs.declared.answer.Answer.TheVariants as answer
use Rattle.xa_control.specs.declared.control.Control.{Control}
use Rattle.xa_control.specs.declared.control.Control.TheVariants as control
use Rattle.xa_xid.specs.Triple.{Triple}
use Rattle.xa_reactor.specs.Turning.{HasSent}
use Rattle.xa_control.specs.Answers.{IsAnswer}
use Rattle.xa_reactor.specs.declared.attending.Outcome.{Outcome}
use Rattle.xa_reactor.specs.declared.attending.Outcome.TheVariants.{Answered}
use Rattle.xa_reactor.specs.declared.orders.Wish.{Wish}

-- what is asked of the server itself, if anything
abbrev pub control_in : Asked → Option Control
control_in (asked.Control count control) = Some control
control_in _ = None

-- what a connection asked of the server itself was answered, and some of the answer was sent by then
abbrev pub HasTold : Connection → Answer → Connection → Type 0
HasTold c answer c' =
    (control : Control) × (answering : Answering) × (between : Connection)
    × AnswersServer c control answer answering between × HasSent between c'

-- what is answered is an answer
abbrev pub IsOutcome : Outcome → Type 0
IsOutcome (Answered answer) = IsAnswer answer
IsOutcome _ = Unit {0}

-- sessions are answered if they were asked for, and are those that the door told of the branch
abbrev pub TellsSessions : (Triple → List ℕ → Type 0) → Control → Outcome → Type 0
TellsSessions attached (control.Sessions xid) (Answered (answer.Sessions sessions)) = attached xid sessions
TellsSessions attached _ (Answered (answer.Sessions sessions)) = ⊥
TellsSessions attached _ _ = Unit {0}

-- the connection under this key asked something, and gave no order yet
abbrev pub new_wish : ℕ → Wish
new_wish key = record { key = key; cut = None }

-- who asked the server to end, and who asked something else, in their order
abbrev pub Asking : Type 0
Asking = Option ℕ × List Wish

-- one more asked, after the others
abbrev pub with_wish : Asking → Wish → Asking
with_wish asking wish = (asking.0, asking.1 ++ wish ∷ [])
