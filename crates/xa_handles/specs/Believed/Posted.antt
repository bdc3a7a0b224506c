-- What calls that threads post are answered by whichever of them has the lock.
use Rattle.std.specs.Prelude.{ℕ, ◌≡◌, false, Option, None, Some}
use Rattle.xa_assoc.specs.Refusals.{is_memory}
use Rattle.xa_frame.specs.Limits.{IsReply}
use Rattle.xa_frame.specs.declared.reply.Reply.{Reply}
use Rattle.xa_frame.specs.declared.request.Request.{Request}
use Rattle.xa_handles.specs.Mail.{IsCall, Mailed}
use Rattle.xa_handles.specs.Believed.Shared.{DidAmong}
use Rattle.xa_model.specs.State.{State}
use Rattle.xa_model.specs.declared.event.Event.TheVariants.{Call}
use Rattle.xa_history.specs.Believed.Manages.{Behaviour}
use Rattle.xa_tokens.specs.declared.ask.Ask.{Ask}

-- a sequencer that stood for a history answered this ask with this reply, as one of a group
pub record WasAnswered {M : Type 0} (m : Behaviour M) (start : State → Type 0) (base : ℕ × ℕ) (ask : Ask) (reply : Reply)
    : Type 0 where
  pub session : ℕ
  pub request : Request
  pub event : ask.event ≡ Call session request
  pub among : DidAmong m start base session request reply
  pub found : is_memory reply.detail ≡ false
  pub limits : IsReply reply

abbrev pub WasReplied : {M : Type 0} → Behaviour M → (State → Type 0) → ℕ × ℕ → Ask → Option Reply → Type 0
WasReplied m start base ask None = Unit {0}
WasReplied m start base ask (Some reply) = WasAnswered m start base ask reply

-- a letter's ask is a call within the limits, and its reply, if it has one, is what it was answered
pub record IsLetter {M : Type 0} (m : Behaviour M) (start : State → Type 0) (base : ℕ × ℕ) (l : Mailed) : Type 0 where
  pub call : IsCall l.ask.event
  pub replied : WasReplied m start base l.ask l.reply
