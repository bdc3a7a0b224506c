-- What a post does with the asks of a round.
use Rattle.std.specs.Prelude.{ℕ, ◌≡◌, ◌⊎◌, List, IfSome}
use Rattle.xa_frame.specs.Limits.{IsRequest}
use Rattle.xa_frame.specs.declared.question.Question.{Question}
use Rattle.xa_frame.specs.declared.reply.Reply.{Reply}
use Rattle.xa_model.specs.State.{State}
use Rattle.xa_reactor.specs.Asking.{Tells, TellsSome}
use Rattle.xa_reactor.specs.declared.ask.Ask.{Ask}
use Rattle.xa_history.specs.Believed.Manages.{Behaviour}
use Rattle.xa_server.specs.Believed.Loops.{Called}
use Rattle.xa_tokens.specs.Believed.Account.{Account}

-- its request, if it is left, is within the limits
abbrev pub IsWithin : Ask → Type 0
IsWithin a = IfSome a.request IsRequest

-- the request of an ask was answered at the door, or nothing changed
abbrev pub TellsAtMost : {D : Type 0} → (ℕ → D → Question → Reply → D → Type 0) → D → Ask → Ask → D → Type 0
TellsAtMost called d a b e = ((b ≡ a) × (e ≡ d)) ⊎ Tells called d a b e

-- Letters of a share came back: some asks were answered, one after the other, and nothing was asked for again.
pub record TakesBack {M : Type 0} (m : Behaviour M) (start : State → Type 0) (base : ℕ × ℕ) (old : Account) (asks told : List Ask)
    (new : Account) : Type 0 where
  pub some : TellsSome {D = Account} (Called m start base) old asks told new
  pub asked : new.asked ≡ old.asked
