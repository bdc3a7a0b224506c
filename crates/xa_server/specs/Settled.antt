-- What a loop's door keeps: if it owes nothing that was posted, it owes nothing after what it does.
use Rattle.std.specs.Prelude.{ℕ, not}
use Rattle.std.proofs.Common.{sym, subst}
use Rattle.xa_assoc.specs.Refusals.{is_memory}
use Rattle.xa_frame.specs.declared.question.Question.{Question}
use Rattle.xa_frame.specs.declared.question.Question.TheVariants as question
use Rattle.xa_frame.specs.declared.reply.Reply.{Reply}
use Rattle.xa_handles.specs.Owing.{owes_asked, owes_at_once, owes_ended}
use Rattle.xa_manager.specs.Believed.Answered.{connect_reply}
use Rattle.xa_model.specs.State.{State}
use Rattle.xa_model.specs.declared.event.Event.TheVariants.{Connect, Hangup}
use Rattle.xa_reactor.specs.Reception.{KeepsSettled}
use Rattle.xa_history.specs.Believed.Manages.{Behaviour}
use Rattle.xa_server.specs.Believed.Loops.{Called, Connected, Left}
use Rattle.xa_tokens.specs.Believed.Account.{Account, Owes}

module _ {M : Type 0} (m : Behaviour M) (start : State → Type 0) (base : ℕ × ℕ) where
  called_settled : (session : ℕ) (a : Account) (q : Question) (reply : Reply) (b : Account) → Called m start base session a q reply b
      → Owes a 0 → Owes b 0
  called_settled session a (question.Call request) reply b h owes =
      owes_ended (is_memory reply.detail) h.before b h.ask reply 0 h.ends (owes_asked a h.before h.ask h.asked owes)
  called_settled session a question.Status reply b h owes = subst (λ (x : Account). Owes x 0) (sym h.0) owes

  -- by the accounts of doors of any type
  pub keeps_settled : {D : Type 0} (f : D → Account)
      → KeepsSettled (λ x r y. Connected m start base (f x) r (f y)) (λ s x q r y. Called m start base s (f x) q r (f y))
      (λ s x y. Left m start base s (f x) (f y)) (λ x. Owes (f x) 0)
  keeps_settled f = record {
    connect = λ d e result h owes. owes_at_once (is_memory (connect_reply result).detail) (f d) (f e) Connect h.reply 0 h.told owes;
    call = λ session d e q reply h owes. called_settled session (f d) q reply (f e) h owes;
    hangup = λ session d e h owes. owes_at_once (not h.0) (f d) (f e) (Hangup session) h.1.reply 0 h.1.told owes;
  }
