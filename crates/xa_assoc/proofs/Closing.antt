-- A table of sessions where a session closes.
use Rattle.std.proofs.Common.{◌≡◌, ℕ, ◌==◌, false, Option, Some, None, ap, sym, ◌∙◌, subst, pos}
use Rattle.std.specs.List.{list_any}
use Rattle.xa_frame.specs.declared.reply.Reply.{Reply}
use Rattle.xa_model.specs.State.{State, change}
use Rattle.xa_model.specs.Answer.{Answer, answer, plain, ok}
use Rattle.xa_model.specs.Associations.{as_closed, close_by, close_refusal, is_of_session}
use Rattle.xa_assoc.specs.declared.sessions.Sessions.{Sessions}
use Rattle.xa_assoc.specs.Seats.{holds_any_at}
use Rattle.xa_assoc.specs.Changes.{Sets}
use Rattle.xa_assoc.specs.Sessions.{SessionsStandFor, Follows}
use Rattle.xa_assoc.proofs.Arrivals.{closed_follows}
use Rattle.xa_assoc.proofs.Connecting.{unless_none, unless_some}
use Rattle.xa_assoc.proofs.Facts.{holds_any_is}

refusal_same : (m : Sessions) (s : State) (n : ℕ) (o : Option Reply) → SessionsStandFor m s → close_refusal (holds_any_at m n) ≡ o → close_refusal (list_any (is_of_session n) s.associations) ≡ o
refusal_same m s n o st e = ap close_refusal (sym (holds_any_is m s n st)) ∙ e

pub close_refuses : (m : Sessions) (s : State) (n : ℕ) (r : Reply) → SessionsStandFor m s → close_refusal (holds_any_at m n) ≡ Some r → close_by s n ≡ answer r s
close_refuses m s n r st e =
    unless_some (close_refusal (list_any (is_of_session n) s.associations)) r s (ok (record s { sessions = change (λ x. x.number == n) as_closed s.sessions })) (refusal_same m s n (Some r) st e)

pub close_stays : (m : Sessions) (n : ℕ) (r : Reply) → close_refusal (holds_any_at m n) ≡ Some r → Follows m (λ s. (close_by s n).after) m
close_stays m n r e = λ s sound st. subst (λ (a : Answer). SessionsStandFor m a.after) (sym (close_refuses m s n r st e)) st

pub close_passes : (m : Sessions) (s : State) (n : ℕ) → SessionsStandFor m s → close_refusal (holds_any_at m n) ≡ None → close_by s n ≡ ok (record s { sessions = change (λ x. x.number == n) as_closed s.sessions })
close_passes m s n st e =
    unless_none (close_refusal (list_any (is_of_session n) s.associations)) s (ok (record s { sessions = change (λ x. x.number == n) as_closed s.sessions })) (refusal_same m s n None st e)

pub close_succeeds : (m : Sessions) (s : State) (n : ℕ) → SessionsStandFor m s → close_refusal (holds_any_at m n) ≡ None → (close_by s n).reply ≡ plain (pos 0)
close_succeeds m s n st e = ap (λ (a : Answer). a.reply) (close_passes m s n st e)

pub close_follows : (m m' : Sessions) (n : ℕ) → close_refusal (holds_any_at m n) ≡ None → Sets m n (λ _. false) (λ _. None) (λ limit. limit) m' → Follows m (λ s. (close_by s n).after) m'
close_follows m m' n e d = λ s sound st. subst (λ (a : Answer). SessionsStandFor m' a.after) (sym (close_passes m s n st e)) (closed_follows m m' n s d st)
