-- What an answer XA_OK says of all that a crash may leave.
use Rattle.std.proofs.Common.{◌≡◌, ℕ, ℤ, Bool, true, false, not, ◌&&◌, ◌||◌, cond, List, [], ◌∷◌, ◌++◌, Option, Some, None, refl, sym, ◌∙◌, subst}
use Rattle.std.specs.List.{AllByRecursion}
use Rattle.xa_codes.specs.declared.codes.TheConstants.{XA_OK, XAER_NOTA, XAER_PROTO, XA_HEURCOM, XA_HEURRB}
use Rattle.xa_codes.specs.declared.direction.Direction.TheVariants as direction
use Rattle.xa_frame.specs.declared.reply.Reply.{Reply}
use Rattle.xa_frame.specs.declared.request.Request.{Request}
use Rattle.xa_model.specs.declared.event.Event.TheVariants as event
use Rattle.xa_record.specs.declared.record.Record.{Record}
use Rattle.xa_model.specs.declared.outcome.Appending.{Appending}
use Rattle.xa_model.specs.declared.outcome.Appending.TheVariants.{Kept, Refused, Lost}
use Rattle.xa_model.specs.State.{State, Standing, Up, Down, Ended, Known, Unknown, AtWork, InDoubt, Completed}
use Rattle.xa_model.specs.Answer.{Answer, plain, first}
use Rattle.xa_model.specs.Early.{early_refusal, passes_down, call_of, Context, early_checks}
use Rattle.xa_model.specs.Associations.{is_unknown, is_lasting}
use Rattle.xa_model.specs.Phases.{unprepared_refusal, two_phase_refusal, rollback_refusal, heuristic_refusal}
use Rattle.xa_model.specs.Completions.{forget_refusal, is_completed}
use Rattle.xa_model.specs.Durable.{Durable, durable}
use Rattle.xa_model.specs.Fold.{apply}
use Rattle.xa_model.specs.Turn.{Turn, Nobody, Now, Appends, Checkpoints, Rereads, Joins, Asked, unless_now, marked_now}
use Rattle.xa_model.specs.Step.{row, respond, asked, turn, is_up, context_of, further_record}
use Rattle.xa_model.specs.Logging.{applied}
use Rattle.xa_model.specs.Events.{IsEvent, asks_boot, begins_boot}
use Rattle.xa_model.specs.History.{Entry, Leads}
use Rattle.xa_model.specs.Invariants.Loggable.{IsRecoverable}
use Rattle.xa_model.specs.Laws.Logging.{LogsWhatLasts}
use Rattle.xa_model.specs.ListedLaw.{IsDone}
use Rattle.xa_model.proofs.AppliedDecisions.{applied_lasts}
use Rattle.xa_model.proofs.LoggedEvents.{events_log_what_lasts}
use Rattle.xa_model.proofs.LastLogged.{LogsLast, event_logs_last}
use Rattle.xa_model.proofs.AppliedAll.{applied_open}
use Rattle.xa_model.proofs.Replies.{AllOf, joins_all}
use Rattle.xa_model.proofs.Rows.{passed}
use Rattle.xa_model.proofs.Fated.{IsFated, fates_are, quiet_is}

-- refusals

refused_by : (c : Bool) (r reply : Reply) (rest : Option Reply) → cond c (Some r) rest ≡ Some reply → (r.code ≡ XA_OK → ⊥)
    → (rest ≡ Some reply → reply.code ≡ XA_OK → ⊥)
    → reply.code ≡ XA_OK → ⊥
refused_by true r reply rest e bad others ok = let same : r ≡ reply = cc e in bad (subst (λ (x : Reply). x.code ≡ XA_OK) (sym same) ok)
refused_by false r reply rest e bad others ok = others e ok

pub refused : (checks : List (Bool × Reply)) (reply : Reply) → AllByRecursion (λ c. c.1.code ≡ XA_OK → ⊥) checks → first checks ≡ Some reply
    → reply.code ≡ XA_OK → ⊥
refused [] reply h e ok = cc e
refused (check ∷ checks) reply h e ok = refused_by check.0 check.1 reply (first checks) e h.0 (λ rest. refused checks reply h.1 rest) ok

pub one_phase_bad : (k : Known) (held : Bool) (reply : Reply) → unprepared_refusal k held ≡ Some reply → reply.code ≡ XA_OK → ⊥
one_phase_bad k held reply e ok =
    refused ((is_unknown k, plain XAER_NOTA) ∷ (held || is_lasting k, plain XAER_PROTO) ∷ []) reply ((λ ok. cc ok), ((λ ok. cc ok), tt)) e ok

pub early_bad : (c : Context) (request : Request) (reply : Reply) → early_refusal c request ≡ Some reply → reply.code ≡ XA_OK → ⊥
early_bad c request reply e ok =
    refused (early_checks c request) reply ((λ ok. cc ok), ((λ ok. cc ok), ((λ ok. cc ok), ((λ ok. cc ok), ((λ ok. cc ok), tt))))) e ok

other_bad : (k : Known) (reply : Reply) → heuristic_refusal k ≡ Some reply → IsDone reply → ⊥
other_bad Unknown reply e ok = cc e
other_bad (AtWork mark) reply e ok = cc e
other_bad InDoubt reply e ok = cc e
other_bad (Completed direction.Commit) reply e ok = let same : plain XA_HEURCOM ≡ reply = cc e in bad (subst IsDone (sym same) ok)
  where
    bad : IsDone (plain XA_HEURCOM) → ⊥
    bad ok = cc ok
other_bad (Completed direction.Rollback) reply e ok = let same : plain XA_HEURRB ≡ reply = cc e in bad (subst IsDone (sym same) ok)
  where
    bad : IsDone (plain XA_HEURRB) → ⊥
    bad ok = cc ok

pub heuristic_bad : (k : Known) (reply : Reply) → heuristic_refusal k ≡ Some reply → IsDone reply → ⊥
heuristic_bad k reply e ok = other_bad k reply e ok

pub two_phase_bad : (k : Known) (reply : Reply) → two_phase_refusal k ≡ Some reply → IsDone reply → ⊥
two_phase_bad k reply e ok =
    refused ((is_unknown k, plain XAER_NOTA) ∷ (not (is_lasting k), plain XAER_PROTO) ∷ []) reply ((λ ok. cc ok), ((λ ok. cc ok), tt)) e ok

pub rollback_bad : (k : Known) (held : Bool) (reply : Reply) → rollback_refusal k held ≡ Some reply → IsDone reply → ⊥
rollback_bad k held reply e ok =
    refused ((is_unknown k, plain XAER_NOTA) ∷ (held, plain XAER_PROTO) ∷ []) reply ((λ ok. cc ok), ((λ ok. cc ok), tt)) e ok

pub forget_bad : (k : Known) (reply : Reply) → forget_refusal k ≡ Some reply → IsDone reply → ⊥
forget_bad k reply e ok =
    refused ((is_unknown k, plain XAER_NOTA) ∷ (not (is_completed k), plain XAER_PROTO) ∷ []) reply ((λ ok. cc ok), ((λ ok. cc ok), tt)) e ok

-- What is answered XA_OK at once says it of the state, and a record that is kept makes it so.
abbrev pub Settles : (Durable → Type 0) → State → Turn → Type 0
Settles P s (Now a) = IsDone a.reply → IsFated P s
Settles P s (Appends r after) = P (apply r (durable s)) × (IsDone (after Refused).reply → ⊥)
Settles P s _ = Unit {0}

module _ (P : Durable → Type 0) (s : State) where
  pub unless_settles : (o : Option Reply) (t : Turn) → ((reply : Reply) → o ≡ Some reply → IsDone reply → ⊥) → (o ≡ None → Settles P s t)
      → Settles P s (unless_now o s t)
  unless_settles None t bad h = h refl
  unless_settles (Some reply) t bad h = λ ok. absurd (bad reply refl ok)

  pub marked_settles : (o : Option ℤ) (left : State) (t : Turn) → ((code : ℤ) → o ≡ Some code → code ≡ XA_OK → IsFated P s) → Settles P s t
      → Settles P s (marked_now o left t)
  marked_settles None left t bad h = h
  marked_settles (Some code) left t bad h = bad code refl

  pub cond_settles : (c : Bool) (t u : Turn) → Settles P s t → Settles P s u → Settles P s (cond c t u)
  cond_settles true t u h k = h
  cond_settles false t u h k = k

-- so it is of what a crash may leave after the answer

abbrev pub IsSettled : (Durable → Type 0) → Answer → Type 0
IsSettled P a = IsDone a.reply → IsRecoverable a.after → IsFated P a.after

logged_settles : (P : Durable → Type 0) (s : State) (r : Record) (after : Appending → Answer) → IsRecoverable s → s.standing ≡ Up
    → Settles P s (Appends r after)
    → LogsWhatLasts s (Appends r after) → (x : Appending) → IsSettled P (after x)
logged_settles P s r after h up p l Kept =
    subst (IsSettled P) (sym l.1)
    (λ ok k. fates_are P (applied r s) (apply r (durable s)) [] (applied_open s r ∙ h.settled up) k (applied_lasts s r h.sound l.0) (p.0, tt))
logged_settles P s r after h up p l Refused = λ ok k. absurd (p.1 ok)
logged_settles P s r after h up p l Lost = subst (IsSettled P) (sym l.3) (λ ok k. absurd (cc ok))

turn_settles : (P : Durable → Type 0) (s : State) (t : Turn) → IsRecoverable s → LogsLast s t → Settles P s t → LogsWhatLasts s t
    → AllOf (IsSettled P) t
turn_settles P s Nobody h last p l = tt
turn_settles P s (Now a) h last p l = λ ok k. quiet_is P s a.after h k l (p ok)
turn_settles P s (Appends r after) h last p l = λ x. logged_settles P s r after h last.2 p l x
turn_settles P s (Checkpoints r after) h last p l = absurd l
turn_settles P s (Rereads failed found) h last p l = absurd l
turn_settles P s (Joins refused r lost) h last p l = absurd l

asked_settles : (P : Durable → Type 0) (s : State) (t : Turn) (standing : Standing) → s.standing ≡ standing → IsRecoverable s
    → LogsLast s (asked standing t) → Settles P s t → LogsWhatLasts s t → AllOf (IsSettled P) (asked standing t)
asked_settles P s t Up up h last p l = turn_settles P s t h last p l
asked_settles P s t Down down h last p l = turn_settles P s t h last p l
asked_settles P s t Ended ended h last p l = tt

-- a manager that isn't up refuses what doesn't pass

is_running : (s : State) (standing : Standing) → s.standing ≡ standing → is_up standing ≡ true → s.standing ≡ Up
is_running s Up e up = e
is_running s Down e up = absurd (cc up)
is_running s Ended e up = absurd (cc up)

asked_up : (a b : Bool) → (not a && not b) ≡ false → b ≡ false → a ≡ true
asked_up true b e f = refl
asked_up false false e f = absurd (cc e)
asked_up false true e f = absurd (cc f)

pub call_settles : (P : Durable → Type 0) (s : State) (n : ℕ) (request : Request) → IsEvent (event.Call n request) → asks_boot request ≡ false
    → passes_down (call_of request) ≡ false → IsRecoverable s
    → (s.standing ≡ Up → Settles P s (row s n request))
    → AllOf (IsSettled P) (turn s (Asked (event.Call n request)))
call_settles P s n request is other down h settles =
    let e = event.Call n request in
    let early = early_refusal (context_of s n) request in
    joins_all (IsSettled P) s (further_record s e) (asked s.standing (respond s e))
    (asked_settles P s (respond s e) s.standing refl h (event_logs_last s e (begins_boot e) refl is h)
    (unless_settles P s early (row s n request) (λ reply bad ok. early_bad (context_of s n) request reply bad ok)
    (λ allowed. settles (is_running s s.standing refl (asked_up (is_up s.standing) (passes_down (call_of request)) (passed _ _ _ allowed).0 down))))
    (events_log_what_lasts s e h.sound other))
    (λ r found ok. absurd (cc ok))

-- histories in two parts

pub record AreParts (first last : State) (es fs : List Entry) : Type 0 where
  pub mid : State
  pub before : Leads first es mid
  pub after : Leads mid fs last

pub parts_of : (first last : State) (before after : List Entry) → Leads first (before ++ after) last → AreParts first last before after
parts_of first last [] after leads = record { mid = first; before = refl; after = leads }
parts_of first last (e ∷ es) after leads =
    let rest = parts_of leads.0 last es after leads.2 in
    record { mid = rest.mid; before = (leads.0, leads.1, rest.before); after = rest.after }
