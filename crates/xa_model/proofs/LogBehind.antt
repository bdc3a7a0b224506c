-- The log's records go on with the state, at each turn and each answer.
use Rattle.std.proofs.Common.{◌≡◌, ℕ, ◌≤◌, Bool, true, false, Ok, List, [], ◌∷◌, ◌++◌, Option, Some, None, refl, ap, sym, ◌∙◌, subst, arith}
use Rattle.xa_frame.specs.declared.reply.Reply.{Reply}
use Rattle.xa_frame.specs.declared.request.Request.{Request}
use Rattle.xa_frame.specs.declared.request.Request.TheVariants.{Restart, Trim}
use Rattle.xa_record.specs.declared.record.Record.{Record}
use Rattle.xa_model.specs.declared.event.Event.{Event}
use Rattle.xa_model.specs.declared.event.Event.TheVariants as event
use Rattle.xa_model.specs.declared.outcome.Appending.TheVariants.{Refused}
use Rattle.xa_model.specs.State.{State, Standing, Up, Down, Ended, timestamp_of}
use Rattle.xa_model.specs.Answer.{Answer}
use Rattle.xa_model.specs.Early.{early_refusal}
use Rattle.xa_model.specs.Turn.{Asked, Reopened, Turn, Nobody, Now, Appends, Checkpoints, Rereads, Joins, unless_now}
use Rattle.xa_model.specs.Step.{respond, asked, context_of, further_record}
use Rattle.xa_model.specs.Events.{IsEvent, begins_boot}
use Rattle.xa_model.specs.Fold.{reading, unread}
use Rattle.xa_model.specs.Invariants.Loggable.{IsRecoverable}
use Rattle.xa_model.specs.Laws.Logging.{KeepsLog, LogsWhatLasts}
use Rattle.xa_model.specs.Invariants.Backing.{Backs, BacksTurn}
use Rattle.xa_model.specs.Laws.Backing.{KeepsBacked}
use Rattle.xa_model.specs.Restarting.{restart_turn}
use Rattle.xa_model.specs.Trimming.{trim_turn}
use Rattle.xa_model.proofs.Inserts.{all_imply}
use Rattle.xa_model.proofs.LoggedEvents.{events_log_what_lasts}
use Rattle.xa_model.proofs.Further.{joins_with}
use Rattle.xa_model.proofs.LastLogged.{LogsLast, event_logs_last}
use Rattle.xa_model.proofs.LoggedOrder.{logs_on}
use Rattle.xa_model.proofs.Newer.{IsNewer, Continues, event_continues}
use Rattle.xa_model.proofs.Appended.{appended_backed}
use Rattle.xa_model.proofs.Booted.{lost_backed, too_backed, restart_backed, reopen_backed, trim_backed}
use Rattle.xa_model.proofs.Trims.{trim_asked}

-- where nothing more is logged
still_backed : (rs : List Record) (s t : State) → Backs rs s → KeepsLog s t → IsNewer s t → Backs rs t
still_backed rs s t k keeps newer = record {
  records = k.records;
  lasts = k.lasts ∙ ap (λ d. Ok d) (sym keeps.lasts);
  end = keeps.end ∙ k.end;
  new = λ current.
      let new = k.new (sym keeps.logged_boot ∙ current ∙ keeps.boot) in
      let ts = (reading unread rs).timestamps in
      record {
        given = all_imply (λ u. u ≤ timestamp_of s.boot s.given) (λ u. u ≤ timestamp_of t.boot t.given)
            (λ u less. omega (arith, less, keeps.boot, newer.given)) ts new.given;
        unused = newer.unused ts new.given new.unused;
      };
}

-- an event but a restart
goes_on : (rs : List Record) (s : State) (t : Turn) → IsRecoverable s → Backs rs s → LogsWhatLasts s t → Continues s t → LogsLast s t
    → BacksTurn rs s t
goes_on rs s Nobody h k logs on last = tt
goes_on rs s (Now a) h k logs on last = still_backed rs s a.after k logs on
goes_on rs s (Appends r after) h k logs on last = (
  subst (λ (a : Answer). Backs (rs ++ r ∷ []) a.after) (sym logs.1) (appended_backed rs s r (logs_on s h) k last.0 last.1),
  still_backed rs s (after Refused).after k logs.2 on,
  subst (λ (a : Answer). Backs rs a.after) (sym logs.3) (lost_backed rs s r k),
)
goes_on rs s (Checkpoints r after) h k logs on last = absurd logs
goes_on rs s (Rereads failed found) h k logs on last = absurd logs
goes_on rs s (Joins refused r lost) h k logs on last = absurd logs

asked_backed : (rs : List Record) (s : State) (e : Event) (t : Turn) → IsEvent e → begins_boot e ≡ false → IsRecoverable s → Backs rs s
    → t ≡ respond s e → LogsLast s t → BacksTurn rs s t
asked_backed rs s e t is other h k same last =
    goes_on rs s t h k (subst (LogsWhatLasts s) (sym same) (events_log_what_lasts s e h.sound other)) (subst (Continues s) (sym same) (event_continues s e other)) last

-- a restart, or its refusal
unless_backed : (rs : List Record) (s : State) (o : Option Reply) (t : Turn) → Backs rs s → BacksTurn rs s t → BacksTurn rs s (unless_now o s t)
unless_backed rs s None t k h = h
unless_backed rs s (Some reply) t k h = k

restart_only : (rs : List Record) (s : State) (n : ℕ) (request : Request) → begins_boot (event.Call n request) ≡ true → IsRecoverable s → Backs rs s
    → BacksTurn rs s (respond s (event.Call n request))
restart_only rs s n Restart e h k = unless_backed rs s (early_refusal (context_of s n) Restart) (restart_turn s) k (restart_backed rs s h k)
restart_only rs s n Trim e h k =
    trim_asked (BacksTurn rs s) s n k (λ up. unless_backed rs s (early_refusal (context_of s n) Trim) (trim_turn s) k (trim_backed rs s k (h.current up)))
restart_only rs s n request e h k = absurd (cc e)

restarts_backed : (rs : List Record) (s : State) (e : Event) → begins_boot e ≡ true → IsRecoverable s → Backs rs s → BacksTurn rs s (respond s e)
restarts_backed rs s event.Connect e h k = absurd (cc e)
restarts_backed rs s (event.Hangup n) e h k = absurd (cc e)
restarts_backed rs s (event.Call n request) e h k = restart_only rs s n request e h k

event_backed : (rs : List Record) (s : State) (e : Event) (t : Turn) (c : Bool) → begins_boot e ≡ c → IsEvent e → IsRecoverable s → Backs rs s
    → t ≡ respond s e → LogsLast s t → BacksTurn rs s t
event_backed rs s e t true restart is h k same last = subst (BacksTurn rs s) (sym same) (restarts_backed rs s e restart h k)
event_backed rs s e t false other is h k same last = asked_backed rs s e t is other h k same last

standing_backed : (rs : List Record) (s : State) (e : Event) (standing : Standing) → s.standing ≡ standing → IsEvent e → IsRecoverable s → Backs rs s
    → BacksTurn rs s (asked s.standing (respond s e))
standing_backed rs s e Up up is h k =
    event_backed rs s e _ (begins_boot e) refl is h k (ap (λ (x : Standing). asked x (respond s e)) up) (event_logs_last s e (begins_boot e) refl is h)
standing_backed rs s e Down down is h k =
    event_backed rs s e _ (begins_boot e) refl is h k (ap (λ (x : Standing). asked x (respond s e)) down) (event_logs_last s e (begins_boot e) refl is h)
standing_backed rs s e Ended ended is h k =
    let none : asked s.standing (respond s e) ≡ Nobody = ap (λ (x : Standing). asked x (respond s e)) ended in subst (BacksTurn rs s) (sym none) tt

pub keeps_backed : KeepsBacked
keeps_backed rs s (Asked e) is h k =
    let first = standing_backed rs s e s.standing refl is h k in
    joins_with (BacksTurn rs s) s (further_record s e) (asked s.standing (respond s e)) first
    (λ a r found now. (subst (BacksTurn rs s) now first, too_backed rs s r k))
keeps_backed rs s (Reopened name log_bytes) is h k = reopen_backed rs s name log_bytes h k
