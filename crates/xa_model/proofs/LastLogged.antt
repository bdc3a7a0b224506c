-- What is logged may be the log's last record.
use Rattle.std.proofs.Common.{◌≡◌, ℕ, ◌+◌, Bool, true, false, Option, Some, None, refl}
use Rattle.xa_frame.specs.declared.reply.Reply.{Reply}
use Rattle.xa_frame.specs.declared.request.Request.{Request}
use Rattle.xa_frame.specs.declared.request.Request.TheVariants.{Open, Close, Start, End, Prepare, Commit, Rollback, Forget, Recover, Get, Put, Delete, Decide, Doom, Restart, Timeout, Tick, Trim, Branches}
use Rattle.xa_record.specs.declared.record.Record.TheVariants as logged
use Rattle.xa_model.specs.declared.event.Event.{Event}
use Rattle.xa_model.specs.declared.event.Event.TheVariants as event
use Rattle.xa_model.specs.State.{State, Standing, Up, Down, Ended}
use Rattle.xa_model.specs.Early.{early_refusal}
use Rattle.xa_model.specs.Turn.{Turn, Nobody, Now, Appends, Checkpoints, Rereads, Joins, unless_now}
use Rattle.xa_model.specs.Step.{respond, asked, context_of}
use Rattle.xa_model.specs.Trimming.{trim_refusal, trim_became, trim_turn}
use Rattle.xa_model.specs.Restarting.{restart_turn}
use Rattle.xa_model.specs.Events.{IsEvent, asks_boot, begins_boot}
use Rattle.xa_model.specs.Invariants.Loggable.{MayBeLast, IsRecoverable, is_boot}
use Rattle.xa_model.specs.Laws.Logging.{LogsWhatLasts}
use Rattle.xa_model.proofs.LoggedEvents.{events_log_what_lasts}
use Rattle.xa_model.proofs.RecordableRows.{KeepsRecordable, events_keep_recordable}
use Rattle.xa_model.proofs.StillLogged.{StillMay, down_still}

abbrev pub LogsLast : State → Turn → Type 0
LogsLast s (Appends r after) = MayBeLast s r × (is_boot r ≡ false) × (s.standing ≡ Up)
LogsLast s _ = Unit {0}

up_logs : (s : State) (t : Turn) → IsRecoverable s → s.standing ≡ Up → LogsWhatLasts s t → KeepsRecordable s t → LogsLast s t
up_logs s Nobody h up l k = tt
up_logs s (Now a) h up l k = tt
up_logs s (Appends r after) h up l k = (record { may = l.0; limits = k.0; current = λ other. h.current up }, k.1, up)
up_logs s (Checkpoints r after) h up l k = tt
up_logs s (Rereads failed found) h up l k = tt
up_logs s (Joins refused r lost) h up l k = tt

down_logs : (s : State) (t : Turn) → StillMay s t → LogsLast s t
down_logs s Nobody still = tt
down_logs s (Now a) still = tt
down_logs s (Appends r after) still = absurd still
down_logs s (Checkpoints r after) still = tt
down_logs s (Rereads failed found) still = tt
down_logs s (Joins refused r lost) still = tt

unless_logs : (o : Option Reply) (s : State) (t : Turn) → LogsLast s t → LogsLast s (unless_now o s t)
unless_logs None s t h = h
unless_logs (Some reply) s t h = tt

asked_logs : (standing : Standing) (s : State) (t : Turn) → LogsLast s t → LogsLast s (asked standing t)
asked_logs Up s t h = h
asked_logs Down s t h = h
asked_logs Ended s t h = tt

restart_logs : (s : State) (n : ℕ) (request : Request) → asks_boot request ≡ true → LogsLast s (respond s (event.Call n request))
restart_logs s n (Open flags info) e = absurd (cc e)
restart_logs s n (Close flags) e = absurd (cc e)
restart_logs s n (Start flags xid) e = absurd (cc e)
restart_logs s n (End flags xid) e = absurd (cc e)
restart_logs s n (Prepare flags xid) e = absurd (cc e)
restart_logs s n (Commit flags xid) e = absurd (cc e)
restart_logs s n (Rollback flags xid) e = absurd (cc e)
restart_logs s n (Forget flags xid) e = absurd (cc e)
restart_logs s n (Recover flags count) e = absurd (cc e)
restart_logs s n (Get key) e = absurd (cc e)
restart_logs s n (Put key value) e = absurd (cc e)
restart_logs s n (Delete key) e = absurd (cc e)
restart_logs s n (Decide direction xid) e = absurd (cc e)
restart_logs s n (Doom xid) e = absurd (cc e)
restart_logs s n (Timeout seconds) e = absurd (cc e)
restart_logs s n (Tick moment) e = absurd (cc e)
restart_logs s n (Branches count after) e = absurd (cc e)
restart_logs s n Trim e =
    unless_logs (early_refusal (context_of s n) Trim) s (trim_turn s)
    (unless_logs (trim_refusal s) s (Checkpoints (logged.Opened (s.logged_boot + 1)) (trim_became s (s.logged_boot + 1))) tt)
restart_logs s n Restart e = unless_logs (early_refusal (context_of s n) Restart) s (restart_turn s) tt

event_logs : (s : State) (e : Event) → begins_boot e ≡ true → LogsLast s (respond s e)
event_logs s event.Connect is = absurd (cc is)
event_logs s (event.Hangup n) is = absurd (cc is)
event_logs s (event.Call n request) is = restart_logs s n request is

other_logs : (s : State) (e : Event) (standing : Standing) → s.standing ≡ standing → IsEvent e → IsRecoverable s → begins_boot e ≡ false → LogsLast s (asked standing (respond s e))
other_logs s e Up up is h other = up_logs s (respond s e) h up (events_log_what_lasts s e h.sound other) (events_keep_recordable s e is h.loggable other)
other_logs s e Down down is h other = down_logs s (respond s e) (down_still s e down other)
other_logs s e Ended ended is h other = tt

pub event_logs_last : (s : State) (e : Event) (c : Bool) → begins_boot e ≡ c → IsEvent e → IsRecoverable s → LogsLast s (asked s.standing (respond s e))
event_logs_last s e true c is h = asked_logs s.standing s (respond s e) (event_logs s e c)
event_logs_last s e false c is h = other_logs s e s.standing refl is h c
