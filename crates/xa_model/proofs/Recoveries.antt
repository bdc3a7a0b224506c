-- Every step leads from a recoverable state to one, and so does every history.
use Rattle.std.proofs.Common.{◌≡◌, ℕ, Bool, true, false, List, [], ◌∷◌, ◌++◌, Option, Some, None, refl, sym, ◌∙◌, subst, inl, inr}
use Rattle.std.specs.Prelude.{IfSome, option_map}
use Rattle.xa_frame.specs.declared.reply.Reply.{Reply}
use Rattle.xa_frame.specs.declared.request.Request.{Request}
use Rattle.xa_frame.specs.declared.request.Request.TheVariants.{Open, Close, Start, End, Prepare, Commit, Rollback, Forget, Recover, Get, Put, Delete, Decide, Doom, Restart, Timeout, Tick, Trim, Branches}
use Rattle.xa_record.specs.Limits.{IsRecord}
use Rattle.xa_record.specs.declared.record.Record.{Record}
use Rattle.xa_model.specs.declared.event.Event.{Event}
use Rattle.xa_model.specs.declared.event.Event.TheVariants as event
use Rattle.xa_model.specs.declared.outcome.Appending.{Appending}
use Rattle.xa_model.specs.declared.outcome.Appending.TheVariants.{Kept, Refused, Lost}
use Rattle.xa_model.specs.State.{State, Standing, Up, Down, Ended}
use Rattle.xa_model.specs.Answer.{Answer}
use Rattle.xa_model.specs.Early.{early_refusal}
use Rattle.xa_model.specs.Durable.{IsDurable, durable}
use Rattle.xa_model.specs.Turn.{Happening, Asked, Reopened, Turn, Nobody, Now, Appends, Checkpoints, Rereads, Joins, Rereading, Stops, Opens, unless_now}
use Rattle.xa_model.specs.Step.{respond, asked, turn, context_of, further_record}
use Rattle.xa_model.specs.Logging.{applied, lost, lost_too, takes_more, is_boot}
use Rattle.xa_model.specs.Trimming.{trim_turn}
use Rattle.xa_model.specs.Restarting.{restart_turn, reopen_turn, restarting, reopening, survived}
use Rattle.xa_model.specs.Events.{IsEvent, IsHappening, asks_boot, begins_boot}
use Rattle.xa_model.specs.Invariants.MayLog.{MayLog}
use Rattle.xa_model.specs.Invariants.Loggable.{MayFollow, AreOneGroup, MayBeLast, IsRecoverable}
use Rattle.xa_model.specs.Laws.Logging.{KeepsLog, LogsWhatLasts, BootLasts, BeginsWhatLasts}
use Rattle.xa_model.specs.Laws.Backing.{KeepsRecoverable, AlwaysRecoverable}
use Rattle.xa_model.proofs.AppliedAll.{applied_open, applied_current, if_imply, group_more, of_group, further_follows}
use Rattle.xa_model.proofs.AppliedDecisions.{applied_sound}
use Rattle.xa_model.proofs.Further.{MayBeFurther, further_is, further_may, joins_with}
use Rattle.xa_model.proofs.LastLogged.{LogsLast, event_logs_last}
use Rattle.xa_model.proofs.LeavesForm.{leaves_durable}
use Rattle.xa_model.proofs.Likeness.{like_may, like_follow, like_group, same_branches}
use Rattle.xa_model.proofs.LoggedEvents.{events_log_what_lasts}
use Rattle.xa_model.proofs.Parts.{sound_beside}
use Rattle.xa_model.proofs.Recordable.{AreRecordable, recordable, relogged, applied_loggable}
use Rattle.xa_model.proofs.RecordableRows.{KeepsRecordable, events_keep_recordable}
use Rattle.xa_model.proofs.Replies.{AllOf, AllOfReading, taken_all}
use Rattle.xa_model.proofs.StillLogged.{StillMay, down_still}
use Rattle.xa_model.proofs.Stopped.{down_sound, down_like}
use Rattle.xa_model.proofs.Restarts.{IsFound, survived_found, found_boots, none_follow, none_grouped, restart_lasts, reopen_lasts, restarts, reopens}
use Rattle.xa_model.proofs.Trims.{trim_asked, trim_lasts}

-- whatever the device does, the state after is recoverable

abbrev pub GoesOn : Rereading → Type 0
GoesOn (Stops a) = IsRecoverable a.after
GoesOn (Opens r after) = (x : Appending) → IsRecoverable (after x).after

abbrev pub StaysRecoverable : Turn → Type 0
StaysRecoverable Nobody = Unit {0}
StaysRecoverable (Now a) = IsRecoverable a.after
StaysRecoverable (Appends r after) = (x : Appending) → IsRecoverable (after x).after
StaysRecoverable (Checkpoints r after) = (x : Appending) → IsRecoverable (after x).after
StaysRecoverable (Rereads failed found) = IsRecoverable failed.after × ((k : ℕ) → IfSome (found k) GoesOn)
StaysRecoverable (Joins refused r lost) = IsRecoverable refused.after × IsRecoverable lost.after

all_stay : (t : Turn) → StaysRecoverable t → AllOf (λ a. IsRecoverable a.after) t
all_stay Nobody h = tt
all_stay (Now a) h = h
all_stay (Appends r after) h = h
all_stay (Checkpoints r after) h = h
all_stay (Rereads failed found) h = (h.0, λ k. if_imply GoesOn (AllOfReading (λ a. IsRecoverable a.after)) reading_stays (found k) (h.1 k))
  where
    reading_stays : (x : Rereading) → GoesOn x → AllOfReading (λ a. IsRecoverable a.after) x
    reading_stays (Stops a) h = h
    reading_stays (Opens r after) h = h
all_stay (Joins refused r lost) h = h

-- restarts and openings

boots_go_on : (s : State) (x : Rereading) → BootLasts s x → GoesOn x
boots_go_on s (Stops a) h = h.recoverable
boots_go_on s (Opens r after) h = λ x. by_fate x
  where
    by_fate : (x : Appending) → IsRecoverable (after x).after
    by_fate Kept = h.1.recoverable
    by_fate Refused = h.2.recoverable
    by_fate Lost = h.3.recoverable

settles_go_on : (s : State) (boot : State → Rereading) → ((t : State) → IsRecoverable t → t.open_records ≡ [] → BootLasts t (boot t)) → IsRecoverable s → (k : ℕ)
    → IfSome (option_map boot (survived s k)) GoesOn
settles_go_on s boot boots h k =
    found_boots (IsFound s k) GoesOn s k boot (λ t found. boots_go_on t (boot t) (boots t found.recoverable found.settled)) (survived_found s k h)

restart_stays : (s : State) → IsRecoverable s → StaysRecoverable (restart_turn s)
restart_stays s h = ((restart_lasts s h).0.recoverable, settles_go_on s restarting restarts h)

reopen_stays : (s : State) (name : List ℕ) (log_bytes : ℕ) → IsRecoverable s → StaysRecoverable (reopen_turn s name log_bytes)
reopen_stays s name log_bytes h =
    ((reopen_lasts s name log_bytes h).0.recoverable, settles_go_on s (reopening name log_bytes) (λ t k none. reopens t name log_bytes k none) h)

begins_stay : (s : State) (t : Turn) → BeginsWhatLasts s t → StaysRecoverable t
begins_stay s Nobody l = absurd l
begins_stay s (Now a) l = l.recoverable
begins_stay s (Appends r after) l = absurd l
begins_stay s (Checkpoints r after) l = boots_go_on s (Opens r after) l.0
begins_stay s (Rereads failed found) l = absurd l
begins_stay s (Joins refused r lost) l = absurd l

-- where nothing more is logged, and the open record may still be the last

kept_recoverable : (s t : State) → IsRecoverable s → KeepsLog s t → AreRecordable s.logged_boot t.branches → MayFollow t s.open_records → IsRecoverable t
kept_recoverable s t h k fits last = record {
  sound = k.sound;
  loggable = relogged s t h.loggable k.boot k.logged_boot fits;
  open_records = subst (λ (rs : List Record). MayFollow t rs) (sym k.open_records) last;
  group = subst AreOneGroup (sym k.open_records) h.group;
  settled = λ up. k.open_records ∙ h.settled (sym k.standing ∙ up);
  current = λ up. k.logged_boot ∙ h.current (sym k.standing ∙ up) ∙ sym k.boot;
}

-- a manager that is up

kept_there : (s : State) (r : Record) → IsRecoverable s → s.standing ≡ Up → MayLog s r → IsRecord r → is_boot r ≡ false → IsRecoverable (applied r s)
kept_there s r h up may limits other = record {
  sound = applied_sound s r h.sound may;
  loggable = applied_loggable s r h.loggable may limits;
  open_records = none_follow (applied r s) (applied r s).open_records (applied_open s r ∙ h.settled up);
  group = none_grouped (applied r s).open_records (applied_open s r ∙ h.settled up);
  settled = λ still. applied_open s r ∙ h.settled up;
  current = λ still. applied_current s r other (h.current up);
}

lost_there : (s : State) (r : Record) → IsRecoverable s → s.standing ≡ Up → MayLog s r → IsRecord r → IsRecoverable (lost s r).after
lost_there s r h up may limits = record {
  sound = down_sound s (r ∷ []) h.sound;
  loggable = relogged s (lost s r).after h.loggable refl refl (recordable s h.loggable);
  open_records = (record { may = like_may s (lost s r).after r (down_like s (r ∷ [])) may; limits = limits; current = λ other. h.current up }, tt);
  group = inr refl;
  settled = λ still. absurd (cc still);
  current = λ still. absurd (cc still);
}

up_stays : (s : State) (t : Turn) → IsRecoverable s → s.standing ≡ Up → LogsWhatLasts s t → KeepsRecordable s t → StaysRecoverable t
up_stays s Nobody h up l k = absurd l
up_stays s (Now a) h up l k = kept_recoverable s a.after h l k (none_follow a.after s.open_records (h.settled up))
up_stays s (Appends r after) h up l k = λ x. by_fate x
  where
    by_fate : (x : Appending) → IsRecoverable (after x).after
    by_fate Kept = subst (λ (a : Answer). IsRecoverable a.after) (sym l.1) (kept_there s r h up l.0 k.0 k.1)
    by_fate Refused = kept_recoverable s (after Refused).after h l.2 k.2 (none_follow (after Refused).after s.open_records (h.settled up))
    by_fate Lost = subst (λ (a : Answer). IsRecoverable a.after) (sym l.3) (lost_there s r h up l.0 k.0)
up_stays s (Checkpoints r after) h up l k = absurd l
up_stays s (Rereads failed found) h up l k = absurd l
up_stays s (Joins refused r lost) h up l k = absurd l

-- one that is down

down_stays : (s : State) (t : Turn) → IsRecoverable s → LogsWhatLasts s t → KeepsRecordable s t → StillMay s t → StaysRecoverable t
down_stays s Nobody h l k still = absurd l
down_stays s (Now a) h l k still = kept_recoverable s a.after h l k (like_group s a.after s.open_records h.group still h.open_records)
down_stays s (Appends r after) h l k still = absurd still
down_stays s (Checkpoints r after) h l k still = absurd l
down_stays s (Rereads failed found) h l k still = absurd l
down_stays s (Joins refused r lost) h l k still = absurd l

-- all that is asked

unless_stays : (o : Option Reply) (s : State) (t : Turn) → IsRecoverable s → StaysRecoverable t → StaysRecoverable (unless_now o s t)
unless_stays None s t h k = k
unless_stays (Some reply) s t h k = h

asked_to_restart : (s : State) (n : ℕ) (request : Request) → IsRecoverable s → asks_boot request ≡ true → StaysRecoverable (respond s (event.Call n request))
asked_to_restart s n (Open flags info) h e = absurd (cc e)
asked_to_restart s n (Close flags) h e = absurd (cc e)
asked_to_restart s n (Start flags xid) h e = absurd (cc e)
asked_to_restart s n (End flags xid) h e = absurd (cc e)
asked_to_restart s n (Prepare flags xid) h e = absurd (cc e)
asked_to_restart s n (Commit flags xid) h e = absurd (cc e)
asked_to_restart s n (Rollback flags xid) h e = absurd (cc e)
asked_to_restart s n (Forget flags xid) h e = absurd (cc e)
asked_to_restart s n (Recover flags count) h e = absurd (cc e)
asked_to_restart s n (Get key) h e = absurd (cc e)
asked_to_restart s n (Put key value) h e = absurd (cc e)
asked_to_restart s n (Delete key) h e = absurd (cc e)
asked_to_restart s n (Decide direction xid) h e = absurd (cc e)
asked_to_restart s n (Doom xid) h e = absurd (cc e)
asked_to_restart s n (Timeout seconds) h e = absurd (cc e)
asked_to_restart s n (Tick moment) h e = absurd (cc e)
asked_to_restart s n (Branches count after) h e = absurd (cc e)
asked_to_restart s n Trim h e =
    trim_asked StaysRecoverable s n h (λ up. unless_stays (early_refusal (context_of s n) Trim) s (trim_turn s) h (begins_stay s (trim_turn s) (trim_lasts s h up)))
asked_to_restart s n Restart h e = unless_stays (early_refusal (context_of s n) Restart) s (restart_turn s) h (restart_stays s h)

restart_asked : (s : State) (e : Event) → IsRecoverable s → begins_boot e ≡ true → StaysRecoverable (respond s e)
restart_asked s event.Connect h is = absurd (cc is)
restart_asked s (event.Hangup n) h is = absurd (cc is)
restart_asked s (event.Call n request) h is = asked_to_restart s n request h is

other_asked : (s : State) (e : Event) (standing : Standing) → s.standing ≡ standing → IsEvent e → IsRecoverable s → begins_boot e ≡ false → StaysRecoverable (asked standing (respond s e))
other_asked s e Up up is h other = up_stays s (respond s e) h up (events_log_what_lasts s e h.sound other) (events_keep_recordable s e is h.loggable other)
other_asked s e Down down is h other =
    down_stays s (respond s e) h (events_log_what_lasts s e h.sound other) (events_keep_recordable s e is h.loggable other) (down_still s e down other)
other_asked s e Ended ended is h other = tt

asked_by : (standing : Standing) (t : Turn) → StaysRecoverable t → StaysRecoverable (asked standing t)
asked_by Up t h = h
asked_by Down t h = h
asked_by Ended t h = tt

pub event_stays : (s : State) (e : Event) (c : Bool) → begins_boot e ≡ c → IsEvent e → IsRecoverable s → StaysRecoverable (asked s.standing (respond s e))
event_stays s e true c is h = asked_by s.standing (respond s e) (restart_asked s e h c)
event_stays s e false c is h = other_asked s e s.standing refl is h c

-- one more record of a group is lost

lost_further : (s : State) (r : Record) → IsRecoverable s → s.standing ≡ Down → takes_more s.open_records ≡ true → MayBeFurther s r → IsRecoverable (lost_too s r).after
lost_further s r h down more f =
    let t = (lost_too s r).after in
    let rs = s.open_records ++ r ∷ [] in
    let group = group_more s.open_records r (of_group s.open_records h.group more) f.of_group in
    record {
      sound = sound_beside s s.reads s.logged_boot s.end s.standing rs s.moment h.sound;
      loggable = relogged s t h.loggable refl refl (recordable s h.loggable);
      open_records = like_follow s t rs group (same_branches s t refl refl refl refl (λ xid none. none)) (further_follows s r h f.last);
      group = inl group;
      settled = λ up. absurd (cc (up, down));
      current = λ up. absurd (cc (up, down));
    }

pub further_stays : (s : State) (e : Event) (r : Record) → IsEvent e → IsRecoverable s → further_record s e ≡ Some r → IsRecoverable (lost_too s r).after
further_stays s e r is h found = let f = further_is s e r found in lost_further s r h f.down f.more (further_may s e r is h f)

-- each outcome of a turn leads to a recoverable state
pub turn_stays : (s : State) (happening : Happening) → IsHappening happening → IsRecoverable s → StaysRecoverable (turn s happening)
turn_stays s (Asked e) is h =
    let first = event_stays s e (begins_boot e) refl is h in
    joins_with StaysRecoverable s (further_record s e) (asked s.standing (respond s e)) first
    (λ a r found now. (subst StaysRecoverable now first, further_stays s e r is h found))
turn_stays s (Reopened name log_bytes) is h = reopen_stays s name log_bytes h

pub keeps_recoverable : KeepsRecoverable
keeps_recoverable s happening outcome a is h e =
    taken_all (λ b. IsRecoverable b.after) (turn s happening) outcome a (all_stay (turn s happening) (turn_stays s happening is h)) e

pub always_recoverable : AlwaysRecoverable
always_recoverable first last [] happened h leads = subst IsRecoverable (sym leads) h
always_recoverable first last (e ∷ es) happened h leads =
    always_recoverable leads.0 last es happened.1 (keeps_recoverable first e.happening e.outcome (record { reply = e.reply; after = leads.0 }) happened.0 h leads.1) leads.2

-- what a turn logs may be the log's last record

pub turn_logs_last : (s : State) (happening : Happening) → IsHappening happening → IsRecoverable s → LogsLast s (turn s happening)
turn_logs_last s (Asked e) is h =
    joins_with (LogsLast s) s (further_record s e) (asked s.standing (respond s e)) (event_logs_last s e (begins_boot e) refl is h) (λ a r found now. tt)
turn_logs_last s (Reopened name log_bytes) is h = tt

pub logged_record : (s : State) (happening : Happening) (r : Record) (after : Appending → Answer) → IsHappening happening → IsRecoverable s → turn s happening ≡ Appends r after → MayBeLast s r
logged_record s happening r after is h e = let logs : LogsLast s (Appends r after) = subst (LogsLast s) e (turn_logs_last s happening is h) in logs.0

-- what would last is of the one form
pub recoverable_durable : (s : State) → IsRecoverable s → IsDurable (durable s)
recoverable_durable s h = leaves_durable s h.sound h.loggable.past
