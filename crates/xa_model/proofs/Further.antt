-- What is known of a call whose record may be lost with a group.
use Rattle.std.proofs.Common.{◌≡◌, ℕ, ◌+◌, Bool, true, false, cond, Option, Some, None, refl, sym, ap, ◌∙◌, subst}
use Rattle.std.specs.Prelude.{◌&&◌}
use Rattle.std.proofs.lemmas.Bool.{and_parts}
use Rattle.xa_codes.specs.declared.codes.TheConstants.{XAER_RMFAIL}
use Rattle.xa_frame.specs.declared.reply.Reply.{Reply}
use Rattle.xa_frame.specs.declared.request.Request.{Request}
use Rattle.xa_frame.specs.declared.request.Request.TheVariants.{Open, Close, Restart, Trim}
use Rattle.xa_record.specs.declared.record.Record.{Record}
use Rattle.xa_record.specs.declared.record.Record.TheVariants as logged
use Rattle.xa_model.specs.declared.event.Event.{Event}
use Rattle.xa_model.specs.declared.event.Event.TheVariants as event
use Rattle.xa_model.specs.declared.outcome.Appending.{Appending}
use Rattle.xa_model.specs.State.{State, Standing, Up, Down, Ended}
use Rattle.xa_model.specs.Answer.{Answer, plain, answer}
use Rattle.xa_model.specs.Associations.{open_by, close_by}
use Rattle.xa_model.specs.Early.{Context, early_refusal, passes_down, call_of}
use Rattle.xa_model.specs.Turn.{Asked, Turn, Nobody, Now, Appends, Checkpoints, Rereads, Joins, unless_now}
use Rattle.xa_model.specs.Logging.{lost_too, supposed, takes_more, is_boot}
use Rattle.xa_model.specs.Restarting.{restart_turn}
use Rattle.xa_model.specs.Trimming.{trim_refusal, trim_became, trim_turn}
use Rattle.xa_model.specs.Step.{row, respond, asked, turn, is_up, context_of, is_down, record_in, further_record, or_joins}
use Rattle.xa_model.specs.Events.{IsEvent, asks_boot, begins_boot}
use Rattle.xa_model.specs.Invariants.Sound.{IsSound}
use Rattle.xa_model.specs.Invariants.Loggable.{IsRecoverable, MayBeLast}
use Rattle.xa_model.specs.Laws.Groups.{JoinsLast, JoinsEach, TurnsUp, TurnsAlone}
use Rattle.xa_model.specs.Laws.Logging.{LogsWhatLasts}
use Rattle.xa_model.proofs.AppliedAll.{supposed_recoverable}
use Rattle.xa_model.proofs.LastLogged.{LogsLast, event_logs_last}
use Rattle.xa_model.proofs.LoggedEvents.{events_log_what_lasts}

-- the record is one more of a group that was lost
pub record IsFurther (s : State) (e : Event) (r : Record) : Type 0 where
  pub down : s.standing ≡ Down
  pub more : takes_more s.open_records ≡ true
  pub after : Appending → Answer
  pub appends : respond (supposed s) e ≡ Appends r after

chosen : (c : Bool) (o : Option Record) (r : Record) → cond c o None ≡ Some r → (c ≡ true) × (o ≡ Some r)
chosen true o r e = (refl, e)
chosen false o r e = absurd (cc e)

down_is : (p : Standing) → is_down p ≡ true → p ≡ Down
down_is Up e = absurd (cc e)
down_is Down e = refl
down_is Ended e = absurd (cc e)

pub recorded : (t : Turn) (r : Record) → record_in t ≡ Some r → (after : Appending → Answer) × (t ≡ Appends r after)
recorded Nobody r e = absurd (cc e)
recorded (Now a) r e = absurd (cc e)
recorded (Appends q after) r e = let same : q ≡ r = cc e in (after, ap (λ (x : Record). Appends x after) same)
recorded (Checkpoints q after) r e = absurd (cc e)
recorded (Rereads failed found) r e = absurd (cc e)
recorded (Joins refused q lost) r e = absurd (cc e)

pub further_is : (s : State) (e : Event) (r : Record) → further_record s e ≡ Some r → IsFurther s e r
further_is s e r found =
    let both = chosen (is_down s.standing && takes_more s.open_records) (record_in (respond (supposed s) e)) r found in
    let parts = and_parts (is_down s.standing) (takes_more s.open_records) both.0 in
    let (after, appends) = recorded (respond (supposed s) e) r both.1 in
    record { down = down_is s.standing parts.0; more = parts.1; after = after; appends = appends }

-- it may be the last one, once those before it are kept

pub record MayBeFurther (s : State) (r : Record) : Type 0 where
  pub recovers : IsRecoverable (supposed s)
  pub last : MayBeLast (supposed s) r
  pub of_group : is_boot r ≡ false

pub further_may : (s : State) (e : Event) (r : Record) → IsEvent e → IsRecoverable s → IsFurther s e r → MayBeFurther s r
further_may s e r is h f =
    let k = supposed_recoverable s h f.more in
    let logs : LogsLast (supposed s) (Appends r f.after) =
    subst (LogsLast (supposed s)) f.appends (event_logs_last (supposed s) e (begins_boot e) refl is k) in
    record { recovers = k; last = logs.0; of_group = logs.1 }

-- what holds of a turn, and where a record may be lost with a group of what that comes to, holds of both
pub joins_with : (T : Turn → Type 0) (s : State) (o : Option Record) (t : Turn) → T t
    → ((a : Answer) (r : Record) → o ≡ Some r → t ≡ Now a → T (Joins a r (lost_too s r))) → T (or_joins s o t)
joins_with T s None t h joins = h
joins_with T s (Some r) Nobody h joins = h
joins_with T s (Some r) (Now a) h joins = joins a r refl refl
joins_with T s (Some r) (Appends q after) h joins = h
joins_with T s (Some r) (Checkpoints q after) h joins = h
joins_with T s (Some r) (Rereads failed found) h joins = h
joins_with T s (Some r) (Joins refused q lost) h joins = h

-- calls that append nothing are no further ones

record_none : (o : Option Reply) (s : State) (t : Turn) → record_in t ≡ None → record_in (unless_now o s t) ≡ None
record_none None s t e = e
record_none (Some reply) s t e = refl

-- those that pass while the manager is down
pub passing_none : (s : State) (n : ℕ) (request : Request) → passes_down (call_of request) ≡ true → record_in (respond s (event.Call n request)) ≡ None
passing_none s n (Open flags info) e = record_none (early_refusal (context_of s n) (Open flags info)) s (Now (open_by s n)) refl
passing_none s n (Close flags) e = record_none (early_refusal (context_of s n) (Close flags)) s (Now (close_by s n)) refl
passing_none s n Restart e = record_none (early_refusal (context_of s n) Restart) s (restart_turn s) refl
passing_none s n request e = absurd (cc e)

-- those that begin a boot
boot_none : (s : State) (n : ℕ) (request : Request) → asks_boot request ≡ true → record_in (respond s (event.Call n request)) ≡ None
boot_none s n Restart e = record_none (early_refusal (context_of s n) Restart) s (restart_turn s) refl
boot_none s n Trim e =
    record_none (early_refusal (context_of s n) Trim) s (trim_turn s)
    (record_none (trim_refusal s) s (Checkpoints (logged.Opened (s.logged_boot + 1)) (trim_became s (s.logged_boot + 1))) refl)
boot_none s n request e = absurd (cc e)

pub boots_none : (s : State) (e : Event) → begins_boot e ≡ true → record_in (respond s e) ≡ None
boots_none s event.Connect is = refl
boots_none s (event.Hangup n) is = refl
boots_none s (event.Call n request) is = boot_none s n request is

-- so a further one begins none
pub further_other : (s : State) (e : Event) (r : Record) → IsFurther s e r → begins_boot e ≡ false
further_other s e r f = by_test (begins_boot e) refl
  where
    by_test : (c : Bool) → begins_boot e ≡ c → begins_boot e ≡ false
    by_test false is = is
    by_test true is =
        let none : record_in (respond (supposed s) e) ≡ None = boots_none (supposed s) e is in
        let some : record_in (respond (supposed s) e) ≡ Some r = ap record_in f.appends in
        absurd (cc (none, some))

both_none : (c : Bool) → cond {A = Option Record} c None None ≡ None
both_none true = refl
both_none false = refl

pub quiet_turn : (s : State) (e : Event) → record_in (respond (supposed s) e) ≡ None → turn s (Asked e) ≡ asked s.standing (respond s e)
quiet_turn s e none =
    let c = is_down s.standing && takes_more s.open_records in
    ap (λ (o : Option Record). or_joins s o (asked s.standing (respond s e))) (ap (λ (o : Option Record). cond c o None) none ∙ both_none c)

pub turns_up : TurnsUp
turns_up s e up =
    ap
    (λ (p : Standing).
    or_joins s (cond (is_down p && takes_more s.open_records) (record_in (respond (supposed s) e)) None) (asked p (respond s e))) up

none_by : (p : Standing) (c : Bool) (o : Option Record) → c ≡ false → cond (is_down p && c) o None ≡ None
none_by Up c o e = refl
none_by Down true o e = absurd (cc e)
none_by Down false o e = refl
none_by Ended c o e = refl

pub turns_alone : TurnsAlone
turns_alone s e alone =
    ap (λ (o : Option Record). or_joins s o (asked s.standing (respond s e)))
    (none_by s.standing (takes_more s.open_records) (record_in (respond (supposed s) e)) alone)

-- a manager that is down refuses each call that would append

early_down : (c : Context) (request : Request) → c.up ≡ false → passes_down (call_of request) ≡ false → early_refusal c request ≡ Some (plain XAER_RMFAIL)
early_down c request e f = rw (e, f) refl

down_call : (s t : State) (n : ℕ) (request : Request) (r : Record) (c : Bool) → passes_down (call_of request) ≡ c → s.standing ≡ Down
    → record_in (respond t (event.Call n request)) ≡ Some r → respond s (event.Call n request) ≡ Now (answer (plain XAER_RMFAIL) s)
down_call s t n request r false passes down some =
    ap (λ (o : Option Reply). unless_now o s (row s n request)) (early_down (context_of s n) request (ap is_up down) passes)
down_call s t n request r true passes down some =
    let none : record_in (respond t (event.Call n request)) ≡ None = passing_none t n request passes in absurd (cc (none, some))

pub down_refuses : (s t : State) (e : Event) (r : Record) → s.standing ≡ Down → record_in (respond t e) ≡ Some r
    → respond s e ≡ Now (answer (plain XAER_RMFAIL) s)
down_refuses s t event.Connect r down some = absurd (cc some)
down_refuses s t (event.Hangup n) r down some = absurd (cc some)
down_refuses s t (event.Call n request) r down some = down_call s t n request r (passes_down (call_of request)) refl down some

-- the laws of groups

pub joins_each : JoinsEach
joins_each s e r after down more appends =
    let some : record_in (respond (supposed s) e) ≡ Some r = ap record_in appends in
    let refuses = down_refuses s (supposed s) e r down some in
    let turns : turn s (Asked e) ≡ or_joins s (record_in (respond (supposed s) e)) (respond s e)
    = ap
    (λ (p : Standing).
    or_joins s (cond (is_down p && takes_more s.open_records) (record_in (respond (supposed s) e)) None) (asked p (respond s e))) down
    ∙ ap (λ (c : Bool). or_joins s (cond c (record_in (respond (supposed s) e)) None) (respond s e)) more in
    turns
    ∙ ap (λ (o : Option Record). or_joins s o (respond s e)) some
    ∙ ap (λ (t : Turn). or_joins s (Some r) t) refuses

never_joins : (o : Option Reply) (s : State) (t : Turn) (refused lost : Answer) (r : Record) → (t ≡ Joins refused r lost → ⊥)
    → unless_now o s t ≡ Joins refused r lost → ⊥
never_joins None s t refused lost r never e = never e
never_joins (Some reply) s t refused lost r never e = cc e

boot_never : (s : State) (n : ℕ) (request : Request) (refused lost : Answer) (r : Record) → asks_boot request ≡ true
    → respond s (event.Call n request) ≡ Joins refused r lost → ⊥
boot_never s n Restart refused lost r is e =
    never_joins (early_refusal (context_of s n) Restart) s (restart_turn s) refused lost r (λ f. cc f) e
boot_never s n Trim refused lost r is e =
    never_joins (early_refusal (context_of s n) Trim) s (trim_turn s) refused lost r
    (λ f. never_joins (trim_refusal s) s (Checkpoints (logged.Opened (s.logged_boot + 1)) (trim_became s (s.logged_boot + 1))) refused lost r (λ g. cc g) f) e
boot_never s n request refused lost r is e = absurd (cc is)

respond_never : (s : State) (e : Event) (c : Bool) (refused lost : Answer) (r : Record) → begins_boot e ≡ c → IsSound s
    → respond s e ≡ Joins refused r lost → ⊥
respond_never s e false refused lost r other h f =
    let logs : LogsWhatLasts s (Joins refused r lost) = subst (LogsWhatLasts s) f (events_log_what_lasts s e h other) in logs
respond_never s event.Connect true refused lost r is h f = cc is
respond_never s (event.Hangup n) true refused lost r is h f = cc is
respond_never s (event.Call n request) true refused lost r is h f = boot_never s n request refused lost r is f

asked_never : (p : Standing) (t : Turn) (refused lost : Answer) (r : Record) → (t ≡ Joins refused r lost → ⊥) → asked p t ≡ Joins refused r lost → ⊥
asked_never Up t refused lost r never e = never e
asked_never Down t refused lost r never e = never e
asked_never Ended t refused lost r never e = cc e

-- a turn that joins is of a further record
joins_of : (s : State) (e : Event) (refused lost : Answer) (r : Record) (o : Option Record) (t : Turn) → (t ≡ Joins refused r lost → ⊥)
    → or_joins s o t ≡ Joins refused r lost → (o ≡ Some r) × (t ≡ Now refused) × (lost ≡ lost_too s r)
joins_of s e refused lost r None t never f = absurd (never f)
joins_of s e refused lost r (Some q) Nobody never f = absurd (never f)
joins_of s e refused lost r (Some q) (Now a) never f =
    let same : q ≡ r = cc f in
    let first : a ≡ refused = cc f in
    let last : lost_too s q ≡ lost = cc f in
    (ap Some same, ap Now first, sym last ∙ ap (lost_too s) same)
joins_of s e refused lost r (Some q) (Appends p after) never f = absurd (never f)
joins_of s e refused lost r (Some q) (Checkpoints p after) never f = absurd (never f)
joins_of s e refused lost r (Some q) (Rereads failed found) never f = absurd (never f)
joins_of s e refused lost r (Some q) (Joins refusing p last) never f = absurd (never f)

pub joins_last : JoinsLast
joins_last s e refused lost r is h joins =
    let never = asked_never s.standing (respond s e) refused lost r (respond_never s e (begins_boot e) refused lost r refl h.sound) in
    let (some, now, last) = joins_of s e refused lost r (further_record s e) (asked s.standing (respond s e)) never joins in
    let f = further_is s e r some in
    let m = further_may s e r is h f in
    let down : asked s.standing (respond s e) ≡ respond s e = ap (λ (p : Standing). asked p (respond s e)) f.down in
    let refuses = down_refuses s (supposed s) e r f.down (ap record_in f.appends) in
    let same : Now refused ≡ Now (answer (plain XAER_RMFAIL) s) = sym now ∙ down ∙ refuses in
    record {
      standing = f.down;
      takes_more = f.more;
      refuses = cc same;
      loses = last;
      recovers = m.recovers;
      after = f.after;
      appends = f.appends;
      last = m.last;
      of_group = m.of_group;
    }
