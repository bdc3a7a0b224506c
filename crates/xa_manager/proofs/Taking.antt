-- How a manager takes a turn, by what it did.
use Rattle.std.proofs.Common.{◌≡◌, ◌≢◌, ℤ, Bool, true, false, refl, ap, sym, ◌∙◌, subst}
use Rattle.std.specs.Prelude.{Result, Ok, Err, OnErr}
use Rattle.xa_disk.specs.declared.disk.Disk.{Ghosts}
use Rattle.xa_frame.specs.declared.reply.Reply.{Reply}
use Rattle.xa_record.specs.declared.record.Record.{Record}
use Rattle.xa_log.specs.Believed.LogView.{LogView}
use Rattle.xa_model.specs.declared.outcome.Outcome.{Outcome}
use Rattle.xa_model.specs.declared.outcome.Outcome.TheVariants.{Quiet, Appended}
use Rattle.xa_model.specs.declared.outcome.Appending.{Appending}
use Rattle.xa_model.specs.declared.outcome.Appending.TheVariants.{Kept as WasKept, Refused, Lost}
use Rattle.xa_model.specs.State.{State}
use Rattle.xa_model.specs.Answer.{Answer}
use Rattle.xa_model.specs.Turn.{Turn, Now}
use Rattle.xa_model.specs.Logging.{append_became, applied, lost}
use Rattle.xa_model.specs.Invariants.Loggable.{IsRecoverable}
use Rattle.xa_assoc.specs.Refusals.{is_memory, IsBare}
use Rattle.xa_assoc.proofs.Follows.{unmoved}
use Rattle.xa_manager.specs.declared.done.Done.{Done}
use Rattle.xa_manager.specs.declared.manager.Manager.{Manager}
use Rattle.xa_manager.specs.Believed.Answered.{StaysFor}
use Rattle.xa_manager.specs.View.{View}
use Rattle.xa_manager.specs.Stands.{StandsFor, StandsDown, TablesStandFor, Follows, Stays}
use Rattle.xa_manager.specs.Managed.{view, ManagerStandsFor}
use Rattle.xa_manager.specs.Turns.{Takes, TakesTurn, up_after, reply_to}

-- what is answered at once of a state, and leaves these tables
pub record AnswersNow (s : State) (turn : Turn) (reply : Reply) (m' : View) : Type 0 where
  pub answer : Answer
  pub turn_is : turn ≡ Now answer
  pub reply_is : answer.reply ≡ reply
  pub tables : IsRecoverable answer.after → StandsFor m' answer.after

-- the reply of an append
pub reply_by : (s : State) (r : Record) (code : ℤ) (left : State) (a : Appending) → (append_became s r code left a).reply ≡ reply_to code a
reply_by s r code left WasKept = refl
reply_by s r code left Refused = refl
reply_by s r code left Lost = refl

-- where the record is lost the manager is down
pub lost_stands : (m m' : View) (s : State) (r : Record) → StandsFor m s → m'.name ≡ m.name → m'.log_bytes ≡ m.log_bytes → m'.sessions ≡ m.sessions → m'.branches.moment ≡ m.branches.moment
    → IsRecoverable (lost s r).after → StandsDown m' (lost s r).after
lost_stands m m' s r st name bytes sessions moment recoverable = record {
  name = name ∙ st.name;
  log_bytes = bytes ∙ st.log_bytes;
  down = refl;
  sessions = rw sessions (unmoved m.sessions s (lost s r).after refl refl st.sessions);
  moment = moment ∙ st.branches.moment;
  recoverable = recoverable;
}

pub down_after : (m' : View) (s : State) (r : Record) → StandsFor m' s → IsRecoverable (lost s r).after → StandsDown m' (lost s r).after
down_after m' s r st recoverable = lost_stands m' m' s r st refl refl refl refl recoverable

-- what an append is answered doesn't say that memory was wanted
pub served_by : (code : ℤ) (a : Appending) → is_memory (reply_to code a).detail ≡ false
served_by code WasKept = refl
served_by code Refused = refl
served_by code Lost = refl

pub refused_is : (a : Appending) → a ≡ Refused → a ≢ WasKept
refused_is a e f = cc (e, f)

pub lost_is : (a : Appending) → a ≡ Lost → a ≢ WasKept
lost_is a e f = cc (e, f)

-- by the three answers
pub by_answer : (m' : View) (s : State) (r : Record) (code : ℤ) (left : State) (a : Appending) → (a ≡ WasKept → IsRecoverable (applied r s) → StandsFor m' (applied r s))
    → (a ≡ Refused → IsRecoverable left → StandsFor m' left) → (a ≡ Lost → IsRecoverable (lost s r).after → StandsDown m' (lost s r).after)
    → IsRecoverable (append_became s r code left a).after → TablesStandFor (up_after a) m' (append_became s r code left a).after
by_answer m' s r code left WasKept kept_ refused lost_ recoverable = kept_ refl recoverable
by_answer m' s r code left Refused kept_ refused lost_ recoverable = refused refl recoverable
by_answer m' s r code left Lost kept_ refused lost_ recoverable = lost_ refl recoverable

-- what it is told has no body
pub appended_bare : (d : Done) (code : ℤ) (a : Appending) → d ≡ record { reply = reply_to code a; outcome = Appended a } → IsBare d.reply
appended_bare d code a e = subst (λ (x : Done). IsBare x.reply) (sym e) (by a)
  where
    by : (x : Appending) → IsBare (reply_to code x)
    by WasKept = (refl, refl)
    by Refused = (refl, refl)
    by Lost = (refl, refl)

-- what is said of an error
pub on_err : {T E : Type 0} (r : Result T E) (X : Type 0) → X → OnErr r X
on_err (Ok x) X h = tt
on_err (Err e) X h = h

module _ {D : Type 0} (disks : Ghosts D) where
  -- the tables of a manager that is up
  pub tables_up : (m : Manager D) (s : State) → m.up ≡ true → ManagerStandsFor disks m s → StandsFor (view m) s
  tables_up m s up st = subst (λ (b : Bool). TablesStandFor b (view m) s) up st.tables

  -- the same manager, but for tables that stand for what they stood for
  pub stays_up : (m m' : Manager D) → m.up ≡ true → m'.up ≡ m.up → m'.log ≡ m.log → m'.doubt ≡ m.doubt → Stays (view m) (view m') → StaysFor disks m m'
  stays_up m m' is_up up log doubt stays s st = record {
    tables = subst (λ (b : Bool). TablesStandFor b (view m') s) (sym (up ∙ is_up)) (stays s (tables_up m s is_up st));
    roomy = st.roomy;
    end = λ e. ap (λ (l : LogView D). l.end) log ∙ st.end is_up;
    alive = λ e. ap (λ (l : LogView D). l.lost) log ∙ st.alive is_up;
    modern = λ e. ap (λ (l : LogView D). l.format) log ∙ st.modern is_up;
    log_bytes = ap (λ (l : LogView D). l.log_bytes) log ∙ st.log_bytes;
    doubt = rw doubt st.doubt;
    backed = λ e. rw log (st.backed is_up);
    log = λ trusts. rw log (st.log trusts);
  }

  pub takes_now : (m m' : Manager D) (act : State → Turn) (reply : Reply) (outcome : Outcome) → is_memory reply.detail ≡ false → outcome ≡ Quiet → m'.log ≡ m.log → m'.up ≡ m.up → m'.doubt ≡ m.doubt
      → ((s : State) → ManagerStandsFor disks m s → m.up ≡ true → StandsFor (view m) s → AnswersNow s (act s) reply (view m')) → TakesTurn disks m act reply outcome m'
  takes_now m m' act reply outcome served quiet log up doubt h = record {
    takes = λ s st is_up.
        let x = h s st is_up (tables_up m s is_up st) in
        subst (λ (t : Turn). Takes disks m t reply outcome m') (sym x.turn_is)
        (record {
          reply_is = x.reply_is;
          outcome_is = quiet;
          log = log;
          up = up;
          doubt = doubt;
          tables = λ recoverable. subst (λ (b : Bool). TablesStandFor b (view m') x.answer.after) (sym (up ∙ is_up)) (x.tables recoverable);
        });
    served = served;
  }

  -- a row of the tables
  pub takes_row : (m m' : Manager D) (act : State → Answer) (reply : Reply) (outcome : Outcome) → outcome ≡ Quiet → m'.log ≡ m.log → m'.up ≡ m.up → m'.doubt ≡ m.doubt
      → Follows (view m) act reply (view m') → TakesTurn disks m (λ s. Now (act s)) reply outcome m'
  takes_row m m' act reply outcome quiet log up doubt f =
      takes_now m m' (λ s. Now (act s)) reply outcome f.served quiet log up doubt (λ s whole is_up st. record { answer = act s; turn_is = refl; reply_is = f.answers s st; tables = λ recoverable. f.stands s st recoverable })
