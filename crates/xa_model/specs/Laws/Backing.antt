-- Laws on the log that backs a state, and on the states that restarts and openings lead to.
use Rattle.std.specs.Prelude.{ℕ, ◌≡◌, ◌+◌, ◌<◌, ◌≤◌, true, false, Ok, Some, List, [], ◌++◌, length, take}
use Rattle.std.specs.List.{AllByRecursion}
use Rattle.xa_record.specs.Limits.{IsRecord}
use Rattle.xa_record.specs.declared.record.Record.{Record}
use Rattle.xa_model.specs.declared.outcome.Outcome.{Outcome}
use Rattle.xa_model.specs.State.{State, Up}
use Rattle.xa_model.specs.Answer.{Answer}
use Rattle.xa_model.specs.Invariants.Sound.{most_known}
use Rattle.xa_limits.specs.declared.TheConstants.{MOST_BOOTS}
use Rattle.xa_model.specs.Durable.{Durable, durable}
use Rattle.xa_model.specs.Fold.{fold, fits, reading, unread, snapshot}
use Rattle.xa_model.specs.Turn.{Happening}
use Rattle.xa_model.specs.Step.{turn, step}
use Rattle.xa_model.specs.History.{Entry, Leads, fresh}
use Rattle.xa_model.specs.Events.{IsHappening, HaveHappened}
use Rattle.xa_model.specs.Invariants.Loggable.{IsRecoverable, MayBeLast}
use Rattle.xa_model.specs.Invariants.Backing.{Backs, BacksTurn, settled_first}
use Rattle.xa_model.specs.Logging.{is_boot}
use Rattle.xa_model.specs.Restarting.{survived, restarted, reopened, opening}
use Rattle.xa_model.specs.Invariants.Restored.{IsRestored}

-- every step keeps a state recoverable
abbrev pub KeepsRecoverable : Type 0
KeepsRecoverable =
    (s : State) (happening : Happening) (outcome : Outcome) (a : Answer) → IsHappening happening → IsRecoverable s
    → step s happening outcome ≡ Some a → IsRecoverable a.after

-- so every history goes through recoverable states
abbrev pub AlwaysRecoverable : Type 0
AlwaysRecoverable =
    (first last : State) (entries : List Entry) → HaveHappened entries → IsRecoverable first → Leads first entries last
    → IsRecoverable last

-- what a state may log fits after the log's records
abbrev pub LoggedInOrder : Type 0
LoggedInOrder =
    (rs : List Record) (s : State) (r : Record) → IsRecoverable s → Backs rs s → MayBeLast s r
    → fits r (reading unread rs) ≡ true

-- the log's records keep up with the state, whatever is asked and whatever the device answers
abbrev pub KeepsBacked : Type 0
KeepsBacked =
    (rs : List Record) (s : State) (happening : Happening) → IsHappening happening → IsRecoverable s → Backs rs s
    → BacksTurn rs s (turn s happening)

-- they keep up with what a look finds of the records whose fates are unknown
abbrev pub BacksFound : Type 0
BacksFound =
    (rs : List Record) (s : State) (k : ℕ) (t : State) → IsRecoverable s → Backs rs s → survived s k ≡ Some t
    → Backs (settled_first k s.open_records rs s) t

-- of a group the first k stand after them
abbrev pub SettlesGroup : Type 0
SettlesGroup =
    (k : ℕ) (lost rs : List Record) (s : State) → AllByRecursion (λ r. is_boot r ≡ false) lost
    → settled_first k lost rs s ≡ rs ++ take k lost

-- a restart and an opening, from a state whose records' fates are settled, lead to what lasted of it
abbrev pub RestartsRestored : Type 0
RestartsRestored =
    (s : State) → IsRecoverable s → s.open_records ≡ [] → s.logged_boot < MOST_BOOTS
    → IsRestored (durable s) (s.logged_boot + 1) (restarted s (s.logged_boot + 1))

abbrev pub ReopensRestored : Type 0
ReopensRestored =
    (s : State) (name : List ℕ) (log_bytes : ℕ) → IsRecoverable s → s.open_records ≡ [] → s.logged_boot < MOST_BOOTS
    → IsRestored (durable s) (s.logged_boot + 1) (reopened s name log_bytes (s.logged_boot + 1))

-- so does an opening on records of which nothing else is known, if they make no more XIDs known than a log has bytes
abbrev pub OpensRestored : Type 0
OpensRestored =
    (rs : List Record) (d : Durable) (name : List ℕ) (log_bytes : ℕ) → AllByRecursion IsRecord rs → fold rs ≡ Ok d
    → d.boot < MOST_BOOTS
    → length d.prepared + length d.decided ≤ most_known
    → IsRestored d (d.boot + 1) (opening d name log_bytes (d.boot + 1))
    × Backs (snapshot d (d.boot + 1)) (opening d name log_bytes (d.boot + 1))

-- Up, with these settings, in its first boot, whose record ends at byte 49, at moment 0; and nothing was asked of it.
pub record IsNew (named : List ℕ) (most : ℕ) (s : State) : Type 0 where
  pub name : s.name ≡ named
  pub log_bytes : s.log_bytes ≡ most
  pub boot : s.boot ≡ 1
  pub given : s.given ≡ 0
  pub logged_boot : s.logged_boot ≡ 1
  pub sessions : s.sessions ≡ []
  pub associations : s.associations ≡ []
  pub branches : s.branches ≡ []
  pub decided : s.decided ≡ []
  pub reads : s.reads ≡ []
  pub standing : s.standing ≡ Up
  pub end : s.end ≡ 49
  pub open_records : s.open_records ≡ []
  pub moment : s.moment ≡ 0

-- a manager that was opened on a log of no records is new
abbrev pub OpensFresh : Type 0
OpensFresh = (name : List ℕ) (log_bytes : ℕ) → IsNew name log_bytes (fresh name log_bytes)
