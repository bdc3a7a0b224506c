-- What a row that logs comes to before its append, and what the tables make of the device's answer.
use Rattle.std.specs.Prelude.{ℕ, ◌≡◌, ◌+◌, ◌≤◌, true, false, Option, List, length}
use Rattle.xa_disk.specs.declared.disk.Disk.{Ghosts}
use Rattle.mv_chain.specs.declared.fate.Fate.{Fate}
use Rattle.xa_limits.specs.declared.TheConstants.{AROUND_CLOSED, MOST_SMALL}
use Rattle.xa_xid.specs.Triple.{Triple}
use Rattle.xa_frame.specs.declared.reply.Reply.{Reply}
use Rattle.xa_record.specs.Spelling.{spelled}
use Rattle.xa_log.specs.Buffer.{Holds}
use Rattle.xa_log.specs.Believed.Chain.{IsBody}
use Rattle.xa_model.specs.declared.outcome.Appending.{Appending}
use Rattle.xa_model.specs.State.{State}
use Rattle.xa_model.specs.Answer.{answer}
use Rattle.xa_model.specs.Turn.{Now as AtOnce}
use Rattle.xa_model.specs.Logging.{logs}
use Rattle.xa_model.specs.Invariants.Loggable.{IsRecoverable}
use Rattle.xa_model.specs.Invariants.MayLog.{MayLog}
use Rattle.xa_assoc.specs.Refusals.{is_memory, IsBare}
use Rattle.xa_manager.specs.declared.manager.Manager.{Manager}
use Rattle.xa_manager.specs.declared.plan.Body.{Body}
use Rattle.xa_manager.specs.declared.plan.Body.TheVariants.{Small, Long}
use Rattle.xa_manager.specs.declared.plan.Logging.{Logging}
use Rattle.xa_manager.specs.declared.plan.Plan.{Plan}
use Rattle.xa_manager.specs.declared.plan.Plan.TheVariants.{Now, Logs}
use Rattle.xa_manager.specs.declared.row.Row.{Row}
use Rattle.xa_manager.specs.declared.row.Row.TheVariants.{Writes}
use Rattle.xa_manager.specs.declared.row.Writing.TheVariants.{Prepare}
use Rattle.xa_manager.specs.declared.tables.Tables.{Tables}
use Rattle.xa_manager.specs.Acts.{settled, MaySettle}
use Rattle.xa_manager.specs.Managed.{ManagerStandsFor}
use Rattle.xa_manager.specs.Reserving.{HasReserved}
use Rattle.xa_manager.specs.Rows.{row_turn, record_of, refused_code, left_by, became, takes_memory}
use Rattle.xa_manager.specs.Stands.{StandsFor, StandsWithRoom, TablesStandFor}
use Rattle.xa_manager.specs.Turns.{up_after}
use Rattle.xa_manager.specs.View.{View, view_of}

abbrev pub bytes_of : Body → List ℕ
bytes_of (Small body) = body.items
bytes_of (Long body) = body.items

-- In this state the row is answered at once, and nothing is logged.
pub record AnswersAtOnce (row : Row) (xid : Triple) (reply : Reply) (fate : Option Fate) (s : State) : Type 0 where
  pub turn_is : row_turn row xid s ≡ AtOnce (answer reply (settled fate xid s))
  pub may : MaySettle fate xid s

-- In this state the row appends its record, of this body, for which the log has the room.
pub record Appends (row : Row) (xid : Triple) (body : List ℕ) (s : State) : Type 0 where
  pub turn_is : row_turn row xid s ≡ logs s (record_of row xid s) (refused_code row) (left_by row xid s)
  pub may : MayLog s (record_of row xid s)
  pub body_is : spelled (record_of row xid s) ≡ body
  pub fits : s.end + AROUND_CLOSED + length body ≤ s.log_bytes

-- the tables stand for the state, with room for what a prepare keeps
abbrev pub StandsReady : Row → Triple → View → State → Type 0
StandsReady (Writes Prepare) xid m s = StandsWithRoom xid m s
StandsReady _ xid m s = StandsFor m s

abbrev pub MakesReady : Tables → Row → Triple → Tables → Type 0
MakesReady t row xid t' = (s : State) → StandsFor (view_of t) s → StandsReady row xid (view_of t') s

abbrev pub LeavesReady : Tables → Row → Triple → Tables → Type 0
LeavesReady t row xid t' = (s : State) → StandsReady row xid (view_of t) s → StandsFor (view_of t') s

-- once the device has answered, they stand for what becomes of the append
abbrev pub TakesAnswer : Tables → Row → Triple → Appending → Tables → Type 0
TakesAnswer t row xid answer t' =
    (s : State) → StandsReady row xid (view_of t) s → MayLog s (record_of row xid s)
    → IsRecoverable (became row xid s answer).after
    → TablesStandFor (up_after answer) (view_of t') (became row xid s answer).after

-- Whichever state the manager stands for, the record has to be appended.
pub record CanLog {D : Type 0} (disks : Ghosts D) (m : Manager D) (l : Logging) : Type 0 where
  pub size : IsBody m.log.format (bytes_of l.body)
  pub small : takes_memory l.row ≡ false → length (bytes_of l.body) ≤ MOST_SMALL
  pub appends : (s : State) → ManagerStandsFor disks m s → m.up ≡ true → Appends l.row l.xid (bytes_of l.body) s

-- the memory for it is taken
pub record IsReady {D : Type 0} (disks : Ghosts D) (m : Manager D) (l : Logging) (m' : Manager D) : Type 0 where
  pub holds : Holds m'.log (length (bytes_of l.body))
  pub log : HasReserved disks m.log m'.log
  pub up : m'.up ≡ m.up
  pub tables : MakesReady m.tables l.row l.xid m'.tables

-- Whichever state the manager stands for, the row is answered at once, with this reply, and its branch is settled so.
pub record IsAtOnce {D : Type 0} (disks : Ghosts D) (m : Manager D) (row : Row) (xid : Triple) (reply : Reply)
    (fate : Option Fate) : Type 0 where
  pub answers : (s : State) → ManagerStandsFor disks m s → m.up ≡ true → AnswersAtOnce row xid reply fate s
  pub served : is_memory reply.detail ≡ false
  pub bare : IsBare reply

-- what the row comes to
abbrev pub IsPlan : {D : Type 0} → Ghosts D → Manager D → Row → Triple → Plan → Type 0
IsPlan disks m row xid (Now reply fate) = IsAtOnce disks m row xid reply fate
IsPlan disks m row xid (Logs l) = (l.row ≡ row) × (l.xid ≡ xid) × CanLog disks m l
