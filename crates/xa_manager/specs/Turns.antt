-- How a manager takes one turn of the sequential resource manager.
use Rattle.std.specs.Prelude.{◌⊎◌, ℕ, ◌+◌, ◌≤◌, ℤ, pos, ◌≡◌, Bool, true, false, Option, Some, None, List, [], ◌∷◌}
use Rattle.xa_disk.specs.Time.{LeavesOnly}
use Rattle.xa_disk.specs.declared.disk.Disk.{Ghosts}
use Rattle.xa_codes.specs.declared.codes.TheConstants.{XAER_RMFAIL}
use Rattle.xa_codes.specs.declared.detail.Detail.TheVariants as detail
use Rattle.xa_frame.specs.declared.reply.Reply.{Reply}
use Rattle.xa_frame.specs.declared.request.Request.{Request}
use Rattle.xa_record.specs.Spelling.{spelled}
use Rattle.xa_record.specs.declared.record.Record.{Record}
use Rattle.xa_log.specs.Calls.{SettlesBy}
use Rattle.xa_log.specs.Ahead.{AppendsBy}
use Rattle.xa_log.specs.Believed.Damage.{AreAppended}
use Rattle.xa_log.specs.Believed.Group.{as_one, first_of_group}
use Rattle.xa_log.specs.Believed.Stands.{Stands, Leaves, Moves, Renumbers}
use Rattle.xa_log.specs.Believed.TwoFiles.{Pair, AppendsTo}
use Rattle.xa_log.specs.Written.{HasWritten, write_of}
use Rattle.xa_log.specs.Believed.LogView.{LogView}
use Rattle.xa_log.specs.declared.written.Written.{Written}
use Rattle.xa_limits.specs.declared.TheConstants.{AROUND_CLOSED}
use Rattle.xa_model.specs.declared.outcome.Outcome.{Outcome}
use Rattle.xa_model.specs.declared.outcome.Outcome.TheVariants.{Quiet, Appended}
use Rattle.xa_model.specs.declared.outcome.Appending.{Appending}
use Rattle.xa_model.specs.declared.outcome.Appending.TheVariants.{Kept, Refused, Lost}
use Rattle.xa_model.specs.State.{State}
use Rattle.xa_model.specs.Answer.{Answer, plain, detailed}
use Rattle.xa_model.specs.Restarting.{restart_turn}
use Rattle.xa_model.specs.Turn.{Turn, Asked, Nobody, Now, Appends, Checkpoints, Rereads, Joins, taken}
use Rattle.xa_model.specs.declared.event.Event.{Event}
use Rattle.xa_model.specs.Step.{step}
use Rattle.xa_model.specs.Events.{asks_restart, is_restart}
use Rattle.xa_model.specs.Trimming.{trim_turn}
use Rattle.xa_model.specs.Invariants.Loggable.{IsRecoverable}
use Rattle.xa_assoc.specs.Refusals.{is_memory}
use Rattle.xa_manager.specs.declared.doubt.Doubt.{Doubt}
use Rattle.xa_manager.specs.declared.doubt.Doubt.TheVariants as doubt
use Rattle.xa_manager.specs.declared.manager.Manager.{Manager}
use Rattle.xa_manager.specs.Believed.Answered.{as_appended, may_want, CallsAs}
use Rattle.xa_manager.specs.Believed.Answered.{HasCalled, HasCalledToTrim, NoneRises, StaysFor}
use Rattle.xa_manager.specs.Believed.Crash.{CrashesAs, LeavesBy, LeavesLook}
use Rattle.xa_manager.specs.Believed.LogStands.{Trusts}
use Rattle.xa_manager.specs.Managed.{view, ManagerStandsFor, AnswersAs}
use Rattle.xa_manager.specs.Stands.{TablesStandFor}

-- what an append of a group's bodies leaves of the log, by the device's answer
pub record HasAppended {D : Type 0} (disks : Ghosts D) (group : List (List ℕ)) (a : Appending)
    (log log' : LogView D) : Type 0 where
  pub log_bytes : log'.log_bytes ≡ log.log_bytes
  pub other : (log'.other ≡ log.other) × (log'.on_first ≡ log.on_first)
  pub moves : Moves (as_appended a) (as_one group) log log'
  pub numbers : Renumbers (as_appended a) (first_of_group group) log log'
  pub pair : disks.honest → (bodies stood : List (List ℕ)) → Pair disks bodies stood log → AreAppended bodies group
      → AppendsTo disks (as_appended a) bodies group stood log'
  pub calls : AppendsBy disks (as_one group) (as_appended a) log log'
  -- what a crash at any moment of it leaves of the file that is written
  pub leaves : disks.honest → (bodies : List (List ℕ)) → Stands disks bodies log
      → LeavesOnly disks log.disk log'.disk (Leaves log.log_bytes log.format bodies group)

-- whether the manager is up afterwards, and what it keeps of a record that was lost after the log's end
abbrev pub up_after : Appending → Bool
up_after Kept = true
up_after Refused = true
up_after Lost = false

abbrev pub doubt_after : Appending → ℕ → Option Doubt
doubt_after Kept end = None
doubt_after Refused end = None
doubt_after Lost end = Some (doubt.Record end)

-- A group's bodies were journaled: if the log is alive and has the room, this much was appended.
pub record HasJournaled {D : Type 0} (disks : Ghosts D) (group : List (List ℕ)) (a : Appending)
    (m m' : Manager D) : Type 0 where
  pub appended : m.log.lost ≡ false → m.log.end + AROUND_CLOSED + as_one group ≤ m.log.log_bytes
      → HasAppended disks group a m.log m'.log
  pub up : m.up ≡ true → m'.up ≡ up_after a
  pub doubt : m'.doubt ≡ doubt_after a m.log.end
  pub tables : m'.tables ≡ m.tables
  pub outcome : m'.outcome ≡ m.outcome

-- A group that was written was settled: this much was appended to the log that it was written to.
pub record HasSettled {D : Type 0} (disks : Ghosts D) (w : Written) (a : Appending) (m m' : Manager D) : Type 0 where
  pub appended : (log : LogView D) (group : List (List ℕ)) → HasWritten disks group w log m.log
      → HasAppended disks group a log m'.log
  pub fails : SettlesBy (write_of w) (as_appended a) (disks.failures m.log.disk) (disks.failures m'.log.disk)
  pub up : m.up ≡ true → m'.up ≡ up_after a
  pub doubt : m'.doubt ≡ doubt_after a m.log.end
  pub tables : m'.tables ≡ m.tables
  pub outcome : m'.outcome ≡ m.outcome

-- what is answered of an append: the code of one that was refused is the call's own
abbrev pub reply_to : ℤ → Appending → Reply
reply_to code Kept = plain (pos 0)
reply_to code Refused = detailed code detail.Device
reply_to code Lost = detailed XAER_RMFAIL detail.Device

-- answered at once: no device call was made
pub record TakesNow {D : Type 0} (m : Manager D) (a : Answer) (reply : Reply) (outcome : Outcome)
    (m' : Manager D) : Type 0 where
  pub reply_is : a.reply ≡ reply
  pub outcome_is : outcome ≡ Quiet
  pub log : m'.log ≡ m.log
  pub up : m'.up ≡ m.up
  pub doubt : m'.doubt ≡ m.doubt
  pub tables : IsRecoverable a.after → TablesStandFor m'.up (view m') a.after

-- a record was appended
pub record TakesAppending {D : Type 0} (disks : Ghosts D) (m : Manager D) (r : Record) (after : Appending → Answer)
    (reply : Reply) (outcome : Outcome) (m' : Manager D) : Type 0 where
  pub answer : Appending
  pub reply_is : (after answer).reply ≡ reply
  pub outcome_is : outcome ≡ Appended answer
  pub log : HasAppended disks (spelled r ∷ []) answer m.log m'.log
  pub up : m'.up ≡ up_after answer
  pub doubt : m'.doubt ≡ doubt_after answer m.log.end
  pub tables : IsRecoverable (after answer).after → TablesStandFor m'.up (view m') (after answer).after

abbrev pub Takes : {D : Type 0} → Ghosts D → Manager D → Turn → Reply → Outcome → Manager D → Type 0
Takes disks m Nobody reply outcome m' = ⊥
Takes disks m (Now a) reply outcome m' = TakesNow m a reply outcome m'
Takes disks m (Appends r after) reply outcome m' = TakesAppending disks m r after reply outcome m'
Takes disks m (Checkpoints r after) reply outcome m' = ⊥
Takes disks m (Rereads failed found) reply outcome m' = ⊥
Takes disks m (Joins refused r lost) reply outcome m' = ⊥

-- Whichever state the manager stood for, it takes this turn of it, of a request whose limits hold. Its own outcome is
-- set when the call ends.
pub record TakesTurn {D : Type 0} (disks : Ghosts D) (m : Manager D) (act : State → Turn) (reply : Reply)
    (outcome : Outcome) (m' : Manager D) : Type 0 where
  pub takes : (s : State) → ManagerStandsFor disks m s → m.up ≡ true → Takes disks m (act s) reply outcome m'
  pub served : is_memory reply.detail ≡ false

-- What a call has done for an event, also while the manager is down: the answer is the step's with this outcome, and
-- the manager stands for the step's new state. What a restart finds in its files is said under the premises on the type
-- of disks.
pub record HasDone {D : Type 0} (disks : Ghosts D) (m : Manager D) (event : Event) (reply : Reply)
    (outcome : Outcome) (m' : Manager D) : Type 0 where
  pub steps : (s : State) → ManagerStandsFor disks m s → Trusts disks ⊎ (is_restart event ≡ false)
      → AnswersAs disks (step s (Asked event) outcome) reply m'
  pub called : CallsAs disks m event outcome m'
  pub crash : CrashesAs disks m event outcome m'
  pub served : is_memory reply.detail ≡ false

-- What a restart has done, from whichever state the manager stood for: as HasDone of its turn.
pub record HasRestarted {D : Type 0} (disks : Ghosts D) (m : Manager D) (reply : Reply) (outcome : Outcome)
    (m' : Manager D) : Type 0 where
  pub turn : (s : State) → ManagerStandsFor disks m s → Trusts disks
      → AnswersAs disks (taken (restart_turn s) outcome) reply m'
  -- what a crash at any moment of it leaves
  pub leaves : (s : State) → ManagerStandsFor disks m s → Trusts disks
      → LeavesBy disks m.log (restart_turn s) outcome m'.log s
  pub called : HasCalled disks outcome m.log m'.log
  pub served : is_memory reply.detail ≡ false

-- What a trim has done, from whichever state the manager stood for, which was up: as HasDone of its turn.
pub record HasTrimmed {D : Type 0} (disks : Ghosts D) (m : Manager D) (reply : Reply) (outcome : Outcome)
    (m' : Manager D) : Type 0 where
  pub turn : (s : State) → ManagerStandsFor disks m s → AnswersAs disks (taken (trim_turn s) outcome) reply m'
  -- what a crash at any moment of it leaves
  pub leaves : (s : State) → ManagerStandsFor disks m s → Trusts disks
      → LeavesBy disks m.log (trim_turn s) outcome m'.log s
  pub called : (s : State) → ManagerStandsFor disks m s → HasCalledToTrim disks outcome m.log m'.log
  pub served : is_memory reply.detail ≡ false

-- What a request leaves that ran out of memory, as it may.
pub record HasWanted {D : Type 0} (disks : Ghosts D) (m : Manager D) (request : Request) (m' : Manager D) : Type 0 where
  pub may : may_want request ≡ true
  pub stays : StaysFor disks m m'
  -- no device call failed, and none was made but by a restart
  pub quiet : NoneRises disks.failures m.log m'.log
  pub untouched : asks_restart request ≡ false → m'.log ≡ m.log
  -- what a crash at any moment of it leaves
  pub leaves : asks_restart request ≡ true → (s : State) → ManagerStandsFor disks m s → Trusts disks
      → LeavesLook disks m.log m'.log s
