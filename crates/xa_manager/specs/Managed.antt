-- What states of the sequential resource manager a manager stands for.
use Rattle.std.specs.Prelude.{◌≡◌, ◌≤◌, true, false, Option, Some, None, IsSomeAnd, [], ◌∷◌, length}
use Rattle.std.specs.List.{AllByRecursion}
use Rattle.xa_disk.specs.declared.disk.Disk.{Ghosts}
use Rattle.xa_log.specs.Believed.Chain.{newest}
use Rattle.xa_record.specs.declared.record.Record.TheVariants as logged
use Rattle.xa_frame.specs.declared.reply.Reply.{Reply}
use Rattle.xa_model.specs.Answer.{Answer}
use Rattle.xa_model.specs.State.{State}
use Rattle.xa_model.specs.Invariants.Loggable.{is_boot}
use Rattle.xa_model.specs.Invariants.Room.{IsRoomy}
use Rattle.xa_manager.specs.declared.doubt.Doubt.{Doubt}
use Rattle.xa_manager.specs.declared.doubt.Doubt.TheVariants.{Boot, Record as LastRecord}
use Rattle.xa_manager.specs.declared.manager.Manager.{Manager}
use Rattle.xa_manager.specs.Believed.Parts.{doubt_of, is_up, log_of, tables_of}
use Rattle.xa_manager.specs.View.{View, view_of}
use Rattle.xa_manager.specs.Stands.{TablesStandFor}
use Rattle.xa_manager.specs.Believed.LogStands.{Trusts, LogBacks, LogStandsFor}

abbrev pub view : {D : Type 0} → Manager D → View
view m = view_of (tables_of m)

-- the records whose fates are unknown: a boot's, or some after the log's end, of which none is a boot's
abbrev pub Doubts : Option Doubt → State → Type 0
Doubts None s = s.open_records ≡ []
Doubts (Some (Boot boot)) s = s.open_records ≡ logged.Opened boot ∷ []
Doubts (Some (LastRecord end)) s =
    (1 ≤ length s.open_records) × AllByRecursion (λ r. is_boot r ≡ false) s.open_records × (end ≡ s.end)

-- What the log's files hold is said under the premises on the type of disks; all else is without them.
pub record ManagerStandsFor {D : Type 0} (disks : Ghosts D) (m : Manager D) (s : State) : Type 0 where
  pub tables : TablesStandFor (is_up m) (view m) s
  pub roomy : IsRoomy s
  pub end : is_up m ≡ true → (log_of m).end ≡ s.end
  pub alive : is_up m ≡ true → (log_of m).lost ≡ false
  -- what it appends goes to a file of the newest format
  pub modern : is_up m ≡ true → (log_of m).format ≡ newest
  pub log_bytes : (log_of m).log_bytes ≡ s.log_bytes
  pub doubt : Doubts (doubt_of m) s
  pub backed : is_up m ≡ true → LogBacks (log_of m) s
  pub log : Trusts disks → LogStandsFor disks (log_of m) s

-- The answer of a turn is this reply, and the manager stands for the state that it leaves.
abbrev pub AnswersAs : {D : Type 0} → Ghosts D → Option Answer → Reply → Manager D → Type 0
AnswersAs disks answer reply m = IsSomeAnd answer (λ a. (a.reply ≡ reply) × ManagerStandsFor disks m a.after)
