-- A manager that may have a group pending: what it is as a manager.
use Rattle.std.specs.Prelude.{ℕ, ◌≡◌, ◌-◌, ◌==◌, if◌then◌else◌, List, Option, None, Some, Result, Ok, Err}
use Rattle.xa_disk.specs.Counts.{top}
use Rattle.xa_disk.specs.declared.disk.Disk as disk
use Rattle.xa_disk.specs.declared.disk.DiskFault.{DiskFault}
use Rattle.xa_log.specs.Believed.LogView.{LogView}
use Rattle.xa_manager.specs.Believed.Answered.{HasCalled, HasCalledFor}
use Rattle.xa_manager.specs.Connected.{connected_to}
use Rattle.xa_manager.specs.Believed.Counted.{counted_by}
use Rattle.xa_manager.specs.Believed.Crash.{CrashesAs, LeavesAppend}
use Rattle.xa_manager.specs.Believed.LogStands.{Trusts}
use Rattle.xa_manager.specs.Managed.{ManagerStandsFor}
use Rattle.xa_manager.specs.Believed.Parts.{log_of, outcome_of}
use Rattle.xa_manager.specs.Believed.Pending.{IsPending, IsPendingFrom, LeavesPending, calls_of, write_of}
use Rattle.xa_manager.specs.Status.{versions_of}
use Rattle.xa_manager.specs.declared.manager.Manager.{Manager}
use Rattle.xa_manager.specs.declared.pending.PendingGroup.{PendingGroup}
use Rattle.xa_manager.specs.declared.together.Asked.{Asked}
use Rattle.xa_model.specs.Events.{is_trim}
use Rattle.xa_model.specs.History.{Leads}
use Rattle.xa_model.specs.State.{State}
use Rattle.xa_model.specs.declared.event.Event.{Event}
use Rattle.xa_model.specs.declared.outcome.Outcome.{Outcome}
use Rattle.xa_model.specs.declared.outcome.Outcome.TheVariants.{Quiet}
use Rattle.xa_history.specs.Believed.Together.{CrashesTogether, lost_entries}
use Rattle.xa_history.specs.Believed.Manages.{Behaviour}

-- a manager with the group that it may have pending
pub record GroupManager (M : Type 0) : Type 0 where
  pub manager : M
  pub pending : Option PendingGroup

abbrev pub with_group : {M : Type 0} → M → Option PendingGroup → GroupManager M
with_group m pending = record { manager = m; pending = pending }

-- with none pending
abbrev pub alone : {M : Type 0} → M → GroupManager M
alone m = record { manager = m; pending = None }

-- with this one
abbrev pub beside : {M : Type 0} → M → PendingGroup → GroupManager M
beside m f = record { manager = m; pending = Some f }

-- the calls of the pending group
abbrev pub calls_in : Option PendingGroup → Option (List Asked)
calls_in None = None
calls_in (Some f) = Some (calls_of f).items

abbrev pub pending_of : {M : Type 0} → GroupManager M → Option (List Asked)
pending_of g = calls_in g.pending

-- a pending group is one of this manager, by what says that of a group
abbrev pub IsItsGroup : {M : Type 0} → (M → PendingGroup → Type 0) → M → Option PendingGroup → Type 0
IsItsGroup is_group m None = Unit {0}
IsItsGroup is_group m (Some f) = is_group m f

abbrev pub HasItsGroup : {M : Type 0} → (M → PendingGroup → Type 0) → GroupManager M → Type 0
HasItsGroup is_group g = IsItsGroup is_group g.manager g.pending

-- ---- of a manager over a log

-- the states that it stands for: with a group pending, those before the group
abbrev pub StandsWith : {D : Type 0} → disk.Ghosts D → Manager D → Option PendingGroup → State → Type 0
StandsWith disks m None s = ManagerStandsFor disks m s
StandsWith disks m (Some f) s = IsPending disks m f s

-- No device is called while a group is pending.
abbrev pub told_with : {D : Type 0} → Manager D → Option PendingGroup → Outcome
told_with m None = outcome_of m
told_with m (Some f) = Quiet

-- What the device did, by whether a group was pending before and is afterwards: for one that is gone, from the log on
-- to which it was written.
abbrev pub HasCalledWith : {D : Type 0} → disk.Ghosts D → Event → Outcome → Manager D → Option PendingGroup → Manager D
    → Option PendingGroup → Type 0
HasCalledWith disks event outcome m None m' p = HasCalledFor disks (is_trim event) outcome (log_of m) (log_of m')
HasCalledWith disks event outcome m (Some f) m' (Some f') = log_of m' ≡ log_of m
HasCalledWith {D} disks event outcome m (Some f) m' None =
    (log : LogView D) (s : State) → IsPendingFrom disks log m f s → HasCalled disks outcome log (log_of m')

-- what a crash at any moment of an event leaves
abbrev pub CrashesWith : {D : Type 0} → disk.Ghosts D → Event → Outcome → Manager D → Option PendingGroup → Manager D
    → Type 0
CrashesWith disks event outcome m None m' = CrashesAs disks m event outcome m'
CrashesWith {D} disks event outcome m (Some f) m' =
    (log : LogView D) (s : State) → IsPendingFrom disks log m f s → LeavesPending disks log m' f s

-- what one leaves at any moment of calls that are answered together: for a pending group, since its records were written
abbrev pub CrashesTogetherWith : {D : Type 0} → disk.Ghosts D → List Event → Manager D → Option PendingGroup → Manager D
    → Type 0
CrashesTogetherWith disks events m None m' = CrashesTogether disks events m m'
CrashesTogetherWith {D} disks events m (Some f) m' =
    (log : LogView D) (s : State) → IsPendingFrom disks log m f s → Trusts disks
    → (lost : State) × Leads s (lost_entries events) lost × LeavesAppend disks log (log_of m') s lost

-- How many calls of a disk had failed before a write, by its answer and by how many have after it. At its top a count
-- says nothing.
abbrev pub before_write : Result (Unit {0}) DiskFault → ℕ → ℕ
before_write (Ok _) n = n
before_write (Err _) n = if n == top then top else n - 1

-- how many calls of a log's two disks had failed before a group was written to it
abbrev pub counted_before : {D : Type 0} → (D → ℕ) → PendingGroup → LogView D → ℕ × ℕ
counted_before failures f log =
    if log.on_first
    then (before_write (write_of f) (failures log.disk), failures log.other)
    else (failures log.other, before_write (write_of f) (failures log.disk))

-- how many calls of its two devices have failed; of a pending group's write none is counted yet
abbrev pub failures_with : {D : Type 0} → disk.Ghosts D → Manager D → Option PendingGroup → ℕ × ℕ
failures_with disks m None = counted_by disks.failures (log_of m)
failures_with disks m (Some f) = counted_before disks.failures f (log_of m)

-- all of it
abbrev pub manages_of : {D : Type 0} → disk.Ghosts D → Behaviour (GroupManager (Manager D))
manages_of disks = record {
  stands = λ g s. StandsWith disks g.manager g.pending s;
  trusts = Trusts disks;
  told = λ g. told_with g.manager g.pending;
  has_called = λ event outcome old new. HasCalledWith disks event outcome old.manager old.pending new.manager new.pending;
  crashes = λ event outcome old new. CrashesWith disks event outcome old.manager old.pending new.manager;
  crashes_together = λ events old new. CrashesTogetherWith disks events old.manager old.pending new.manager;
  failures = λ g. failures_with disks g.manager g.pending;
  has_session = λ g n. (connected_to g.manager).has n;
  sessions = λ g. (connected_to g.manager).count;
  versions = λ g. versions_of g.manager;
}
