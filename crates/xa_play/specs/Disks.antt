-- What is known of a manager whose log stands on two disks in memory.
use Rattle.std.specs.Prelude.{ℕ, ◌≡◌, Some, List, IsSomeAnd, Result}
use Rattle.std.specs.declared.alloc.AllocError.{AllocError}
use Rattle.xa_disk.specs.contracts.memory.MemDiskDisk.TheImpl.{ghosts as mem_disks}
use Rattle.xa_disk.specs.declared.memory.MemDisk.{MemDisk}
use Rattle.xa_frame.specs.declared.reply.Reply.{Reply}
use Rattle.xa_disk.specs.declared.plan.Effect.{Effect}
use Rattle.xa_disk.specs.declared.plan.Effect.TheVariants as planned
use Rattle.xa_log.specs.Planned.{CrashesBoth, Plans, PlansStop}
use Rattle.xa_log.specs.Believed.TwoFiles.{first_of, second_of}
use Rattle.xa_log.specs.Believed.LogView.{LogView}
use Rattle.xa_model.specs.declared.event.Event.{Event}
use Rattle.xa_model.specs.declared.outcome.Outcome.TheVariants.{Reread}
use Rattle.xa_model.specs.declared.outcome.Appending.TheVariants.{Kept}
use Rattle.xa_model.specs.Invariants.Loggable.{IsRecoverable}
use Rattle.xa_model.specs.State.{State}
use Rattle.xa_model.specs.Step.{step}
use Rattle.xa_model.specs.Turn.{Reopened}
use Rattle.xa_manager.specs.Believed.Answered.{FullyAnswered, StaysFor}
use Rattle.xa_manager.specs.Believed.Files.{FilesStandFor}
use Rattle.xa_manager.specs.Believed.LogStands.{Trusts, LogStandsFor}
use Rattle.xa_manager.specs.Managed.{ManagerStandsFor}
use Rattle.xa_manager.specs.declared.manager.Manager.{Manager}
use Rattle.xa_manager.specs.Believed.Parts.{log_of, outcome_of}
use Rattle.xa_script.specs.declared.call_effect.CallEffect.{CallEffect}
use Rattle.xa_script.specs.declared.call_effect.CallEffect.TheVariants as script
use Rattle.xa_script.specs.declared.log_file.LogFile.{LogFile}
use Rattle.xa_script.specs.declared.log_file.LogFile.TheVariants.{Current, Other}

-- what a read gives of a disk
abbrev pub seen : MemDisk → List ℕ
seen disk = disk.bytes

-- the premises that a manager's contracts have on its disks
abbrev pub MemoryIsTrusted : Type 0
MemoryIsTrusted = Trusts mem_disks

abbrev pub StandsFor : Manager MemDisk → State → Type 0
StandsFor m s = ManagerStandsFor mem_disks m s

abbrev pub Answered : Manager MemDisk → Event → Reply → Manager MemDisk → Type 0
Answered m event reply m' = FullyAnswered mem_disks m event reply m'

abbrev pub Stays : Manager MemDisk → Manager MemDisk → Type 0
Stays m m' = StaysFor mem_disks m m'

-- what a script's line calls lost and kept
abbrev pub as_effect : CallEffect → Effect
as_effect script.Kept = planned.Kept
as_effect script.Lost = planned.Lost

-- neither what the manager stands for changes, nor the outcome that it tells
abbrev pub StaysAndTells : Manager MemDisk → Manager MemDisk → Type 0
StaysAndTells m m' = Stays m m' × (outcome_of m' ≡ outcome_of m)

-- It is planned, of the file that the line names, that this device call fails with this effect. Nothing else changes:
-- neither the other file's disk, nor what the manager stands for, nor the outcome that it tells.
abbrev pub Planned : Result (Unit {0}) AllocError → LogFile → ℕ → CallEffect → Manager MemDisk → Manager MemDisk
    → Type 0
Planned result Current call effect m m' =
    Plans result call (as_effect effect) (log_of m).disk (log_of m').disk
    × ((log_of m').other ≡ (log_of m).other) × StaysAndTells m m'
Planned result Other call effect m m' =
    Plans result call (as_effect effect) (log_of m).other (log_of m').other
    × ((log_of m').disk ≡ (log_of m).disk) × StaysAndTells m m'

-- It is planned, of the file that the line names, that from this device call on its disk stops, and nothing else changes.
abbrev pub Stopped : LogFile → ℕ → Manager MemDisk → Manager MemDisk → Type 0
Stopped Current call m m' =
    PlansStop call (log_of m).disk (log_of m').disk
    × ((log_of m').other ≡ (log_of m).other) × StaysAndTells m m'
Stopped Other call m m' =
    PlansStop call (log_of m).other (log_of m').other
    × ((log_of m').disk ≡ (log_of m).disk) × StaysAndTells m m'

-- what a read gives of the two files
abbrev pub first_seen : Manager MemDisk → List ℕ
first_seen m = seen (first_of (log_of m))

abbrev pub second_seen : Manager MemDisk → List ℕ
second_seen m = seen (second_of (log_of m))

-- the files of a manager's log stand for whichever state it stands for
abbrev pub FilesStand : Type 0
FilesStand =
    (m : Manager MemDisk) (s : State) → StandsFor m s
    → FilesStandFor s.log_bytes (first_seen m) (second_seen m) s × IsRecoverable s

-- a manager that was opened on two files stands for what opening leads to, from whichever state they stand for
abbrev pub OpenedOn : List ℕ → ℕ → List ℕ → List ℕ → Manager MemDisk → Type 0
OpenedOn name log_bytes first second m =
    (t : State) → IsRecoverable t → FilesStandFor log_bytes first second t
    → (survived : ℕ)
    × IsSomeAnd (step t (Reopened name log_bytes) (Reread survived (Some Kept))) (λ a. StandsFor m a.after)

-- The two disks after a crash. Of the file that the line names, this many bytes stay of those that were written since its
-- last sync; of the other one none.
abbrev pub CrashesTo : LogFile → ℕ → LogView MemDisk → MemDisk × MemDisk → Type 0
CrashesTo Current keeps log disks = CrashesBoth keeps 0 log disks
CrashesTo Other keeps log disks = CrashesBoth 0 keeps log disks

-- these are the disks that such a crash leaves of a log that stands after the state
pub record CrashLeaves (s : State) (file : LogFile) (keeps : ℕ) (disks : MemDisk × MemDisk) : Type 0 where
  pub log : LogView MemDisk
  pub stands : LogStandsFor mem_disks log s
  pub left : CrashesTo file keeps log disks
