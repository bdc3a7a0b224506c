-- Laws on what a read gives of a log's two files, and on what a crash leaves of them.
use Rattle.std.specs.Prelude.{◌≡◌, ℕ, Ok, List, [], Contains, map, if◌then◌else◌}
use Rattle.xa_disk.specs.declared.disk.Disk.{Ghosts}
use Rattle.xa_record.specs.Spelling.{spelled}
use Rattle.xa_record.specs.declared.record.Record.{Record}
use Rattle.xa_log.specs.Believed.LogStates.{IsWithoutChance}
use Rattle.xa_log.specs.Believed.Pair.{logged_pair}
use Rattle.xa_log.specs.Believed.TwoFiles.{first_of, second_of}
use Rattle.xa_log.specs.Believed.LogView.{LogView}
use Rattle.xa_model.specs.State.{State}
use Rattle.xa_model.specs.Durable.{Durable, durable}
use Rattle.xa_model.specs.Fold.{fold}
use Rattle.xa_model.specs.Invariants.Loggable.{IsRecoverable}
use Rattle.xa_model.specs.Restarting.{fates}
use Rattle.xa_manager.specs.declared.manager.Manager.{Manager}
use Rattle.xa_manager.specs.Believed.LogStands.{Trusts, LogStandsFor}
use Rattle.xa_manager.specs.Managed.{ManagerStandsFor}
use Rattle.xa_manager.specs.Believed.Files.{FilesStandFor}
use Rattle.xa_manager.specs.Believed.Parts.{log_of}

-- A log that stands for a state, and images of its first and of its second file. Nothing of them is left to chance by
-- the state that the log itself is in: after the current file's records chain those that were lost, or none; in front
-- of the other file stands the first record of the log that stood there, or of the one whose checkpoint was lost, or
-- none that chains.
pub record StandsWithoutChance {D : Type 0} (disks : Ghosts D) (log : LogView D) (s : State)
    (first second : List ℕ) : Type 0 where
  pub stands : LogStandsFor disks log s
  pub plain : IsWithoutChance stands.state log.format
      (if log.on_first then first else second) (if log.on_first then second else first)

-- ---- laws

-- what a read gives of the two files is a log of the state's records
abbrev pub ReadLeaves : {D : Type 0} → Ghosts D → Type 0
ReadLeaves {D} disks =
    (log : LogView D) (s : State) → Trusts disks → IsRecoverable s → LogStandsFor disks log s
    → FilesStandFor log.log_bytes (disks.seen (first_of log)) (disks.seen (second_of log)) s

-- and so is what a crash leaves of them, if nothing is left to chance
abbrev pub CrashLeaves : {D : Type 0} → Ghosts D → Type 0
CrashLeaves {D} disks =
    (log : LogView D) (s : State) (first second : List ℕ) → IsRecoverable s
    → disks.may_leave (first_of log) first → disks.may_leave (second_of log) second
    → StandsWithoutChance disks log s first second → FilesStandFor log.log_bytes first second s

-- the records of such files come to what lasts of the state
abbrev pub FilesLast : Type 0
FilesLast =
    (most : ℕ) (first second : List ℕ) (s : State) → FilesStandFor most first second s → s.open_records ≡ []
    → (rs : List Record) × (logged_pair first second ≡ map spelled rs) × (fold rs ≡ Ok (durable s))

-- or to one of what may last of it, if records' fates are unknown
abbrev pub FilesLastAsFated : Type 0
FilesLastAsFated =
    (most : ℕ) (first second : List ℕ) (s : State) → FilesStandFor most first second s
    → (rs : List Record) × (d : Durable) × (logged_pair first second ≡ map spelled rs) × (fold rs ≡ Ok d)
    × Contains (fates s) d

-- of a manager: what a read gives is a log of the records of each state that it stands for, from which a restart may
-- begin
abbrev pub ReadStands : {D : Type 0} → Ghosts D → Type 0
ReadStands {D} disks =
    (m : Manager D) (s : State) → Trusts disks → ManagerStandsFor disks m s
    → FilesStandFor (log_of m).log_bytes (disks.seen (first_of (log_of m))) (disks.seen (second_of (log_of m))) s
    × IsRecoverable s
