-- What states of the sequential resource manager a log of two files backs.
use Rattle.std.specs.Prelude.{◌≡◌, ◌≤◌, ℕ, true, false, List, length, map}
use Rattle.std.specs.List.{AllByRecursion}
use Rattle.xa_disk.specs.declared.disk.Disk.{Ghosts}
use Rattle.xa_record.specs.Spelling.{spelled}
use Rattle.xa_record.specs.declared.record.Record.{Record}
use Rattle.xa_log.specs.Believed.Group.{NoChance}
use Rattle.xa_log.specs.Believed.Pair.{CalmTears, generation}
use Rattle.xa_log.specs.Believed.Checkpoint.{SealTears}
use Rattle.xa_log.specs.Believed.LogStates.{LogState, Whole, LostAppend, LostCheckpoint, IsIn, MayFind}
use Rattle.xa_log.specs.Believed.TwoFiles.{HasOther, Pair}
use Rattle.xa_log.specs.Believed.LogView.{LogView}
use Rattle.xa_model.specs.State.{State}
use Rattle.xa_model.specs.Durable.{durable}
use Rattle.xa_model.specs.Fold.{snapshot}
use Rattle.xa_model.specs.Invariants.Backing.{Backs, settled_first}
use Rattle.xa_model.specs.Invariants.Loggable.{is_boot}

-- The premises on a type of disks: it does what the trait says, and what a failed write leaves to a read is without
-- chance. Those in memory meet them.
pub record Trusts {D : Type 0} (disks : Ghosts D) : Type 0 where
  pub disk : disks.honest
  pub appends : (group : List (List ℕ)) → NoChance disks.tears group
  pub headers : CalmTears disks.tears
  pub seals : SealTears disks.tears

-- the current file has these records, the other one comes after it, and neither is missing
abbrev pub HasRecords : {D : Type 0} → Ghosts D → List Record → LogView D → Type 0
HasRecords disks rs log = (stood : List (List ℕ)) × Pair disks (map spelled rs) stood log × HasOther disks log

-- the bodies of a snapshot of what lasts of the state, that begins the boot of this number
abbrev pub snapshot_bodies : State → ℕ → List (List ℕ)
snapshot_bodies s boot = map spelled (snapshot (durable s) boot)

-- Whatever its files hold: these records back the state, and the log's generation is theirs.
pub record LogBacks {D : Type 0} (log : LogView D) (s : State) : Type 0 where
  pub records : List Record
  pub backs : Backs records s
  pub number : log.generation ≡ generation (map spelled records)

-- these are the bodies of the records after which a first part of those that were lost stands: none of them, or
-- some, or all
abbrev pub IsSettled : List Record → State → List (List ℕ) → Type 0
IsSettled rs s found =
    (k : ℕ) × (k ≤ length s.open_records) × (found ≡ map spelled (settled_first k s.open_records rs s))

-- what was lost were these records: a boot's by a checkpoint of its snapshot, any others by an append
abbrev pub AreLostAs : LogState → List Record → Type 0
AreLostAs (Whole bodies stood) lost = Unit {0}
AreLostAs (LostAppend bodies group stood) lost = AllByRecursion (λ r. is_boot r ≡ false) lost
AreLostAs (LostCheckpoint bodies fresh) lost = AllByRecursion (λ r. is_boot r ≡ true) lost

-- The log is in a state in which a look may find no others, whatever was lost. A restart that ran out of memory may have
-- read the files, and so have settled the fates of the records that were lost.
pub record LogStandsFor {D : Type 0} (disks : Ghosts D) (log : LogView D) (s : State) : Type 0 where
  pub records : List Record
  pub backs : Backs records s
  pub state : LogState
  pub is_in : IsIn disks state log
  pub finds : (found : List (List ℕ)) → MayFind state found → IsSettled records s found
  pub lost_as : AreLostAs state s.open_records
  pub beside : HasOther disks log
