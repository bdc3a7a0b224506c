-- What opening a manager comes to.
use Rattle.std.specs.Prelude.{◌≡◌, ◌≢◌, ◌⊎◌, ◌≤◌, ◌<◌, ◌+◌, ℕ, Bool, true, false, List, [], length, Ok, Err, Some, None}
use Rattle.xa_disk.specs.declared.disk.Disk.{Ghosts}
use Rattle.xa_record.specs.declared.record.Record.{Record}
use Rattle.xa_log.specs.Believed.Chain.{logged}
use Rattle.xa_log.specs.Believed.Pair.{pair_fault, logged_pair}
use Rattle.xa_log.specs.Believed.TwoFiles.{HasOther, Pair, IsOpenPair}
use Rattle.xa_log.specs.Believed.Unfit.{missing_of}
use Rattle.xa_log.specs.declared.fault.OpenFault.{OpenFault}
use Rattle.xa_log.specs.declared.fault.OpenFault.TheVariants as log
use Rattle.xa_log.specs.declared.format.TheConstants.{PREAMBLE_BYTES}
use Rattle.xa_log.specs.declared.unfit.Unfit.{Unfit}
use Rattle.xa_log.specs.declared.unfit.Unfit.TheVariants as unfit
use Rattle.xa_log.specs.Believed.LogView.{LogView}
use Rattle.xa_limits.specs.declared.TheConstants.{FIRST_OFFSET, LEAST_LOG, MOST_BOOTS, MOST_INFO, MOST_LOG}
use Rattle.xa_model.specs.declared.outcome.Outcome.TheVariants.{Quiet}
use Rattle.xa_model.specs.State.{State}
use Rattle.xa_model.specs.Durable.{Durable}
use Rattle.xa_model.specs.Fold.{fold, snapshot, sizes}
use Rattle.xa_model.specs.Logging.{log_room}
use Rattle.xa_model.specs.Invariants.Restored.{IsRestored}
use Rattle.xa_recovery.specs.Log.{AreBodiesOf, LogRebuilt}
use Rattle.xa_recovery.specs.declared.log_fault.LogFault.TheVariants as rebuilt
use Rattle.xa_manager.specs.declared.fault.ManagerFault.{ManagerFault}
use Rattle.xa_manager.specs.declared.fault.ManagerFault.TheVariants as fault
use Rattle.xa_manager.specs.declared.manager.Manager.{Manager}
use Rattle.xa_manager.specs.declared.tables.Tables.{Tables}
use Rattle.xa_manager.specs.Managed.{ManagerStandsFor}

-- settings outside their limits
abbrev pub IsBadSetting : List ℕ → ℕ → Type 0
IsBadSetting name log_bytes = (MOST_INFO < length name) ⊎ (log_bytes < LEAST_LOG) ⊎ (MOST_LOG < log_bytes)

-- the current file has these bodies, the other one comes after it, and neither is missing
abbrev pub HasBodies : {D : Type 0} → Ghosts D → List (List ℕ) → LogView D → Type 0
HasBodies disks bodies log = (stood : List (List ℕ)) × Pair disks bodies stood log × HasOther disks log

-- The log that two files gave, with its bodies. One that was made has none, and the other file is empty. One that was
-- opened has those that were read; what stands in the other file goes with the first checkpoint, so nothing is asked of
-- it.
abbrev pub IsFound : {D : Type 0} → Ghosts D → Bool → List (List ℕ) → LogView D → Type 0
IsFound disks true bodies log = HasBodies disks bodies log
IsFound disks false bodies log = IsOpenPair disks bodies (logged (disks.seen log.other)) log

-- why two files gave no log
abbrev pub LogRefused : OpenFault → ℕ → List ℕ → List ℕ → Type 0
LogRefused log.Device most first second = Unit {0}
LogRefused log.Memory most first second = Unit {0}
LogRefused e most first second =
    (most < PREAMBLE_BYTES) ⊎ (((first ≢ []) ⊎ (second ≢ [])) × (pair_fault most first second ≡ Some e))

-- two files have a log, and this one of them is missing
abbrev pub IsMissing : Unfit → ℕ → List ℕ → List ℕ → Type 0
IsMissing which most first second = (pair_fault most first second ≡ None) × (missing_of first second ≡ which)

-- the fault says which
abbrev pub Misses : ManagerFault → List ℕ → List ℕ → Type 0
Misses fault.MissingFirst first second = missing_of first second ≡ unfit.MissingFirst
Misses fault.MissingSecond first second = missing_of first second ≡ unfit.MissingSecond
Misses _ first second = ⊥

-- the bodies are records that come to this
pub record ComeTo (bodies : List (List ℕ)) (d : Durable) : Type 0 where
  pub records : List Record
  pub bodies_are : AreBodiesOf records bodies
  pub folded : fold records ≡ Ok d

-- whether a log of this many bytes has room for the boot of this number, with what lasts
abbrev pub has_boot_room : ℕ → Durable → ℕ → Bool
has_boot_room log_bytes d boot =
    log_room log_bytes (FIRST_OFFSET + sizes (snapshot d boot)) (length d.prepared) (length d.decided)

-- A boot began with what these bodies come to. The manager stands for every state that a restart or an opening leads to
-- from there, with these settings and without sessions: committed branches of it may have reads, and writes that later
-- ones overwrote.
pub record HasBegun {D : Type 0} (disks : Ghosts D) (bodies : List (List ℕ)) (name : List ℕ)
    (log_bytes : ℕ) (m : Manager D) : Type 0 where
  pub durable : Durable
  pub comes : ComeTo bodies durable
  pub boots : durable.boot < MOST_BOOTS
  pub limit : log_bytes ≤ MOST_LOG
  pub room : has_boot_room log_bytes durable (durable.boot + 1) ≡ true
  pub stands : (s : State) → IsRestored durable (durable.boot + 1) s → s.name ≡ name → s.log_bytes ≡ log_bytes
      → s.sessions ≡ [] → s.moment ≡ 0
      → ManagerStandsFor disks m s

-- the manager of these tables and this log, as a boot begins
abbrev pub begun_manager : {D : Type 0} → Tables → LogView D → Manager D
begun_manager tables log = record { tables = tables; log = log; up = true; doubt = None; outcome = Quiet }

-- A boot began with the bodies of two files: if the disks are honest, with those that a read gives.
pub record HasBegunOn {D : Type 0} (disks : Ghosts D) (first second : List ℕ) (name : List ℕ) (log_bytes : ℕ)
    (m : Manager D) : Type 0 where
  pub bodies : List (List ℕ)
  pub begun : HasBegun disks bodies name log_bytes m
  pub read : disks.honest → logged_pair first second ≡ bodies

-- why no boot began with these bodies
abbrev pub BootRefused : ManagerFault → List (List ℕ) → ℕ → Type 0
BootRefused (fault.Malformed i) bodies log_bytes = LogRebuilt bodies (Err (rebuilt.Malformed i))
BootRefused (fault.Order i) bodies log_bytes = LogRebuilt bodies (Err (rebuilt.Order i))
BootRefused fault.Boots bodies log_bytes = (d : Durable) × ComeTo bodies d × (MOST_BOOTS ≤ d.boot)
BootRefused fault.LogFull bodies log_bytes =
    (d : Durable) × ComeTo bodies d × (d.boot < MOST_BOOTS) × (has_boot_room log_bytes d (d.boot + 1) ≡ false)
BootRefused fault.Memory bodies log_bytes = Unit {0}
BootRefused fault.Device bodies log_bytes = Unit {0}
BootRefused _ bodies log_bytes = ⊥

-- Why two files gave no manager. The faults are looked for in their order: what is said of the records is said of files
-- that are a log, or are empty.
abbrev pub OpenRefused : ManagerFault → List ℕ → ℕ → List ℕ → List ℕ → Type 0
OpenRefused fault.Setting name log_bytes first second = IsBadSetting name log_bytes
OpenRefused (fault.Log e) name log_bytes first second = LogRefused e log_bytes first second
OpenRefused fault.MissingFirst name log_bytes first second = IsMissing unfit.MissingFirst log_bytes first second
OpenRefused fault.MissingSecond name log_bytes first second = IsMissing unfit.MissingSecond log_bytes first second
OpenRefused e name log_bytes first second =
    (((first ≡ []) × (second ≡ [])) ⊎ (pair_fault log_bytes first second ≡ None))
    × BootRefused e (logged_pair first second) log_bytes
