-- What reading the log again finds, and what the new boot begins with.
use Rattle.std.specs.Prelude.{◌≡◌, ◌+◌, ◌<◌, ◌≤◌, ℕ, false, List, map, length, Option, Some, None, Result, Ok, Err}
use Rattle.std.specs.List.{AllByRecursion}
use Rattle.xa_disk.specs.declared.disk.Disk.{Ghosts}
use Rattle.xa_record.specs.Limits.{IsRecord}
use Rattle.xa_record.specs.Spelling.{spelled}
use Rattle.xa_record.specs.declared.record.Record.{Record}
use Rattle.xa_log.specs.Buffer.{HoldsEach}
use Rattle.xa_log.specs.Believed.Chain.{newest}
use Rattle.xa_log.specs.Believed.LogView.{LogView}
use Rattle.xa_model.specs.State.{State}
use Rattle.xa_model.specs.Durable.{Durable}
use Rattle.xa_model.specs.Fold.{snapshot}
use Rattle.xa_model.specs.Invariants.Backing.{Backs, settled_first}
use Rattle.xa_model.specs.Restarting.{survived}
use Rattle.xa_limits.specs.declared.TheConstants.{MOST_BOOTS, MOST_VALUE}
use Rattle.xa_model.specs.Invariants.Restored.{IsRestored}
use Rattle.mv_rules.specs.Records.{StandsFor as RecordsStandFor}
use Rattle.mv_rules.specs.Ties.{history_of}
use Rattle.mv_rules.specs.Within.{IsWithin, HasKeys}
use Rattle.xa_branch.specs.Branches.{BranchesStandFor}
use Rattle.xa_recovery.specs.Log.{LogRebuilt}
use Rattle.xa_recovery.specs.declared.log_fault.LogFault.{LogFault}
use Rattle.xa_manager.specs.declared.boots.NextBoot.{NextBoot}
use Rattle.xa_manager.specs.declared.boots.Planned.{Planned}
use Rattle.xa_manager.specs.declared.doubt.Doubt.{Doubt}
use Rattle.xa_manager.specs.declared.doubt.Doubt.TheVariants.{Boot, Record as LastRecord}
use Rattle.xa_manager.specs.Believed.LogStands.{HasRecords}

-- what a state is once its last records' fates are known: the first k survived
abbrev pub IsFate : ℕ → State → State → Type 0
IsFate k s t = survived s k ≡ Some t

-- The log was read again: it has these bodies, and its records back the state whose last records' fates are
-- known. They are those that backed the state before, and the first `many` of those that were lost.
pub record Found {D : Type 0} (disks : Ghosts D) (bodies : List (List ℕ)) (log : LogView D) (s : State) : Type 0 where
  pub state : State
  pub many : ℕ
  pub fate : IsFate many s state
  pub earlier : List Record
  pub stood : Backs earlier s
  pub records : List Record
  pub settled : records ≡ settled_first many s.open_records earlier s
  pub spelled_as : bodies ≡ map spelled records
  pub backs : Backs records state
  pub has : HasRecords disks records log
  pub end : log.end ≡ state.end
  pub alive : log.lost ≡ false

-- This many records were counted after where the log ended: as many as survived, if those that were lost are there.
abbrev pub IsCounted : Option Doubt → ℕ → ℕ → Type 0
IsCounted None counted many = Unit {0}
IsCounted (Some (Boot boot)) counted many = Unit {0}
IsCounted (Some (LastRecord end)) counted many = counted ≡ many

-- The log that was read again goes on where it ended before, with its generation, in a file of the newest format.
pub record GoesOn {D : Type 0} (old new : LogView D) : Type 0 where
  pub end : new.end ≡ old.end
  pub number : new.generation ≡ old.generation
  pub modern : new.format ≡ newest

-- the boot of this number, for what lasted, at this moment
pub record IsReady (d : Durable) (boot moment : ℕ) (next : NextBoot) : Type 0 where
  pub branches : (s : State) → IsRestored d boot s → s.moment ≡ moment → BranchesStandFor next.branches s
  pub records : (s : State) → IsRestored d boot s → s.moment ≡ moment → RecordsStandFor (history_of s) next.records
  pub bodies : next.bodies.items ≡ map spelled (snapshot d boot)

-- the boot after those that were logged, unless their numbers are used up
abbrev pub IsNext : Durable → ℕ → Option NextBoot → Type 0
IsNext d moment None = MOST_BOOTS ≤ d.boot
IsNext d moment (Some next) =
    (next.boot ≡ d.boot + 1) × (d.boot < MOST_BOOTS) × IsReady d (d.boot + 1) moment next
    × AllByRecursion IsRecord (snapshot d (d.boot + 1)) × IsWithin MOST_VALUE next.records × HasKeys next.records

-- what is known of what a log came to without its values
pub record HasCounts (p : Planned) : Type 0 where
  pub boot : p.boot ≡ p.durable.value.boot
  pub prepared : p.prepared ≡ length p.durable.value.prepared
  pub completed : p.completed ≡ length p.durable.value.decided

-- what the bodies of a log come to, and what the next boot begins with
abbrev pub Plans : ℕ → List (List ℕ) → Result Planned LogFault → Type 0
Plans moment bodies (Ok p) =
    LogRebuilt bodies (Ok p.durable.value) × IsNext p.durable.value moment p.next × HasCounts p
Plans moment bodies (Err e) = LogRebuilt bodies (Err e)

-- the log's buffer has room for the records that the next boot begins with
abbrev pub HoldsNext : {D : Type 0} → LogView D → Option NextBoot → Type 0
HoldsNext log None = Unit {0}
HoldsNext log (Some next) = HoldsEach log next.bodies.items
