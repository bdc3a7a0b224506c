-- What is promised of a manager's runs: one copy, that what was answered as prepared stays listed, and that what was
-- completed isn't.
use Rattle.std.specs.Prelude.{ℕ, ◌≡◌, ◌⊎◌, ◌+◌, ◌<◌, ◌≤◌, true, Ok, List, [], ◌∷◌, ◌++◌, length}
use Rattle.std.specs.List.{AllByRecursion}
use Rattle.xa_disk.specs.declared.disk.Disk.{Ghosts}
use Rattle.xa_frame.specs.declared.reply.Reply.{Reply}
use Rattle.xa_record.specs.Limits.{IsRecord}
use Rattle.xa_record.specs.declared.record.Record.{Record}
use Rattle.xa_xid.specs.Triple.{Triple}
use Rattle.xa_model.specs.declared.event.Event.{Event}
use Rattle.xa_model.specs.declared.outcome.Outcome.{Outcome}
use Rattle.xa_model.specs.State.{State}
use Rattle.xa_model.specs.Invariants.Sound.{most_known}
use Rattle.xa_limits.specs.declared.TheConstants.{MOST_BOOTS}
use Rattle.xa_model.specs.Durable.{Durable}
use Rattle.xa_model.specs.Fold.{fold}
use Rattle.xa_model.specs.Restarting.{opening}
use Rattle.xa_model.specs.Events.{IsEvent, HaveHappened}
use Rattle.xa_model.specs.History.{Entry, Leads}
use Rattle.xa_model.specs.OneCopy.{HasOneCopy}
use Rattle.xa_model.specs.Laws.Restarts.{restart_entries}
use Rattle.xa_model.specs.ListedLaw.{HasPrepared, HasCompleted, AsksCompletion, CallsPrepare, IsListed}
use Rattle.xa_manager.specs.declared.manager.Manager.{Manager}
use Rattle.xa_manager.specs.Believed.LogStands.{Trusts}
use Rattle.xa_manager.specs.Managed.{ManagerStandsFor}
use Rattle.xa_manager.specs.Believed.Answered.{FullyAnswered, recorded, no_restart}
use Rattle.xa_manager.specs.Believed.Opening.{HasBegun}
use Rattle.xa_manager.specs.Believed.Parts.{outcome_of}

-- an opening state: what the records of a log come to, of which a new log has none, and a new boot
pub record IsOpening (first : State) : Type 0 where
  pub records : List Record
  pub durable : Durable
  pub limits : AllByRecursion IsRecord records
  pub folded : fold records ≡ Ok durable
  pub boots : durable.boot < MOST_BOOTS
  pub few : length durable.prepared + length durable.decided ≤ most_known
  pub opened : first ≡ opening durable first.name first.log_bytes (durable.boot + 1)

-- a legal history of an opening state leads to the state
pub record IsReached (first : State) (entries : List Entry) (s : State) : Type 0 where
  pub opens : IsOpening first
  pub happened : HaveHappened entries
  pub leads : Leads first entries s

-- recovery lists each branch that was answered as prepared, and whose completion wasn't asked for since then
abbrev pub ListsPrepared : List Entry → State → Type 0
ListsPrepared entries s =
    (before later : List Entry) (prepare : Entry) (xid : Triple) → entries ≡ before ++ prepare ∷ later
    → HasPrepared xid prepare → AllByRecursion (λ e. AsksCompletion xid e → ⊥) later → IsListed xid s

-- and none whose completion was answered XA_OK, if no prepare of it was called since then
abbrev pub ListsNoCompleted : List Entry → State → Type 0
ListsNoCompleted entries s =
    (before later : List Entry) (completion : Entry) (xid : Triple) → entries ≡ before ++ completion ∷ later
    → HasCompleted xid completion → AllByRecursion (λ e. CallsPrepare xid e → ⊥) later → IsListed xid s → ⊥

-- The history goes on with the events and their replies, with these outcomes, and the manager stands for the state that
-- it then leads to. That state's committed branches are one copy, and it lists what was prepared, in these replies or
-- before, and nothing that was completed.
pub record KeepsPromises {D : Type 0} (disks : Ghosts D) (before : List Entry) (s : State) (events : List Event)
    (replies : List Reply) (m' : Manager D) : Type 0 where
  pub outcomes : List Outcome
  pub after : State
  pub told : length outcomes ≡ length events
  pub leads : Leads s (recorded events outcomes replies) after
  pub stands : ManagerStandsFor disks m' after
  pub one_copy : HasOneCopy after
  pub listed : ListsPrepared (before ++ recorded events outcomes replies) after
  pub unlisted : ListsNoCompleted (before ++ recorded events outcomes replies) after

-- the same after every legal history whose last state the manager stood for
abbrev pub PromisesAll : {D : Type 0} → Ghosts D → Manager D → List Event → List Reply → Manager D → Type 0
PromisesAll disks m events replies m' =
    (first s : State) (before : List Entry) → IsReached first before s → ManagerStandsFor disks m s
    → Trusts disks ⊎ (no_restart events ≡ true) → KeepsPromises disks before s events replies m'

-- A restart that no session asked for: the history goes on with it (`restart_entries`), and the manager stands for the
-- state that it then leads to, of which the same is true.
pub record RestartKeeps {D : Type 0} (disks : Ghosts D) (first : State) (before : List Entry) (s : State)
    (outcome : Outcome) (reply : Reply) (m' : Manager D) : Type 0 where
  pub after : State
  pub reached : IsReached first (before ++ restart_entries s.sessions outcome reply) after
  pub stands : ManagerStandsFor disks m' after
  pub one_copy : HasOneCopy after
  pub listed : ListsPrepared (before ++ restart_entries s.sessions outcome reply) after
  pub unlisted : ListsNoCompleted (before ++ restart_entries s.sessions outcome reply) after

abbrev pub RestartPromises : {D : Type 0} → Ghosts D → Manager D → Reply → Manager D → Type 0
RestartPromises disks m reply m' =
    (first s : State) (before : List Entry) → IsReached first before s → ManagerStandsFor disks m s
    → Trusts disks → RestartKeeps disks first before s (outcome_of m') reply m'

-- ---- laws

-- at the end of every history of an opening state
abbrev pub ReachedPromises : Type 0
ReachedPromises =
    (first s : State) (entries : List Entry) → IsReached first entries s
    → HasOneCopy s × ListsPrepared entries s × ListsNoCompleted entries s

-- of one event, answered as every call is
abbrev pub OnePromises : {D : Type 0} → Ghosts D → Type 0
OnePromises {D} disks =
    (m m' : Manager D) (event : Event) (reply : Reply) → IsEvent event → FullyAnswered disks m event reply m'
    → PromisesAll disks m (event ∷ []) (reply ∷ []) m'

-- a manager that was opened stands for an opening state
abbrev pub BegunIsReached : {D : Type 0} → Ghosts D → Type 0
BegunIsReached {D} disks =
    (m : Manager D) (bodies : List (List ℕ)) (name : List ℕ) (log_bytes : ℕ) → HasBegun disks bodies name log_bytes m
    → (first : State) × IsReached first [] first × ManagerStandsFor disks m first
