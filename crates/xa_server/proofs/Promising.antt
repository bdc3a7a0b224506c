-- What is promised of a history that was served, from the opening state that its manager stood for.
use Rattle.std.specs.Prelude.{ℕ, ◌≡◌, ◌⊎◌, List, length}
use Rattle.xa_disk.specs.declared.disk.Disk as disk
use Rattle.xa_manager.specs.declared.manager.Manager.{Manager}
use Rattle.xa_manager.specs.Believed.LogStands.{Trusts}
use Rattle.xa_manager.specs.Believed.Opening.{HasBegun}
use Rattle.xa_manager.specs.Believed.Promises.{IsOpening, IsReached, ListsPrepared, ListsNoCompleted}
use Rattle.xa_manager.specs.Managed.{ManagerStandsFor}
use Rattle.xa_manager.proofs.Promised as promised
use Rattle.xa_model.specs.OneCopy.{HasOneCopy}
use Rattle.xa_model.specs.State.{State}
use Rattle.xa_history.specs.Believed.Book.{HasNoRestart, plain_entries}
use Rattle.xa_history.specs.declared.entry.Entry.{Entry}
use Rattle.xa_sequencer.specs.Believed.GroupManager.{alone, manages_of}
use Rattle.xa_server.specs.Believed.Audits.{AuditedPromises}
use Rattle.xa_server.specs.Believed.Loops.{LoopedPromises}
use Rattle.xa_server.specs.Believed.Moments.{MomentPromises}
use Rattle.xa_server.specs.Believed.Serves.{KeepsServed}

-- of entries that are promised from each opening state that the manager stood for
keeps : {D : Type 0} (disks : disk.Ghosts D) (manager : Manager D) (bodies : List (List ℕ)) (name : List ℕ) (log_bytes : ℕ)
    → HasBegun disks bodies name log_bytes manager → (calls : ℕ) (entries : List Entry) → calls ≡ length entries
    → ((s : State) → ManagerStandsFor disks manager s → IsOpening s → Trusts disks ⊎ HasNoRestart entries
    → (t : State) × IsReached s (plain_entries entries) t × HasOneCopy t
    × ListsPrepared (plain_entries entries) t × ListsNoCompleted (plain_entries entries) t)
    → KeepsServed (manages_of disks) (alone manager) calls
keeps disks manager bodies name log_bytes begun calls entries are promises =
    let opened = promised.begun_is_reached disks manager bodies name log_bytes begun in
    record {
      first = opened.0;
      opens = opened.1.opens;
      stood = opened.2;
      entries = entries;
      calls_are = are;
      promised = promises opened.0 opened.2 opened.1.opens;
    }

pub looped_promises : {D : Type 0} (disks : disk.Ghosts D) → LoopedPromises disks
looped_promises disks manager bodies name log_bytes begun base users loops told serves =
    keeps disks manager bodies name log_bytes begun told.calls serves.entries serves.calls_are
    (λ s stood opens trusted. let after = serves.promises s stood opens trusted in (after.0, after.1, after.3, after.4, after.5))

-- with an audit
pub audited_promises : {D : Type 0} (disks : disk.Ghosts D) → AuditedPromises disks
audited_promises disks manager bodies name log_bytes begun base users workers done audited =
    let serves = audited.serves in
    keeps disks manager bodies name log_bytes begun done.looped.calls serves.entries serves.calls_are
    (λ s stood opens trusted. let after = serves.promises s stood opens trusted in (after.0, after.1, after.3, after.4, after.5))

-- and at each moment
pub moment_promises : {D : Type 0} (disks : disk.Ghosts D) → MomentPromises disks
moment_promises disks manager bodies name log_bytes begun base c a holds =
    keeps disks manager bodies name log_bytes begun c.count holds.entries holds.stands.count_is
    (λ s stood opens trusted. let after = holds.promises s stood opens trusted in (after.0, after.1, after.3, after.4, after.5))
