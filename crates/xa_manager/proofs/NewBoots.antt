-- A manager whose boot began stands for the states that a restart or an opening leads to.
use Rattle.std.proofs.Common.{◌≡◌, ◌+◌, ◌<◌, ◌≤◌, ℕ, Bool, true, false, List, [], ◌∷◌, map, length, None, Ok, ap, sym, ◌∙◌, subst}
use Rattle.std.specs.List.{AllByRecursion}
use Rattle.xa_disk.specs.declared.disk.Disk.{Ghosts}
use Rattle.xa_record.specs.Limits.{IsRecord}
use Rattle.xa_record.specs.Spelling.{spelled}
use Rattle.xa_record.specs.declared.record.Record.{Record}
use Rattle.xa_model.specs.State.{State, Branch, timestamp_of, is_working}
use Rattle.xa_model.specs.Durable.{Durable, IsDurable, durable}
use Rattle.xa_model.specs.Fold.{snapshot, sizes, reading, unread, is_used}
use Rattle.xa_model.specs.Logging.{log_room, prepared_count}
use Rattle.xa_model.specs.Invariants.Backing.{Backs}
use Rattle.xa_model.specs.Invariants.Restored.{IsRestored}
use Rattle.xa_model.proofs.Snapshots.{snapshot_folds}
use Rattle.xa_model.proofs.Booted.{snapshot_given}
use Rattle.xa_model.proofs.Rooms.{prepared_lasting, decided_lasting}
use Rattle.xa_assoc.specs.Sessions.{SessionsStandFor}
use Rattle.xa_branch.specs.Branches.{BranchesStandFor}
use Rattle.mv_rules.specs.Records.{StandsFor as RecordsStandFor}
use Rattle.mv_rules.specs.Ties.{history_of}
use Rattle.xa_log.specs.Believed.Chain.{newest}
use Rattle.xa_log.specs.Believed.Pair.{generation}
use Rattle.xa_log.specs.Believed.Stands.{EndsBehind}
use Rattle.xa_manager.specs.declared.manager.Manager.{Manager}
use Rattle.xa_manager.specs.Managed.{view, ManagerStandsFor}
use Rattle.xa_manager.specs.Believed.Opening.{HasBodies, has_boot_room}
use Rattle.xa_manager.specs.Stands.{TablesStandFor}
use Rattle.xa_manager.proofs.LogsBehind.{stands_whole}
use Rattle.xa_manager.proofs.LogLengths.{text_size}

idle_unused : (ts : List ℕ) (bs : List Branch) → AllByRecursion (λ b. is_working b.phase ≡ false) bs
    → AllByRecursion (λ b. is_working b.phase ≡ true → is_used b.timestamp ts ≡ false) bs
idle_unused ts [] h = tt
idle_unused ts (b ∷ bs) h = (λ works. absurd (cc (works, h.0)), idle_unused ts bs h.1)

-- the snapshot of what lasted stands after them
same_snapshot : (d : Durable) (next : ℕ) (s : State) → IsRestored d next s → snapshot (durable s) next ≡ snapshot d next
same_snapshot d next s it = ap (λ (x : Durable). snapshot x next) it.lasts

pub restored_backed : (d : Durable) (next : ℕ) (s : State) → IsDurable d → d.boot < next → AllByRecursion IsRecord (snapshot d next) → IsRestored d next s → Backs (snapshot d next) s
restored_backed d next s form less limits it = record {
  records = limits;
  lasts = snapshot_folds d next form less ∙ ap (λ (x : Durable). Ok x) (sym it.lasts);
  end = it.end ∙ ap (λ (rs : List Record). 8 + sizes rs) (same_snapshot d next s it);
  new = λ same. record {
    given = subst (λ (k : ℕ). AllByRecursion (λ t. t ≤ timestamp_of k s.given) (reading unread (snapshot d next)).timestamps) (sym it.boot)
        (subst (λ (k : ℕ). AllByRecursion (λ t. t ≤ timestamp_of next k) (reading unread (snapshot d next)).timestamps) (sym it.given) (snapshot_given d next form less));
    unused = idle_unused _ s.branches it.idle;
  };
}

-- where its log ends, and the room that it keeps
restored_end : (d : Durable) (next : ℕ) (s : State) → IsRestored d next s → s.end ≡ 8 + sizes (snapshot d next)
restored_end d next s it = it.end ∙ ap (λ (rs : List Record). 8 + sizes rs) (same_snapshot d next s it)

restored_room : (d : Durable) (next log_bytes : ℕ) (s : State) → IsRestored d next s → s.log_bytes ≡ log_bytes → has_boot_room log_bytes d next ≡ true
    → log_room s.log_bytes s.end (prepared_count s) (length s.decided) ≡ true
restored_room d next log_bytes s it bytes room =
    let p : prepared_count s ≡ length d.prepared = sym (prepared_lasting s) ∙ ap (λ (x : Durable). length x.prepared) it.lasts in
    let c : length s.decided ≡ length d.decided = sym (decided_lasting s) ∙ ap (λ (x : Durable). length x.decided) it.lasts in
    rw (bytes, restored_end d next s it, p, c) room

pub new_stands : {D : Type 0} (disks : Ghosts D) (m : Manager D) (d : Durable) (next : ℕ) (name : List ℕ) (log_bytes : ℕ)
    → m.up ≡ true → m.doubt ≡ None → (view m).name ≡ name → (view m).log_bytes ≡ log_bytes → m.log.log_bytes ≡ log_bytes
    → ((s : State) → s.sessions ≡ [] → s.associations ≡ [] → SessionsStandFor (view m).sessions s)
    → ((s : State) → IsRestored d next s → s.moment ≡ 0 → BranchesStandFor (view m).branches s)
    → ((s : State) → IsRestored d next s → s.moment ≡ 0 → RecordsStandFor (history_of s) (view m).records)
    → EndsBehind (map spelled (snapshot d next)) m.log → m.log.format ≡ newest → m.log.generation ≡ generation (map spelled (snapshot d next)) → (disks.honest → HasBodies disks (map spelled (snapshot d next)) m.log)
    → AllByRecursion IsRecord (snapshot d next) → IsDurable d → d.boot < next → has_boot_room log_bytes d next ≡ true
    → (s : State) → IsRestored d next s → s.name ≡ name → s.log_bytes ≡ log_bytes → s.sessions ≡ [] → s.moment ≡ 0 → ManagerStandsFor disks m s
new_stands disks m d next name log_bytes up doubt named sized bytes sessions branches records ends modern number has limits form less room s it name_is bytes_is none now = record {
  tables = subst (λ (b : Bool). TablesStandFor b (view m) s) (sym up) (record {
    name = named ∙ sym name_is;
    log_bytes = sized ∙ sym bytes_is;
    up = it.standing;
    sessions = sessions s none it.associations;
    branches = branches s it now;
    records = records s it now;
    recoverable = it.recoverable;
  });
  roomy = λ alive. record { room = restored_room d next log_bytes s it bytes_is room; found = rw it.open_records tt };
  end = λ is_up. ends.end ∙ text_size m.log.format (snapshot d next) ∙ sym (restored_end d next s it);
  alive = λ is_up. ends.alive;
  modern = λ is_up. modern;
  log_bytes = bytes ∙ sym bytes_is;
  doubt = rw doubt it.open_records;
  backed = λ is_up. record { records = snapshot d next; backs = restored_backed d next s form less limits it; number = number };
  log = λ trusts. stands_whole disks m.log s (snapshot d next) (restored_backed d next s form less limits it) (has trusts.disk);
}
