-- What a crash leaves while the first records of a boot are written.
use Rattle.std.proofs.Common.{◌≡◌, inl, inr, ⊎_elim, ◌+◌, ◌<◌, ℕ, true, List, [], ◌∷◌, Option, Some, map, refl, ap, sym, ◌∙◌, subst, ltb-true}
use Rattle.std.specs.Prelude.{nat_lt, IsSomeAnd}
use Rattle.xa_disk.specs.Time.{LeavesOnly}
use Rattle.xa_disk.specs.declared.disk.Disk.{Ghosts}
use Rattle.xa_record.specs.Spelling.{spelled}
use Rattle.xa_record.specs.declared.record.Record.{Record}
use Rattle.xa_record.specs.declared.record.Record.TheVariants as logged
use Rattle.xa_log.specs.Believed.Chain.{newest}
use Rattle.xa_log.specs.Believed.Checkpoint.{HasBytes, LeavesAny, NeverEmpty}
use Rattle.xa_log.specs.Believed.Pair.{generation}
use Rattle.xa_log.specs.Believed.TwoFiles.{HasOther, Swaps, written}
use Rattle.xa_log.specs.declared.appending.Appended.{Appended as Told}
use Rattle.xa_log.specs.Believed.LogView.{LogView}
use Rattle.xa_log.proofs.Parts.{leaves_more}
use Rattle.xa_limits.specs.declared.TheConstants.{MOST_BOOTS}
use Rattle.xa_model.specs.declared.outcome.Appending.{Appending}
use Rattle.xa_model.specs.declared.outcome.Appending.TheVariants.{Kept, Refused, Lost}
use Rattle.xa_model.specs.declared.outcome.Outcome.{Outcome}
use Rattle.xa_model.specs.declared.outcome.Outcome.TheVariants.{Quiet, Appended, Joined, Failed, Reread}
use Rattle.xa_model.specs.Answer.{Answer}
use Rattle.xa_model.specs.Invariants.Backing.{Backs}
use Rattle.xa_model.specs.Durable.{durable}
use Rattle.xa_model.specs.Fold.{snapshot}
use Rattle.xa_model.specs.Invariants.Loggable.{IsRecoverable}
use Rattle.xa_model.specs.Restarting.{boot_became, restart_turn}
use Rattle.xa_model.specs.State.{State}
use Rattle.xa_manager.specs.declared.manager.Manager.{Manager}
use Rattle.xa_manager.specs.Believed.Answered.{as_appended}
use Rattle.xa_manager.specs.Believed.Crash.{LeavesLook, LeavesCurrent, LeavesCheckpoint, LeavesBoot, LeavesBy, wrote}
use Rattle.xa_manager.specs.Believed.LogStands.{HasRecords, snapshot_bodies}
use Rattle.xa_manager.specs.Managed.{ManagerStandsFor}
use Rattle.xa_manager.specs.Rereading.{IsFate}
use Rattle.xa_manager.proofs.CrashFiles.{IsBeside, checkpoint_files}
use Rattle.xa_manager.proofs.Fates.{down_backed, turn_opens}
use Rattle.xa_manager.proofs.Generations.{newer}
use Rattle.xa_manager.proofs.Standing.{lost_recoverable}

-- at each moment the written file isn't empty, unless it may have been
beside_leaves : {D : Type 0} (disks : Ghosts D) (old : LogView D) (wrote : D) (P : List ℕ → Type 0) → HasOther disks old → LeavesOnly disks old.other wrote P
    → (NeverEmpty disks old.other → LeavesOnly disks old.other wrote HasBytes) → LeavesOnly disks old.other wrote (λ c. P c × IsBeside disks old c)
beside_leaves disks old wrote P (inr first) leaves filled = leaves_more disks old.other wrote P _ (λ c it. (it, inr first)) leaves
beside_leaves disks old wrote P (inl was) leaves filled =
    let some = filled was in record {
      later = leaves.later;
      each = λ c left. (leaves.each c left, inl (some.each c left));
      before = λ t c le left. ⊎_elim (λ past. inl past) (λ it. ⊎_elim (λ past. inl past) (λ byte. inr (it, inl byte)) (some.before t c le left)) (leaves.before t c le left);
    }

-- it is written, and the state is one in which its opened record is lost
pub snapshot_leaves : {D : Type 0} (disks : Ghosts D) (old new : LogView D) (lost : State) (boot : ℕ) (rs : List Record) (a : Appending)
    → IsRecoverable lost → lost.open_records ≡ logged.Opened boot ∷ [] → Backs rs lost → (has : HasRecords disks rs old)
    → generation (map spelled rs) < generation (snapshot_bodies lost boot)
    → new.log_bytes ≡ old.log_bytes → LeavesCurrent a old new
    → LeavesOnly disks old.other (wrote a new) (LeavesAny old.log_bytes newest has.0 (snapshot_bodies lost boot))
    → (NeverEmpty disks old.other → LeavesOnly disks old.other (wrote a new) HasBytes)
    → LeavesCheckpoint disks old a new lost
snapshot_leaves disks old new lost boot rs a h opens backs has above same current leaves filled = record {
  boot = boot;
  opens = opens;
  stood = has.0;
  records = rs;
  pair = has.1;
  log_bytes = same;
  current = current;
  other = leaves_more disks old.other (wrote a new) _ _
      (λ other left one is_left. checkpoint_files disks old rs lost boot has.0 one other has.1 above h backs opens is_left left.0 left.1)
      (beside_leaves disks old (wrote a new) _ has.2 leaves filled);
}

-- the current file isn't touched
swap_leaves : {D : Type 0} (a : Appending) (fresh : List (List ℕ)) (old new : LogView D) → Swaps (as_appended a) fresh old new → LeavesCurrent a old new
swap_leaves Kept fresh old new x = (x.0, x.1)
swap_leaves Refused fresh old new x = (x.0, x.1)
swap_leaves Lost fresh old new x = (x.0, x.1)

wrote_is : {D : Type 0} (a : Appending) (log : LogView D) → written (as_appended a) log ≡ wrote a log
wrote_is Kept log = refl
wrote_is Refused log = refl
wrote_is Lost log = refl

-- the two files of a log whose checkpoint of these bodies was answered so
pub record Checkpointed {D : Type 0} (disks : Ghosts D) (old new : LogView D) (a : Appending) (stood fresh : List (List ℕ)) : Type 0 where
  pub log_bytes : new.log_bytes ≡ old.log_bytes
  pub current : LeavesCurrent a old new
  pub other : LeavesOnly disks old.other (wrote a new) (LeavesAny old.log_bytes newest stood fresh)
  pub filled : NeverEmpty disks old.other → LeavesOnly disks old.other (wrote a new) HasBytes

pub checkpointed : {D : Type 0} (disks : Ghosts D) (old new : LogView D) (a : Appending) (told : Told) (stood fresh bodies : List (List ℕ)) → told ≡ as_appended a → fresh ≡ bodies → new.log_bytes ≡ old.log_bytes
    → Swaps told fresh old new → LeavesOnly disks old.other (written told new) (LeavesAny old.log_bytes newest stood fresh)
    → (NeverEmpty disks old.other → LeavesOnly disks old.other (written told new) HasBytes) → Checkpointed disks old new a stood bodies
checkpointed {D} disks old new a told stood fresh bodies is same bytes swaps leaves filled = record {
  log_bytes = bytes;
  current = swap_leaves a fresh old new (subst (λ (r : Told). Swaps r fresh old new) is swaps);
  other = subst (λ (b : List (List ℕ)). LeavesOnly disks old.other (wrote a new) (LeavesAny old.log_bytes newest stood b)) same
      (subst (λ (d : D). LeavesOnly disks old.other d (LeavesAny old.log_bytes newest stood fresh)) (ap (λ (r : Told). written r new) is ∙ wrote_is a new) leaves);
  filled = subst (λ (d : D). NeverEmpty disks old.other → LeavesOnly disks old.other d HasBytes) (ap (λ (r : Told). written r new) is ∙ wrote_is a new) filled;
}

pub boot_leaves : {D : Type 0} (disks : Ghosts D) (m : Manager D) (new : LogView D) (s t : State) (survived : ℕ) (rs : List Record) (a : Appending) (o : Outcome)
    → ManagerStandsFor disks m s → IsFate survived s t → Backs rs t → (has : HasRecords disks rs m.log) → nat_lt t.logged_boot MOST_BOOTS ≡ true → o ≡ Reread survived (Some a)
    → Checkpointed disks m.log new a has.0 (map spelled (snapshot (durable t) (t.logged_boot + 1))) → LeavesBoot disks m.log (restart_turn s) o new
boot_leaves disks m new s t survived rs a o st fate backs has less told left =
    let lost = (boot_became t (t.logged_boot + 1) Lost).after in
    let below = ltb-true t.logged_boot MOST_BOOTS less in
    subst (λ (x : Outcome). LeavesBoot disks m.log (restart_turn s) x new) (sym told)
    (subst (λ (x : Option Answer). IsSomeAnd x (λ l. LeavesCheckpoint disks m.log a new l.after)) (sym (turn_opens survived s t Lost fate less))
    (snapshot_leaves disks m.log new lost (t.logged_boot + 1) rs a (lost_recoverable disks m s t survived st fate below) refl (down_backed rs t _ backs) has (newer rs (durable t) backs.lasts below)
    left.log_bytes left.current left.other left.filled))

-- once the log in the middle is known
pub boot_by : {D : Type 0} (disks : Ghosts D) (old mid : LogView D) (s : State) (o : Outcome) (new : LogView D) → LeavesLook disks old mid s
    → LeavesBoot disks mid (restart_turn s) o new → LeavesBy disks old (restart_turn s) o new s
boot_by disks old mid s Quiet new look boot = absurd boot
boot_by disks old mid s (Appended a) new look boot = absurd boot
boot_by disks old mid s (Joined a) new look boot = absurd boot
boot_by disks old mid s Failed new look boot = absurd boot
boot_by disks old mid s (Reread survived appended) new look boot = (mid, look, boot)

pub failed_leaves : {D : Type 0} (disks : Ghosts D) (old new : LogView D) (s : State) (o : Outcome) → o ≡ Failed → LeavesLook disks old new s
    → LeavesBy disks old (restart_turn s) o new s
failed_leaves disks old new s o is look = subst (λ (x : Outcome). LeavesBy disks old (restart_turn s) x new s) (sym is) look
