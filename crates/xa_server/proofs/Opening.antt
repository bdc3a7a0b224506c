-- What a manager that was opened is, from each clause of its opening.
use Rattle.std.proofs.Common.{ℕ, ◌≡◌, ◌∙◌, List, [], Result, Ok, Err, Some, IfOk, IsSomeAnd, ap, subst, sym}
use Rattle.xa_disk.specs.declared.disk.Disk as disk
use Rattle.xa_log.specs.Believed.Pair.{logged_pair}
use Rattle.xa_manager.specs.declared.manager.Manager.{Manager}
use Rattle.xa_manager.specs.Believed.Files.{FilesStandFor}
use Rattle.xa_manager.specs.Believed.LogStands.{Trusts}
use Rattle.xa_manager.specs.Managed.{ManagerStandsFor}
use Rattle.xa_manager.specs.Believed.Opening.{HasBegunOn}
use Rattle.xa_model.specs.declared.outcome.Appending.TheVariants.{Kept}
use Rattle.xa_model.specs.declared.outcome.Outcome.TheVariants.{Reread}
use Rattle.xa_model.specs.History.{fresh}
use Rattle.xa_model.specs.Invariants.Loggable.{IsRecoverable}
use Rattle.xa_model.specs.State.{State}
use Rattle.xa_model.specs.Step.{step}
use Rattle.xa_model.specs.Turn.{Reopened}
use Rattle.xa_server.specs.Believed.Served.{HasOpened}

pub has_opened : {D E : Type 0} (disks : disk.Ghosts D) (first second : D) (name : List ℕ) (log_bytes : ℕ)
    (result : Result (Manager D) E)
    → IfOk result (HasBegunOn disks (disks.seen first) (disks.seen second) name log_bytes)
    → (Trusts disks → disks.seen first ≡ [] → disks.seen second ≡ []
    → IfOk result (λ m. ManagerStandsFor disks m (fresh name log_bytes)))
    → (Trusts disks → (s : State) → IsRecoverable s
    → FilesStandFor log_bytes (disks.seen first) (disks.seen second) s
    → IfOk result (λ m. (survived : ℕ)
    × IsSomeAnd (step s (Reopened name log_bytes) (Reread survived (Some Kept)))
    (λ a. ManagerStandsFor disks m a.after)))
    → IfOk result (HasOpened disks first second name log_bytes)
has_opened disks first second name log_bytes (Ok m) begun fresh_one reopens =
    record { begun = begun; fresh_one = fresh_one; reopens = reopens }
has_opened disks first second name log_bytes (Err e) begun fresh_one reopens = tt

-- the same of disks that held what these hold
pub opened_before : {D : Type 0} (disks : disk.Ghosts D) (first first' second second' : D) (name : List ℕ) (log_bytes : ℕ)
    (m : Manager D)
    → (disks.honest → disks.seen first' ≡ disks.seen first) → (disks.honest → disks.seen second' ≡ disks.seen second)
    → HasOpened disks first' second' name log_bytes m → HasOpened disks first second name log_bytes m
opened_before disks first first' second second' name log_bytes m same same_second h = record {
  begun = record {
    bodies = h.begun.bodies;
    begun = h.begun.begun;
    read = λ honest.
        ap (λ a. logged_pair a (disks.seen second)) (sym (same honest)) ∙ ap (λ b. logged_pair (disks.seen first') b) (sym (same_second honest))
        ∙ h.begun.read honest;
  };
  fresh_one = λ trusts none none_second.
      h.fresh_one trusts (same trusts.disk ∙ none) (same_second trusts.disk ∙ none_second);
  reopens = λ trusts s recoverable files.
      h.reopens trusts s recoverable
      (subst (λ a. FilesStandFor log_bytes a (disks.seen second') s) (sym (same trusts.disk))
      (subst (λ b. FilesStandFor log_bytes (disks.seen first) b s) (sym (same_second trusts.disk)) files));
}
