-- Restarts and openings lead to what lasted.
use Rattle.std.proofs.Common.{◌≡◌, ℕ, ◌+◌, true, false, List, [], refl, ap, sym}
use Rattle.std.specs.Prelude.{filter}
use Rattle.std.specs.List.{AllByRecursion}
use Rattle.std.proofs.lemmas.Bool.{not-true}
use Rattle.xa_model.specs.State.{State, Branch, is_working}
use Rattle.xa_model.specs.Durable.{Durable, durable, is_past}
use Rattle.xa_model.specs.Fold.{snapshot, sizes}
use Rattle.xa_model.specs.Logging.{snapshot_end}
use Rattle.xa_model.specs.Restarting.{lasts, restarted, reopened}
use Rattle.xa_model.specs.Invariants.Loggable.{IsRecoverable}
use Rattle.xa_model.specs.Invariants.Restored.{IsRestored}
use Rattle.xa_model.specs.Laws.Backing.{RestartsRestored, ReopensRestored}
use Rattle.xa_model.proofs.Inserts.{all_filtered, filter_keeps}
use Rattle.xa_model.proofs.Restarts.{booted_lasts, booted_recoverable, reopened_recoverable}

pub idle : (bs : List Branch) → AllByRecursion (λ (b : Branch). is_working b.phase ≡ false) (filter lasts bs)
idle bs = all_filtered (λ (b : Branch). is_working b.phase ≡ false) lasts (λ b e. not-true (is_working b.phase) e) bs

same_end : (s : State) (next : ℕ) → snapshot_end s next ≡ snapshot_end (restarted s next) next
same_end s next = ap (λ (d : Durable). 8 + sizes (snapshot d next)) (sym (booted_lasts s next))

-- a restart and an opening differ in the settings, the sessions and the moment, which don't last
abbrev as_set : State → State → State
as_set t s = record s { name = t.name; log_bytes = t.log_bytes; sessions = t.sessions; moment = t.moment }

restored_with : (s t : State) → IsRecoverable s → s.open_records ≡ []
    → IsRecoverable (as_set t (restarted s (s.logged_boot + 1)))
    → IsRestored (durable s) (s.logged_boot + 1) (as_set t (restarted s (s.logged_boot + 1)))
restored_with s t h settled recoverable =
    let next = s.logged_boot + 1 in
    record {
      recoverable = recoverable;
      lasts = booted_lasts s next;
      boot = refl;
      logged_boot = refl;
      given = refl;
      associations = refl;
      reads = refl;
      idle = idle s.branches;
      past = filter_keeps (λ (b : Branch). is_past next b.timestamp ≡ true) lasts s.branches h.loggable.past;
      standing = refl;
      open_records = settled;
      end = same_end s next;
    }

pub restarts_restored : RestartsRestored
restarts_restored s h settled less = restored_with s (restarted s (s.logged_boot + 1)) h settled (booted_recoverable s h settled less)

pub reopens_restored : ReopensRestored
reopens_restored s name log_bytes h settled less =
    restored_with s (reopened s name log_bytes (s.logged_boot + 1)) h settled (reopened_recoverable s name log_bytes h settled less)
