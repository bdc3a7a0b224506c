-- In each history from an opening, what was prepared is listed until its completion is asked for.
use Rattle.std.proofs.Common.{◌≡◌, ℕ, ◌+◌, Bool, true, false, ◌&&◌, cond, List, [], refl, arith}
use Rattle.std.specs.Prelude.{nat_lt}
use Rattle.xa_limits.specs.declared.TheConstants.{MOST_BOOTS}
use Rattle.xa_record.specs.declared.record.Record.TheVariants as logged
use Rattle.xa_model.specs.declared.outcome.Appending.{Appending}
use Rattle.xa_model.specs.declared.outcome.Appending.TheVariants.{Kept, Refused, Lost}
use Rattle.xa_model.specs.State.{State, Up}
use Rattle.xa_model.specs.Answer.{Answer, ok}
use Rattle.xa_model.specs.Fold.{nothing}
use Rattle.xa_model.specs.Turn.{Stops, Opens}
use Rattle.xa_model.specs.Restarting.{opening, refused_opening, reopened, reopen_became, reopening, can_open, reopen_turn}
use Rattle.xa_model.specs.Laws.Logging.{BootLasts}
use Rattle.xa_model.specs.ListedLaw.{ListsUntilAsked, FreshLists, OpenedLists, ReopenedLists}
use Rattle.xa_model.proofs.Openings.{opens_restored}
use Rattle.xa_model.proofs.Preparing.{idle_lists, listed_since_boot}
use Rattle.xa_model.proofs.Replies.{AllOfReading, taken_all}
use Rattle.xa_model.proofs.Restarts.{IsFound, survived_found, found_boots, reopens}
use Rattle.xa_model.proofs.Restores.{idle}

pub opened_lists : OpenedLists
opened_lists rs d name log_bytes k e less few =
    listed_since_boot d (d.boot + 1) (opening d name log_bytes (d.boot + 1)) (opens_restored rs d name log_bytes k e less few).0

pub fresh_lists : FreshLists
fresh_lists name log_bytes = opened_lists [] nothing name log_bytes tt refl (omega arith) (omega arith)

-- a manager that was opened again is up where the new boot began

abbrev UpLists : Answer → Type 0
UpLists a = a.after.standing ≡ Up → ListsUntilAsked a.after

boots_list : (s : State) (name : List ℕ) (log_bytes : ℕ) (c : Bool)
    → BootLasts s (cond c (Opens (logged.Opened (s.logged_boot + 1)) (reopen_became s name log_bytes (s.logged_boot + 1)))
    (Stops (ok (refused_opening s name log_bytes))))
    → AllOfReading UpLists (cond c (Opens (logged.Opened (s.logged_boot + 1)) (reopen_became s name log_bytes (s.logged_boot + 1)))
    (Stops (ok (refused_opening s name log_bytes))))
boots_list s name log_bytes false l = λ up. absurd (cc up)
boots_list s name log_bytes true l = by_fate
  where
    by_fate : (x : Appending) → UpLists (reopen_became s name log_bytes (s.logged_boot + 1) x)
    by_fate Kept = λ up. idle_lists (reopened s name log_bytes (s.logged_boot + 1)) l.1.recoverable (idle s.branches)
    by_fate Refused = λ up. absurd (cc up)
    by_fate Lost = λ up. absurd (cc up)

reading_lists : (s : State) (name : List ℕ) (log_bytes : ℕ) → BootLasts s (reopening name log_bytes s) → AllOfReading UpLists (reopening name log_bytes s)
reading_lists s name log_bytes l = boots_list s name log_bytes (nat_lt s.logged_boot MOST_BOOTS && can_open s log_bytes (s.logged_boot + 1)) l

pub reopened_lists : ReopenedLists
reopened_lists s name log_bytes outcome a h steps =
    taken_all UpLists (reopen_turn s name log_bytes) outcome a (
      (λ up. absurd (cc up)),
      λ k. found_boots (IsFound s k) (AllOfReading UpLists) s k (reopening name log_bytes)
          (λ t found. reading_lists t name log_bytes (reopens t name log_bytes found.recoverable found.settled)) (survived_found s k h),
    ) steps
