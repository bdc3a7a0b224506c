-- What a log's records say of the state that they back.
use Rattle.std.specs.Prelude.{ℕ, zero, suc, ◌≡◌, ◌+◌, ◌≤◌, true, false, Ok, IfSome, List, [], ◌∷◌, ◌++◌}
use Rattle.std.specs.List.{AllByRecursion}
use Rattle.xa_record.specs.Limits.{IsRecord}
use Rattle.xa_record.specs.declared.record.Record.{Record}
use Rattle.xa_record.specs.declared.record.Record.TheVariants as logged
use Rattle.xa_limits.specs.declared.TheConstants.{FIRST_OFFSET}
use Rattle.xa_model.specs.declared.outcome.Appending.TheVariants.{Kept, Refused, Lost}
use Rattle.xa_model.specs.State.{State, timestamp_of, is_working}
use Rattle.xa_model.specs.Durable.{durable}
use Rattle.xa_model.specs.Fold.{fold, reading, unread, is_used, snapshot, sizes}
use Rattle.xa_model.specs.Logging.{applied}
use Rattle.xa_model.specs.Turn.{Turn, Nobody, Now, Appends, Checkpoints, Rereads, Joins, Rereading, Stops, Opens}
use Rattle.xa_model.specs.Restarting.{survived}

-- no later timestamp of this boot is among these, and none of a branch at work
pub record IsNew (s : State) (timestamps : List ℕ) : Type 0 where
  pub given : AllByRecursion (λ t. t ≤ timestamp_of s.boot s.given) timestamps
  pub unused : AllByRecursion (λ b. is_working b.phase ≡ true → is_used b.timestamp timestamps ≡ false) s.branches

-- a log of these records: it comes to what would last, ends where the state says,
-- and what the state still has to log is new to it
pub record Backs (rs : List Record) (s : State) : Type 0 where
  pub records : AllByRecursion IsRecord rs
  pub lasts : fold rs ≡ Ok (durable s)
  pub end : s.end ≡ FIRST_OFFSET + sizes rs
  pub new : s.logged_boot ≡ s.boot → IsNew s (reading unread rs).timestamps

-- the records of a log after which a record whose fate was unknown
-- stands; an opened record stands first in a snapshot
abbrev pub settled : List Record → State → Record → List Record
settled rs s (logged.Opened boot) = snapshot (durable s) boot
settled rs s r = rs ++ r ∷ []

-- and after which the first k of these stand
abbrev pub settled_first : ℕ → List Record → List Record → State → List Record
settled_first zero lost rs s = rs
settled_first (suc k) [] rs s = rs
settled_first (suc k) (r ∷ lost) rs s = settled_first k lost (settled rs s r) (applied r s)

-- The log's records keep up with the state: at each answer of the device

abbrev pub BacksReading : List Record → State → Rereading → Type 0
BacksReading rs s (Stops a) = Backs rs a.after
BacksReading rs s (Opens r after) =
    Backs (snapshot (durable s) (s.logged_boot + 1)) (after Kept).after × Backs rs (after Refused).after
    × Backs rs (after Lost).after

abbrev pub BacksTurn : List Record → State → Turn → Type 0
BacksTurn rs s Nobody = Unit {0}
BacksTurn rs s (Now a) = Backs rs a.after
BacksTurn rs s (Appends r after) =
    Backs (rs ++ r ∷ []) (after Kept).after × Backs rs (after Refused).after × Backs rs (after Lost).after
BacksTurn rs s (Checkpoints r after) =
    Backs (snapshot (durable s) (s.logged_boot + 1)) (after Kept).after × Backs rs (after Refused).after
    × Backs rs (after Lost).after
BacksTurn rs s (Rereads failed found) =
    Backs rs failed.after
    × ((k : ℕ)
    → IfSome (survived s k) (λ t. IfSome (found k) (BacksReading (settled_first k s.open_records rs s) t)))
BacksTurn rs s (Joins refused r lost) = Backs rs refused.after × Backs rs lost.after
