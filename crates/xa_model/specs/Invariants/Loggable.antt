-- What a state has that may come into the log: within the records' limits, and in their order.
use Rattle.std.specs.Prelude.{◌≡◌, ◌⊎◌, ◌+◌, ◌≤◌, true, false, List, [], ◌∷◌, length}
use Rattle.std.specs.List.{AllByRecursion}
use Rattle.xa_codes.specs.declared.write.Write.{Write}
use Rattle.xa_record.specs.Limits.{IsRecord, IsWrite}
use Rattle.xa_record.specs.declared.record.Record.{Record}
use Rattle.xa_model.specs.State.{State, Up}
use Rattle.xa_model.specs.Invariants.Sound.{IsSound}
use Rattle.xa_model.specs.Durable.{is_past, writes_of}
use Rattle.xa_limits.specs.declared.TheConstants.{MOST_BOOTS, MOST_WRITES}
use Rattle.xa_model.specs.Invariants.MayLog.{MayLog}
use Rattle.xa_model.specs.Logging.{applied}
pub use Rattle.xa_model.specs.Logging.{is_boot}

-- as many writes as a record takes, each within its limits
pub record AreShort (ws : List Write) : Type 0 where
  pub few : length ws ≤ MOST_WRITES
  pub each : AllByRecursion IsWrite ws

-- Boots count from 1. A boot that was logged by a restart that failed later gave no timestamps.
pub record IsLoggable (s : State) : Type 0 where
  pub first : 1 ≤ s.boot
  pub boots : s.boot ≤ s.logged_boot
  pub last : s.logged_boot ≤ MOST_BOOTS
  -- boots that were logged gave all timestamps; a branch at work may have its own from any of them
  pub past : AllByRecursion (λ b. is_past (s.logged_boot + 1) b.timestamp ≡ true) s.branches
  pub written : AllByRecursion (λ b. AreShort (writes_of b.operations)) s.branches

-- the record may be the log's last
pub record MayBeLast (s : State) (r : Record) : Type 0 where
  pub may : MayLog s r
  pub limits : IsRecord r
  pub current : is_boot r ≡ false → s.logged_boot ≡ s.boot

-- each of these may be the log's last, if those before it are kept
abbrev pub MayFollow : State → List Record → Type 0
MayFollow s [] = Unit {0}
MayFollow s (r ∷ rs) = MayBeLast s r × MayFollow (applied r s) rs

-- a boot's record is lost alone
abbrev pub AreOneGroup : List Record → Type 0
AreOneGroup rs = AllByRecursion (λ r. is_boot r ≡ false) rs ⊎ (length rs ≡ 1)

-- What every state of a history has: a manager that is up has no record whose fate is
-- unknown, and is in the last boot that was logged.
pub record IsRecoverable (s : State) : Type 0 where
  pub sound : IsSound s
  pub loggable : IsLoggable s
  pub open_records : MayFollow s s.open_records
  pub group : AreOneGroup s.open_records
  pub settled : s.standing ≡ Up → s.open_records ≡ []
  pub current : s.standing ≡ Up → s.logged_boot ≡ s.boot
