-- What may be logged in a state.
use Rattle.std.specs.Prelude.{ℕ, ◌≡◌, ◌<◌, true, List}
use Rattle.xa_codes.specs.declared.write.Write.{Write}
use Rattle.xa_xid.specs.Triple.{Triple}
use Rattle.xa_record.specs.declared.record.Record.{Record}
use Rattle.xa_record.specs.declared.record.Record.TheVariants as logged
use Rattle.xa_model.specs.State.{State, InDoubt, known_as, known_of, holders_of, is_at_work}
use Rattle.xa_model.specs.Associations.{timestamp_in}
use Rattle.xa_model.specs.Logging.{writes_in}
use Rattle.xa_model.specs.Completions.{is_completed}

-- a branch at work that nobody holds, with its timestamp and its writes
pub record IsIdle (s : State) (xid : Triple) (t : ℕ) (ws : List Write) : Type 0 where
  pub free : holders_of s.associations xid ≡ 0
  pub working : is_at_work (known_of s.branches xid) ≡ true
  pub timestamp : timestamp_in s xid ≡ t
  pub writes : writes_in s xid ≡ ws

-- what may be logged in a state: the record says what its branch is
abbrev pub MayLog : State → Record → Type 0
MayLog s (logged.Opened boot) = s.logged_boot < boot
MayLog s (logged.Prepared xid t ws) = IsIdle s xid t ws
MayLog s (logged.Committed xid t ws) = IsIdle s xid t ws
MayLog s (logged.Completed xid direction) = known_as s xid ≡ InDoubt
MayLog s (logged.Decided xid direction) = known_as s xid ≡ InDoubt
MayLog s (logged.Forgotten xid) = is_completed (known_as s xid) ≡ true
MayLog s _ = ⊥
