-- What every state of a history has.
use Rattle.std.specs.Prelude.{ℕ, ◌≡◌, ◌+◌, ◌<◌, ◌≤◌, ◌==◌, false, None, List, [], ◌∷◌, length}
use Rattle.xa_xid.specs.Triple.{Triple, xid_eq}
use Rattle.xa_model.specs.State.{State, Branch, count, is_active, is_known_as, is_at_work}
use Rattle.xa_model.specs.State.{owns, known_of, known_in, session_of, holders_of, loose_of, timestamp_of}
use Rattle.xa_model.specs.Associations.{is_of_session}
use Rattle.xa_limits.specs.declared.TheConstants.{MOST_GIVEN, MOST_LOG, MOST_LOOSE, MOST_SESSIONS}

-- the timestamps are above 0, below the limit, and descend
abbrev pub Descends : ℕ → List Branch → Type 0
Descends limit [] = Unit {0}
Descends limit (b ∷ bs) = (0 < b.timestamp) × (b.timestamp < limit) × Descends b.timestamp bs

-- how many of the known branches and of the completed ones have this XID
abbrev pub named : State → Triple → ℕ
named s xid = count (is_known_as xid) s.branches + count (λ d. xid_eq d.xid xid) s.decided

-- How many XIDs may be known. Start lets in no more than MOST_BRANCHES of them, but a log that no manager wrote may know
-- more: each takes a record, and so at least a byte of the log.
abbrev pub most_known : ℕ
most_known = MOST_LOG

pub record IsSound (s : State) : Type 0 where
  -- the branches stand by timestamp, and none has a timestamp that wasn't given
  pub descends : Descends (timestamp_of s.boot s.given + 1) s.branches
  -- no two known XIDs are the same
  pub distinct : (xid : Triple) → named s xid ≤ 1
  -- no two sessions have one number
  pub numbered : (n : ℕ) → count (λ x. x.number == n) s.sessions ≤ 1
  -- a session has at most one active association, and at most one of its own with a branch
  pub active : (n : ℕ) → count (λ a. is_active n a.holder) s.associations ≤ 1
  pub own : (n : ℕ) (xid : Triple) → count (owns n xid) s.associations ≤ 1
  -- who holds one is connected
  pub connected : (n : ℕ) → session_of s.sessions n ≡ None → count (is_of_session n) s.associations ≡ 0
  -- an XID that is held is of a known branch at work
  pub bound : (xid : Triple) → is_at_work (known_of s.branches xid) ≡ false → holders_of s.associations xid ≡ 0
  -- the limits
  pub sessions : length s.sessions ≤ MOST_SESSIONS
  pub known : known_in s ≤ most_known
  pub given : s.given ≤ MOST_GIVEN
  pub loose : (xid : Triple) → loose_of s.associations xid ≤ MOST_LOOSE
