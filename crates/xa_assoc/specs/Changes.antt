-- How the associations of sessions change, seen as two functions: which branch each session is at work for, and with
-- which XIDs it has an association of its own.
use Rattle.std.specs.Prelude.{ℕ, ◌≡◌, ◌+◌, ◌<◌, ◌==◌, Bool, true, false, not, ◌&&◌, ◌||◌, Option, Some, None, cond, option_map, option_and_then, is_some, if◌then◌else◌}
use Rattle.xa_xid.specs.Triple.{Triple, xid_eq}
use Rattle.xa_model.specs.State.{is_with}
use Rattle.xa_limits.specs.declared.TheConstants.{MOST_SESSIONS}
use Rattle.xa_assoc.specs.declared.sessions.Sessions.{Sessions}
use Rattle.xa_assoc.specs.Free.{is_free}
use Rattle.xa_assoc.specs.Seats.{connected_in, opened_at, active_at, owns_at, scan_at, limit_at}

module _ (works : ℕ → Option Triple) (owns : ℕ → Triple → Bool)
    (works' : ℕ → Option Triple) (owns' : ℕ → Triple → Bool) where
  -- a session comes to work for a branch
  pub record SitsDown (n : ℕ) (xid : Triple) : Type 0 where
    pub active : (k : ℕ) → works' k ≡ cond (n == k) (Some xid) (works k)
    pub own : (k : ℕ) (q : Triple) → owns' k q ≡ (owns k q || (n == k && xid_eq xid q))

  -- a session is at work for no branch, and keeps its associations
  pub record StandsUp (n : ℕ) : Type 0 where
    pub active : (k : ℕ) → works' k ≡ cond (n == k) None (works k)
    pub own : (k : ℕ) (q : Triple) → owns' k q ≡ owns k q

  -- a session has no association of its own with the XID
  pub record Leaves (n : ℕ) (xid : Triple) : Type 0 where
    pub active : (k : ℕ) → works' k ≡ cond (n == k && is_with xid (works k)) None (works k)
    pub own : (k : ℕ) (q : Triple) → owns' k q ≡ (owns k q && not (n == k && xid_eq xid q))

-- the same of two tables

abbrev pub ComesToWork : Sessions → ℕ → Triple → Sessions → Type 0
ComesToWork m n xid m' = SitsDown (active_at m) (owns_at m) (active_at m') (owns_at m') n xid

abbrev pub ComesToRest : Sessions → ℕ → Sessions → Type 0
ComesToRest m n m' = StandsUp (active_at m) (owns_at m) (active_at m') (owns_at m') n

abbrev pub LosesOwn : Sessions → ℕ → Triple → Sessions → Type 0
LosesOwn m n xid m' = Leaves (active_at m) (owns_at m) (active_at m') (owns_at m') n xid

-- the same sessions are connected and opened, with the same time limits, and their scans stand where they stood
pub record IsSameRoom (m m' : Sessions) : Type 0 where
  pub opened : (n : ℕ) → opened_at m' n ≡ opened_at m n
  pub scan : (n : ℕ) → scan_at m' n ≡ scan_at m n
  pub limit : (n : ℕ) → limit_at m' n ≡ limit_at m n
  pub connected : connected_in m' ≡ connected_in m
  pub free : m'.free ≡ m.free

-- what becomes of a session, if it is connected: of whether it is opened, of its scan, and of its time limit
pub record Sets
    (m : Sessions) (n : ℕ)
    (opens : Bool → Bool) (scans : Option (Option Triple) → Option (Option Triple)) (limits : ℕ → ℕ) (m' : Sessions)
    : Type 0 where
  pub opened : (k : ℕ) → opened_at m' k ≡ cond (n == k) (option_map opens (opened_at m k)) (opened_at m k)
  pub scan : (k : ℕ)
      → scan_at m' k ≡ cond (n == k) (option_and_then (λ _. scans (scan_at m k)) (opened_at m k)) (scan_at m k)
  pub limit : (k : ℕ)
      → limit_at m' k ≡ cond (n == k) (cond (is_some (opened_at m k)) (limits (limit_at m k)) 0) (limit_at m k)
  pub active : (k : ℕ) → active_at m' k ≡ active_at m k
  pub own : (k : ℕ) (q : Triple) → owns_at m' k q ≡ owns_at m k q
  pub connected : connected_in m' ≡ connected_in m
  pub free : m'.free ≡ m.free

-- a session is connected
pub record Comes (m : Sessions) (n : ℕ) (m' : Sessions) : Type 0 where
  pub opened : (k : ℕ) → opened_at m' k ≡ cond (n == k) (Some false) (opened_at m k)
  pub active : (k : ℕ) → active_at m' k ≡ cond (n == k) None (active_at m k)
  pub own : (k : ℕ) (q : Triple) → owns_at m' k q ≡ cond (n == k) false (owns_at m k q)
  pub scan : (k : ℕ) → scan_at m' k ≡ cond (n == k) None (scan_at m k)
  pub limit : (k : ℕ) → limit_at m' k ≡ cond (n == k) 0 (limit_at m k)
  pub connected : opened_at m n ≡ None → connected_in m' ≡ connected_in m + 1
  pub free : (k : ℕ) → k < MOST_SESSIONS → is_free m'.free k ≡ cond (n == k + 1) false (is_free m.free k)

-- a session is no longer connected
pub record Goes (m : Sessions) (n : ℕ) (m' : Sessions) : Type 0 where
  pub opened : (k : ℕ) → opened_at m' k ≡ cond (n == k) None (opened_at m k)
  pub active : (k : ℕ) → active_at m' k ≡ cond (n == k) None (active_at m k)
  pub own : (k : ℕ) (q : Triple) → owns_at m' k q ≡ cond (n == k) false (owns_at m k q)
  pub scan : (k : ℕ) → scan_at m' k ≡ cond (n == k) None (scan_at m k)
  pub limit : (k : ℕ) → limit_at m' k ≡ cond (n == k) 0 (limit_at m k)
  pub connected : connected_in m' + (if is_some (opened_at m n) then 1 else 0) ≡ connected_in m
  pub free : (k : ℕ) → k < MOST_SESSIONS → is_free m'.free k ≡ cond (n == k + 1) true (is_free m.free k)

-- the same sessions are connected and opened, with the same time limits, and nothing else is left of them
pub record Clears (m m' : Sessions) : Type 0 where
  pub opened : (k : ℕ) → opened_at m' k ≡ opened_at m k
  pub active : (k : ℕ) → active_at m' k ≡ None
  pub own : (k : ℕ) (q : Triple) → owns_at m' k q ≡ false
  pub scan : (k : ℕ) → scan_at m' k ≡ None
  pub limit : (k : ℕ) → limit_at m' k ≡ limit_at m k
  pub connected : connected_in m' ≡ connected_in m
  pub free : m'.free ≡ m.free
