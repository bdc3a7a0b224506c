-- The refusals that come before the row of a call: the manager is down, the session is not connected or not opened,
-- TMASYNC, and arguments that the call may not have.
use Rattle.std.specs.Prelude.{ℕ, Bool, true, false, not, ◌&&◌, ◌||◌, Option, Some, None, List, [], ◌∷◌, bytes_eq}
use Rattle.std.specs.Prelude.{nat_lt, is_none, ◌==◌}
use Rattle.xa_codes.specs.Flags.{has, legal}
use Rattle.xa_codes.specs.declared.codes.TheConstants.{XAER_PROTO, XAER_ASYNC, XAER_INVAL, XAER_RMFAIL}
use Rattle.xa_codes.specs.declared.flags.TheConstants.{TMASYNC}
use Rattle.xa_codes.specs.declared.call.Call.{Call}
use Rattle.xa_codes.specs.declared.call.Call.TheVariants as call
pub use Rattle.xa_frame.specs.Spelling.{call_of}
use Rattle.xa_frame.specs.declared.reply.Reply.{Reply}
use Rattle.xa_frame.specs.declared.request.Request.{Request}
use Rattle.xa_frame.specs.declared.request.Request.TheVariants.{Open, Close, Start, End, Prepare, Commit, Rollback}
use Rattle.xa_frame.specs.declared.request.Request.TheVariants.{Forget, Recover, Get, Put, Delete, Decide, Doom}
use Rattle.xa_frame.specs.declared.request.Request.TheVariants.{Restart, Timeout, Tick, Trim, Branches}
use Rattle.xa_limits.specs.declared.TheConstants.{MOST_XIDS}
use Rattle.xa_model.specs.Answer.{plain, first}

-- a request with no field of flags has none
abbrev pub flags_of : Request → ℕ
flags_of (Open flags info) = flags
flags_of (Close flags) = flags
flags_of (Start flags xid) = flags
flags_of (End flags xid) = flags
flags_of (Prepare flags xid) = flags
flags_of (Commit flags xid) = flags
flags_of (Rollback flags xid) = flags
flags_of (Forget flags xid) = flags
flags_of (Recover flags count) = flags
flags_of (Get key) = 0
flags_of (Put key value) = 0
flags_of (Delete key) = 0
flags_of (Decide direction xid) = 0
flags_of (Doom xid) = 0
flags_of Restart = 0
flags_of (Timeout seconds) = 0
flags_of (Tick moment) = 0
flags_of Trim = 0
flags_of (Branches count after) = 0

-- these pass while the manager is down
abbrev pub passes_down : Call → Bool
passes_down call.Open = true
passes_down call.Close = true
passes_down call.Restart = true
passes_down _ = false

-- these pass without an opened session
abbrev pub needs_open : Call → Bool
needs_open call.Open = false
needs_open call.Close = false
needs_open call.Decide = false
needs_open call.Doom = false
needs_open call.Restart = false
needs_open call.Tick = false
needs_open call.Trim = false
needs_open call.Branches = false
needs_open _ = true

-- on Recover TMASYNC is an illegal flag, and nothing more
abbrev pub is_async : Call → ℕ → Bool
is_async call.Recover flags = false
is_async _ flags = has flags TMASYNC

-- the open info has to be the manager's name
abbrev pub has_wrong_info : List ℕ → Request → Bool
has_wrong_info name (Open flags info) = not (bytes_eq info name)
has_wrong_info name _ = false

-- a recovery lists at most MOST_XIDS, and so do branches, but at least one
abbrev pub has_wrong_count : Request → Bool
has_wrong_count (Recover flags count) = nat_lt MOST_XIDS count
has_wrong_count (Branches count after) = (count == 0) || nat_lt MOST_XIDS count
has_wrong_count _ = false

-- moments don't go back
abbrev pub has_wrong_moment : ℕ → Request → Bool
has_wrong_moment last (Tick moment) = nat_lt moment last
has_wrong_moment last _ = false

abbrev pub is_invalid : List ℕ → ℕ → Request → Bool
is_invalid name moment request =
    not (legal (call_of request) (flags_of request))
    || (has_wrong_info name request || (has_wrong_count request || has_wrong_moment moment request))

abbrev pub is_opened : Option Bool → Bool
is_opened (Some opened) = opened
is_opened None = false

-- What these refusals look at: whether the manager is up, its name, the last moment that was told, and whether the
-- session is opened, if it is connected.
pub record Context : Type 0 where
  pub up : Bool
  pub name : List ℕ
  pub moment : ℕ
  pub session : Option Bool

abbrev pub early_checks : Context → Request → List (Bool × Reply)
early_checks c request =
    (not c.up && not (passes_down (call_of request)), plain XAER_RMFAIL)
    ∷ (is_none c.session, plain XAER_PROTO)
    ∷ (needs_open (call_of request) && not (is_opened c.session), plain XAER_PROTO)
    ∷ (is_async (call_of request) (flags_of request), plain XAER_ASYNC)
    ∷ (is_invalid c.name c.moment request, plain XAER_INVAL)
    ∷ []

abbrev pub early_refusal : Context → Request → Option Reply
early_refusal c request = first (early_checks c request)
