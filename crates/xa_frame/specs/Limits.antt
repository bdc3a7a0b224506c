-- Which requests and replies some frame spells: those within the limits.
use Rattle.std.specs.Prelude.{ℕ, ◌<◌, ◌≤◌, ◌^◌, Option, Some, None, List, length, All, FitsSigned}
use Rattle.std.specs.Int.{w32}
use Rattle.xa_xid.specs.Triple.{Triple, IsWithinLimits}
pub use Rattle.xa_fields.specs.Limits.{IsKey, IsValue}
use Rattle.xa_frame.specs.declared.request.Request.{Request}
use Rattle.xa_frame.specs.declared.request.Request.TheVariants.{Open, Close, Start, End, Prepare, Commit, Rollback, Forget, Recover, Get, Put, Delete, Decide, Doom, Timeout, Tick, Branches}
use Rattle.xa_frame.specs.declared.body.Body.{Body}
use Rattle.xa_frame.specs.declared.body.Body.TheVariants as body
use Rattle.xa_frame.specs.declared.body.Body.TheVariants.{Number, Value, Xids}
use Rattle.xa_frame.specs.declared.known_branch.AssociationCounts.{AssociationCounts}
use Rattle.xa_frame.specs.declared.known_branch.KnownBranch.{KnownBranch}
use Rattle.xa_frame.specs.declared.reply.Reply.{Reply}
use Rattle.xa_frame.specs.declared.status.Status.{Status}
use Rattle.xa_limits.specs.declared.TheConstants.{MOST_INFO, MOST_XIDS}

abbrev pub IsInfo : List ℕ → Type 0
IsInfo info = length info ≤ MOST_INFO

abbrev pub IsRequest : Request → Type 0
IsRequest (Open flags info) = IsInfo info
IsRequest (Get key) = IsKey key
IsRequest (Put key value) = IsKey key × IsValue value
IsRequest (Delete key) = IsKey key
IsRequest _ = Unit {0}

abbrev pub IsBody : Body → Type 0
IsBody (Value value) = IsValue value
IsBody (Xids xids) = length xids ≤ MOST_XIDS
IsBody (body.Branches branches) = length branches ≤ MOST_XIDS
IsBody _ = Unit {0}

abbrev pub IsReply : Reply → Type 0
IsReply reply = IsBody reply.body

-- what the types of a program hold anyway: numbers with a fixed number of bits, and XIDs

abbrev pub HoldsCursor : Option Triple → Type 0
HoldsCursor None = Unit {0}
HoldsCursor (Some xid) = IsWithinLimits xid

abbrev pub Holds : Request → Type 0
Holds (Open flags info) = flags < 2 ^ 32
Holds (Close flags) = flags < 2 ^ 32
Holds (Start flags xid) = (flags < 2 ^ 32) × IsWithinLimits xid
Holds (End flags xid) = (flags < 2 ^ 32) × IsWithinLimits xid
Holds (Prepare flags xid) = (flags < 2 ^ 32) × IsWithinLimits xid
Holds (Commit flags xid) = (flags < 2 ^ 32) × IsWithinLimits xid
Holds (Rollback flags xid) = (flags < 2 ^ 32) × IsWithinLimits xid
Holds (Forget flags xid) = (flags < 2 ^ 32) × IsWithinLimits xid
Holds (Recover flags count) = (flags < 2 ^ 32) × (count < 2 ^ 32)
Holds (Decide direction xid) = IsWithinLimits xid
Holds (Doom xid) = IsWithinLimits xid
Holds (Timeout seconds) = seconds < 2 ^ 32
Holds (Tick moment) = moment < 2 ^ 64
Holds (Branches count after) = (count < 2 ^ 32) × HoldsCursor after
Holds _ = Unit {0}

abbrev pub HoldsCounts : AssociationCounts → Type 0
HoldsCounts counts = (counts.active < 2 ^ 16) × (counts.suspended < 2 ^ 16) × (counts.loose < 2 ^ 16)

pub record HoldsBranch (branch : KnownBranch) : Type 0 where
  pub xid : IsWithinLimits branch.xid
  pub mark : FitsSigned w32 branch.mark
  pub timestamp : branch.timestamp < 2 ^ 64
  pub associations : HoldsCounts branch.associations

pub record HoldsStatus (s : Status) : Type 0 where
  pub boot : s.boot < 2 ^ 64
  pub end : s.end < 2 ^ 64
  pub bytes : s.bytes < 2 ^ 64
  pub branches : s.branches < 2 ^ 64
  pub prepared : s.prepared < 2 ^ 64
  pub completed : s.completed < 2 ^ 64
  pub sessions : s.sessions < 2 ^ 64
  pub versions : s.versions < 2 ^ 64
  pub calls : s.calls < 2 ^ 64
  pub seconds : s.seconds < 2 ^ 64

abbrev pub HoldsBody : Body → Type 0
HoldsBody (Number number) = number < 2 ^ 64
HoldsBody (Xids xids) = All IsWithinLimits xids
HoldsBody (body.Branches branches) = All HoldsBranch branches
HoldsBody (body.Status status) = HoldsStatus status
HoldsBody _ = Unit {0}

pub record HoldsReply (reply : Reply) : Type 0 where
  pub code : FitsSigned w32 reply.code
  pub place : reply.place < 2 ^ 64
  pub body : HoldsBody reply.body
