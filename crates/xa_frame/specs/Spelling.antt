-- The content of a frame: the one spelling of each request and of each reply. Numbers are big-endian.
use Rattle.std.specs.Prelude.{◌≡◌, ℕ, ℤ, List, [], ◌∷◌, ◌++◌, length, flat_map, Option, Some, None, find, ◌==◌}
use Rattle.std.specs.Int.{w16, w32, w64, to_be_bytes, cast_unsigned}
use Rattle.xa_codes.specs.declared.call.Call.{Call}
use Rattle.xa_codes.specs.declared.call.Call.TheVariants as call
use Rattle.xa_codes.specs.declared.detail.Detail.{Detail}
use Rattle.xa_codes.specs.declared.detail.Detail.TheVariants as detail
use Rattle.xa_xid.specs.Triple.{Triple}
use Rattle.xa_xid.specs.Spelling.{bytes_of}
use Rattle.xa_fields.specs.Spelling.{short_bytes, value_bytes, direction_bytes}
use Rattle.xa_frame.specs.declared.request.Request.{Request}
use Rattle.xa_frame.specs.declared.request.Request.TheVariants as request
use Rattle.xa_frame.specs.declared.body.Body.{Body}
use Rattle.xa_frame.specs.declared.body.Body.TheVariants as body
use Rattle.xa_frame.specs.declared.known_branch.AssociationCounts.{AssociationCounts}
use Rattle.xa_frame.specs.declared.known_branch.BranchState.{BranchState}
use Rattle.xa_frame.specs.declared.known_branch.BranchState.TheVariants as state
use Rattle.xa_frame.specs.declared.known_branch.KnownBranch.{KnownBranch}
use Rattle.xa_frame.specs.declared.reply.Reply.{Reply}
use Rattle.xa_frame.specs.declared.status.Status.{Status}
use Rattle.xa_frame.specs.Limits.{IsRequest, IsReply, Holds, HoldsReply}

-- each of a list, after how many they are in two bytes
abbrev pub counted_bytes : {A : Type 0} → (A → List ℕ) → List A → List ℕ
counted_bytes spell xs = to_be_bytes w16 (length xs) ++ flat_map spell xs

-- a code, in two's complement
abbrev pub code_bytes : ℤ → List ℕ
code_bytes code = to_be_bytes w32 (cast_unsigned w32 code)

-- the number of an operation
abbrev pub operation : Call → ℕ
operation call.Open = 1
operation call.Close = 2
operation call.Start = 3
operation call.End = 4
operation call.Prepare = 5
operation call.Commit = 6
operation call.Rollback = 7
operation call.Recover = 8
operation call.Forget = 9
operation call.Get = 10
operation call.Put = 11
operation call.Delete = 12
operation call.Decide = 13
operation call.Doom = 14
operation call.Restart = 15
operation call.Timeout = 16
operation call.Tick = 17
operation call.Trim = 65
operation call.Branches = 66

abbrev pub calls : List Call
calls =
    call.Open ∷ call.Close ∷ call.Start ∷ call.End ∷ call.Prepare ∷ call.Commit ∷ call.Rollback ∷ call.Recover
    ∷ call.Forget ∷ call.Get ∷ call.Put ∷ call.Delete ∷ call.Decide ∷ call.Doom ∷ call.Restart ∷ call.Timeout
    ∷ call.Tick ∷ call.Trim ∷ call.Branches ∷ []

-- the call with this number
abbrev pub numbered : ℕ → Option Call
numbered n = find (λ c. operation c == n) calls

abbrev pub call_of : Request → Call
call_of (request.Open flags info) = call.Open
call_of (request.Close flags) = call.Close
call_of (request.Start flags xid) = call.Start
call_of (request.End flags xid) = call.End
call_of (request.Prepare flags xid) = call.Prepare
call_of (request.Commit flags xid) = call.Commit
call_of (request.Rollback flags xid) = call.Rollback
call_of (request.Forget flags xid) = call.Forget
call_of (request.Recover flags count) = call.Recover
call_of (request.Get key) = call.Get
call_of (request.Put key value) = call.Put
call_of (request.Delete key) = call.Delete
call_of (request.Decide direction xid) = call.Decide
call_of (request.Doom xid) = call.Doom
call_of request.Restart = call.Restart
call_of (request.Timeout seconds) = call.Timeout
call_of (request.Tick moment) = call.Tick
call_of request.Trim = call.Trim
call_of (request.Branches count after) = call.Branches

-- 0 for none, or 1 and an XID
abbrev pub cursor_bytes : Option Triple → List ℕ
cursor_bytes None = 0 ∷ []
cursor_bytes (Some xid) = 1 ∷ bytes_of xid

abbrev pub fields_bytes : Request → List ℕ
fields_bytes (request.Open flags info) = to_be_bytes w32 flags ++ short_bytes info
fields_bytes (request.Close flags) = to_be_bytes w32 flags
fields_bytes (request.Start flags xid) = to_be_bytes w32 flags ++ bytes_of xid
fields_bytes (request.End flags xid) = to_be_bytes w32 flags ++ bytes_of xid
fields_bytes (request.Prepare flags xid) = to_be_bytes w32 flags ++ bytes_of xid
fields_bytes (request.Commit flags xid) = to_be_bytes w32 flags ++ bytes_of xid
fields_bytes (request.Rollback flags xid) = to_be_bytes w32 flags ++ bytes_of xid
fields_bytes (request.Forget flags xid) = to_be_bytes w32 flags ++ bytes_of xid
fields_bytes (request.Recover flags count) = to_be_bytes w32 flags ++ to_be_bytes w32 count
fields_bytes (request.Get key) = short_bytes key
fields_bytes (request.Put key value) = short_bytes key ++ value_bytes value
fields_bytes (request.Delete key) = short_bytes key
fields_bytes (request.Decide direction xid) = direction_bytes direction ++ bytes_of xid
fields_bytes (request.Doom xid) = bytes_of xid
fields_bytes request.Restart = []
fields_bytes (request.Timeout seconds) = to_be_bytes w32 seconds
fields_bytes (request.Tick moment) = to_be_bytes w64 moment
fields_bytes request.Trim = []
fields_bytes (request.Branches count after) = to_be_bytes w32 count ++ cursor_bytes after

-- the version, the operation, the fields
abbrev pub bytes_of_request : Request → List ℕ
bytes_of_request r = 1 ∷ operation (call_of r) ∷ fields_bytes r

abbrev pub detail_byte : Detail → ℕ
detail_byte detail.Nothing = 0
detail_byte detail.Memory = 1
detail_byte detail.Device = 2
detail_byte detail.Busy = 3
detail_byte detail.Late = 4
detail_byte detail.Limit = 5
detail_byte detail.Frame = 6
detail_byte detail.LogFull = 7
detail_byte detail.Access = 8

abbrev pub details : List Detail
details =
    detail.Nothing ∷ detail.Memory ∷ detail.Device ∷ detail.Busy ∷ detail.Late ∷ detail.Limit ∷ detail.Frame
    ∷ detail.LogFull ∷ detail.Access ∷ []

-- the detail with this number
abbrev pub detail_numbered : ℕ → Option Detail
detail_numbered n = find (λ d. detail_byte d == n) details

abbrev pub detail_bytes : Detail → List ℕ
detail_bytes d = detail_byte d ∷ []

-- Known branches

abbrev pub state_byte : BranchState → ℕ
state_byte state.Working = 1
state_byte state.Prepared = 2
state_byte state.Committed = 3
state_byte state.RolledBack = 4

abbrev pub states : List BranchState
states = state.Working ∷ state.Prepared ∷ state.Committed ∷ state.RolledBack ∷ []

-- the state with this number
abbrev pub state_numbered : ℕ → Option BranchState
state_numbered n = find (λ s. state_byte s == n) states

abbrev pub state_bytes : BranchState → List ℕ
state_bytes s = state_byte s ∷ []

abbrev pub counts_bytes : AssociationCounts → List ℕ
counts_bytes counts =
    to_be_bytes w16 counts.active ++ (to_be_bytes w16 counts.suspended ++ to_be_bytes w16 counts.loose)

abbrev pub branch_bytes : KnownBranch → List ℕ
branch_bytes b =
    bytes_of b.xid
    ++ (state_bytes b.state
    ++ (code_bytes b.mark ++ (to_be_bytes w64 b.timestamp ++ counts_bytes b.associations)))

-- ten numbers of eight bytes
abbrev pub status_bytes : Status → List ℕ
status_bytes s =
    to_be_bytes w64 s.boot
    ++ (to_be_bytes w64 s.end
    ++ (to_be_bytes w64 s.bytes
    ++ (to_be_bytes w64 s.branches
    ++ (to_be_bytes w64 s.prepared
    ++ (to_be_bytes w64 s.completed
    ++ (to_be_bytes w64 s.sessions
    ++ (to_be_bytes w64 s.versions ++ (to_be_bytes w64 s.calls ++ to_be_bytes w64 s.seconds))))))))

-- the kind, and what is carried
abbrev pub body_bytes : Body → List ℕ
body_bytes body.Nothing = 0 ∷ []
body_bytes (body.Number number) = 1 ∷ to_be_bytes w64 number
body_bytes (body.Value value) = 2 ∷ value_bytes value
body_bytes body.Absent = 3 ∷ []
body_bytes (body.Xids xids) = 4 ∷ counted_bytes bytes_of xids
body_bytes (body.Branches branches) = 5 ∷ counted_bytes branch_bytes branches
body_bytes (body.Status status) = 6 ∷ status_bytes status

-- the version, the code, the detail, the place, the body
abbrev pub bytes_of_reply : Reply → List ℕ
bytes_of_reply r =
    1 ∷ (code_bytes r.code ++ (detail_bytes r.detail ++ (to_be_bytes w64 r.place ++ body_bytes r.body)))

-- these bytes are the content of this value, which is within the limits
pub record Spells {A : Type 0} (IsLimited Fits : A → Type 0) (spell : A → List ℕ) (bytes : List ℕ) (x : A) : Type 0 where
  pub limits : IsLimited x
  pub holds : Fits x
  pub bytes_are : bytes ≡ spell x

abbrev pub SpellsRequest : List ℕ → Request → Type 0
SpellsRequest = Spells IsRequest Holds bytes_of_request

abbrev pub SpellsReply : List ℕ → Reply → Type 0
SpellsReply = Spells IsReply HoldsReply bytes_of_reply
