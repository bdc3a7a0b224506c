-- Which fault a content has: it is read from left to right, and the first fault counts.
use Rattle.std.specs.Prelude.{ℕ, zero, suc, List, [], ◌∷◌, length, take, drop, Option, Some, None, Result, Ok, Err, nat_lt, ◌==◌, ◌||◌, if◌then◌else◌}
use Rattle.std.specs.Int.{w16, from_be_bytes}
use Rattle.xa_codes.specs.declared.call.Call.{Call}
use Rattle.xa_codes.specs.declared.call.Call.TheVariants as call
use Rattle.xa_limits.specs.declared.TheConstants.{MOST_CONTENT, MOST_KEY, MOST_VALUE, MOST_XIDS}
use Rattle.xa_xid.specs.Triple.{Triple}
use Rattle.xa_xid.specs.Reading.{xid_at}
use Rattle.xa_frame.specs.declared.fault.FrameFault.{FrameFault}
use Rattle.xa_frame.specs.declared.fault.FrameFault.TheVariants.{Short, Long, Version, Operation, Field, Trailing}
use Rattle.xa_frame.specs.Spelling.{numbered, detail_numbered, state_numbered}

-- What stands after a field, or the field's fault.
abbrev pub After : Type 0
After = List ℕ → Result (List ℕ) FrameFault

-- this many bytes
abbrev pub after_bytes : ℕ → After
after_bytes n bytes = if nat_lt (length bytes) n then Err Short else Ok (drop n bytes)

-- a length of one byte, and that many bytes
abbrev pub after_info : After
after_info [] = Err Short
after_info (n ∷ rest) = after_bytes n rest

-- the same, with 1 to MOST_KEY bytes
abbrev pub after_key : After
after_key [] = Err Short
after_key (n ∷ rest) = if (n == 0) || nat_lt MOST_KEY n then Err Field else after_bytes n rest

-- a length of two bytes, at most MOST_VALUE, and that many bytes
abbrev pub after_value : After
after_value bytes =
    if nat_lt (length bytes) 2 then Err Short
    else if nat_lt MOST_VALUE (from_be_bytes w16 (take 2 bytes)) then Err Field
    else after_bytes (from_be_bytes w16 (take 2 bytes)) (drop 2 bytes)

-- one byte, 1 or 2
abbrev pub after_direction : After
after_direction [] = Err Short
after_direction (b ∷ rest) = if (b == 1) || (b == 2) then Ok rest else Err Field

abbrev pub if_some : {A : Type 0} → Option A → List ℕ → Result (List ℕ) FrameFault
if_some None rest = Err Field
if_some (Some x) rest = Ok rest

-- one byte, a number that stands for something
abbrev pub after_number : {A : Type 0} → (ℕ → Option A) → After
after_number numbered [] = Err Short
after_number numbered (b ∷ rest) = if_some (numbered b) rest

abbrev pub after_detail : After
after_detail = after_number detail_numbered

abbrev pub behind : List ℕ → Option (Triple × ℕ) → Result (List ℕ) FrameFault
behind bytes None = Err Field
behind bytes (Some x) = Ok (drop x.1 bytes)

abbrev pub after_xid : After
after_xid bytes = behind bytes (xid_at bytes)

abbrev pub and_then : Result (List ℕ) FrameFault → After → Result (List ℕ) FrameFault
and_then (Ok rest) f = f rest
and_then (Err e) f = Err e

-- one field, and another
abbrev pub after_both : After → After → After
after_both first second bytes = and_then (first bytes) second

-- 0, or 1 and an XID
abbrev pub after_cursor : After
after_cursor [] = Err Short
after_cursor (b ∷ rest) = if b == 0 then Ok rest else if b == 1 then after_xid rest else Err Field

abbrev pub after_state : After
after_state = after_number state_numbered

-- three counts
abbrev pub after_counts : After
after_counts = after_both (after_bytes 2) (after_both (after_bytes 2) (after_bytes 2))

-- a known branch: XID, state, mark, timestamp, counts
abbrev pub after_branch : After
after_branch =
    after_both after_xid (after_both after_state (after_both (after_bytes 4) (after_both (after_bytes 8) after_counts)))

-- this many of them
abbrev pub after_each : After → ℕ → After
after_each after zero bytes = Ok bytes
after_each after (suc n) bytes = and_then (after bytes) (after_each after n)

-- a count of two bytes, at most MOST_XIDS, and that many of them
abbrev pub after_counted : After → After
after_counted after bytes =
    if nat_lt (length bytes) 2 then Err Short
    else if nat_lt MOST_XIDS (from_be_bytes w16 (take 2 bytes)) then Err Field
    else after_each after (from_be_bytes w16 (take 2 bytes)) (drop 2 bytes)

-- a kind of 0 to 6, and what it carries
abbrev pub after_body : After
after_body [] = Err Short
after_body (kind ∷ rest) =
    if kind == 0 then Ok rest
    else if kind == 1 then after_bytes 8 rest
    else if kind == 2 then after_value rest
    else if kind == 3 then Ok rest
    else if kind == 4 then after_counted after_xid rest
    else if kind == 5 then after_counted after_branch rest
    else if kind == 6 then after_bytes 80 rest
    else Err Field

abbrev pub go_on : Result (List ℕ) FrameFault → (List ℕ → Option FrameFault) → Option FrameFault
go_on (Ok rest) f = f rest
go_on (Err e) f = Some e

-- the first fault of these fields, of which nothing stands after the last
abbrev pub fault_in : List After → List ℕ → Option FrameFault
fault_in [] bytes = if length bytes == 0 then None else Some Trailing
fault_in (after ∷ others) bytes = go_on (after bytes) (fault_in others)

-- the fields of each operation
abbrev pub fields : Call → List After
fields call.Open = after_bytes 4 ∷ after_info ∷ []
fields call.Close = after_bytes 4 ∷ []
fields call.Start = after_bytes 4 ∷ after_xid ∷ []
fields call.End = after_bytes 4 ∷ after_xid ∷ []
fields call.Prepare = after_bytes 4 ∷ after_xid ∷ []
fields call.Commit = after_bytes 4 ∷ after_xid ∷ []
fields call.Rollback = after_bytes 4 ∷ after_xid ∷ []
fields call.Recover = after_bytes 4 ∷ after_bytes 4 ∷ []
fields call.Forget = after_bytes 4 ∷ after_xid ∷ []
fields call.Get = after_key ∷ []
fields call.Put = after_key ∷ after_value ∷ []
fields call.Delete = after_key ∷ []
fields call.Decide = after_direction ∷ after_xid ∷ []
fields call.Doom = after_xid ∷ []
fields call.Restart = []
fields call.Timeout = after_bytes 4 ∷ []
fields call.Tick = after_bytes 8 ∷ []
fields call.Trim = []
fields call.Branches = after_bytes 4 ∷ after_cursor ∷ []

abbrev pub fault_of_fields : Option Call → List ℕ → Option FrameFault
fault_of_fields None bytes = Some Operation
fault_of_fields (Some c) bytes = fault_in (fields c) bytes

abbrev pub fault_of_operation : List ℕ → Option FrameFault
fault_of_operation [] = Some Short
fault_of_operation (n ∷ bytes) = fault_of_fields (numbered n) bytes

-- the version is 1, and something of this sort stands after it
abbrev pub fault_behind_version : (List ℕ → Option FrameFault) → List ℕ → Option FrameFault
fault_behind_version f [] = Some Short
fault_behind_version f (version ∷ bytes) = if version == 1 then f bytes else Some Version

abbrev pub fault_unless_long : (List ℕ → Option FrameFault) → List ℕ → Option FrameFault
fault_unless_long f bytes = if nat_lt MOST_CONTENT (length bytes) then Some Long else fault_behind_version f bytes

-- the fault of a request's content, or none
abbrev pub fault_of_request : List ℕ → Option FrameFault
fault_of_request bytes = fault_unless_long fault_of_operation bytes

-- the fault of a reply's content, or none: code, detail, place, body
abbrev pub fault_of_reply : List ℕ → Option FrameFault
fault_of_reply bytes =
    fault_unless_long (fault_in (after_bytes 4 ∷ after_detail ∷ after_bytes 8 ∷ after_body ∷ [])) bytes
