-- Worked contents: the numbers in them, how some requests and replies are spelled, and which fault some bytes have.
use Rattle.std.specs.Prelude.{◌≡◌, ℕ, pos, negsuc, List, [], ◌∷◌, ◌++◌, map, take, Some, None}
use Rattle.xa_codes.specs.declared.call.Call.TheVariants as call
use Rattle.xa_codes.specs.declared.detail.Detail.TheVariants as detail
use Rattle.xa_codes.specs.declared.direction.Direction.TheVariants as direction
use Rattle.xa_xid.specs.Triple.{Triple}
use Rattle.xa_fields.specs.Spelling.{direction_byte}
use Rattle.xa_frame.specs.declared.request.Request.TheVariants.{Start, Timeout, Tick, Trim, Branches}
use Rattle.xa_frame.specs.declared.body.Body.TheVariants as body
use Rattle.xa_frame.specs.declared.known_branch.BranchState.TheVariants as state
use Rattle.xa_frame.specs.declared.known_branch.KnownBranch.{KnownBranch}
use Rattle.xa_frame.specs.declared.reply.Reply.{Reply}
use Rattle.xa_frame.specs.declared.status.Status.{Status}
use Rattle.xa_frame.specs.declared.fault.FrameFault.TheVariants.{Short, Version, Operation, Field, Trailing}
use Rattle.xa_frame.specs.Spelling.{operation, numbered, detail_byte, detail_numbered, state_byte, state_numbered}
use Rattle.xa_frame.specs.Spelling.{bytes_of_request, bytes_of_reply}
use Rattle.xa_frame.specs.Faults.{fault_of_request, fault_of_reply}
use Rattle.xa_frame.specs.Made.{bad_frame, doing}
use Rattle.xa_frame.specs.Questions.{fault_of_question}

-- the numbers of the operations, the details, the directions and the states, and numbers that none has
abbrev pub HasNumbers : Type 0
HasNumbers =
    (map operation
    (call.Open ∷ call.Close ∷ call.Start ∷ call.End ∷ call.Prepare ∷ call.Commit ∷ call.Rollback ∷ call.Recover ∷ [])
    ≡ 1 ∷ 2 ∷ 3 ∷ 4 ∷ 5 ∷ 6 ∷ 7 ∷ 8 ∷ [])
    × (map operation
    (call.Forget ∷ call.Get ∷ call.Put ∷ call.Delete ∷ call.Decide ∷ call.Doom ∷ call.Restart ∷ call.Timeout ∷ call.Tick
    ∷ call.Trim ∷ call.Branches ∷ [])
    ≡ 9 ∷ 10 ∷ 11 ∷ 12 ∷ 13 ∷ 14 ∷ 15 ∷ 16 ∷ 17 ∷ 65 ∷ 66 ∷ [])
    × (map numbered (0 ∷ 1 ∷ 17 ∷ 18 ∷ 64 ∷ 65 ∷ 66 ∷ 67 ∷ [])
    ≡ None ∷ Some call.Open ∷ Some call.Tick ∷ None ∷ None ∷ Some call.Trim ∷ Some call.Branches ∷ None ∷ [])
    × (map detail_byte
    (detail.Nothing ∷ detail.Memory ∷ detail.Device ∷ detail.Busy ∷ detail.Late ∷ detail.Limit ∷ detail.Frame
    ∷ detail.LogFull ∷ detail.Access ∷ [])
    ≡ 0 ∷ 1 ∷ 2 ∷ 3 ∷ 4 ∷ 5 ∷ 6 ∷ 7 ∷ 8 ∷ [])
    × (map detail_numbered (0 ∷ 8 ∷ 9 ∷ []) ≡ Some detail.Nothing ∷ Some detail.Access ∷ None ∷ [])
    × (map direction_byte (direction.Commit ∷ direction.Rollback ∷ []) ≡ 1 ∷ 2 ∷ [])
    × (map state_byte (state.Working ∷ state.Prepared ∷ state.Committed ∷ state.RolledBack ∷ []) ≡ 1 ∷ 2 ∷ 3 ∷ 4 ∷ [])
    × (map state_numbered (0 ∷ 1 ∷ 4 ∷ 5 ∷ []) ≡ None ∷ Some state.Working ∷ Some state.RolledBack ∷ None ∷ [])

-- 1:aa:bb
abbrev pub branch : Triple
branch = record { format = pos 1; gtrid = 170 ∷ []; bqual = 187 ∷ [] }

-- the branch began, with timestamp 4,294,967,297, at place 3
abbrev pub begun : Reply
begun = record { code = pos 0; detail = detail.Nothing; place = 3; body = body.Number 4294967297 }

-- 1:aa:bb is at work, with mark 101, timestamp 4,294,967,297, one active association and two loose ones; the operator
-- rolled -2:aa: back
abbrev pub known : List KnownBranch
known =
    record {
      xid = branch;
      state = state.Working;
      mark = pos 101;
      timestamp = 4294967297;
      associations = record { active = 1; suspended = 0; loose = 2 };
    }
    ∷ record {
      xid = record { format = negsuc 1; gtrid = 170 ∷ []; bqual = [] };
      state = state.RolledBack;
      mark = pos 0;
      timestamp = 0;
      associations = record { active = 0; suspended = 0; loose = 0 };
    }
    ∷ []

abbrev pub listed : Reply
listed = record { code = pos 0; detail = detail.Nothing; place = 3; body = body.Branches known }

abbrev pub start_bytes : List ℕ
start_bytes = 1 ∷ 3 ∷ 0 ∷ 0 ∷ 0 ∷ 0 ∷ 0 ∷ 0 ∷ 0 ∷ 1 ∷ 1 ∷ 1 ∷ 170 ∷ 187 ∷ []

abbrev pub begun_bytes : List ℕ
begun_bytes = 1 ∷ 0 ∷ 0 ∷ 0 ∷ 0 ∷ 0 ∷ 0 ∷ 0 ∷ 0 ∷ 0 ∷ 0 ∷ 0 ∷ 0 ∷ 3 ∷ 1 ∷ 0 ∷ 0 ∷ 0 ∷ 1 ∷ 0 ∷ 0 ∷ 0 ∷ 1 ∷ []

-- up to the kind of the body
abbrev pub front_bytes : List ℕ
front_bytes = 1 ∷ 0 ∷ 0 ∷ 0 ∷ 0 ∷ 0 ∷ 0 ∷ 0 ∷ 0 ∷ 0 ∷ 0 ∷ 0 ∷ 0 ∷ 3 ∷ []

-- the first of them
abbrev pub working_bytes : List ℕ
working_bytes =
    0 ∷ 0 ∷ 0 ∷ 1 ∷ 1 ∷ 1 ∷ 170 ∷ 187 ∷ 1 ∷ 0 ∷ 0 ∷ 0 ∷ 101 ∷ 0 ∷ 0 ∷ 0 ∷ 1 ∷ 0 ∷ 0 ∷ 0 ∷ 1 ∷ 0 ∷ 1 ∷ 0 ∷ 0 ∷ 0
    ∷ 2 ∷ []

-- the second
abbrev pub rolled_back_bytes : List ℕ
rolled_back_bytes =
    255 ∷ 255 ∷ 255 ∷ 254 ∷ 1 ∷ 0 ∷ 170 ∷ 4 ∷ 0 ∷ 0 ∷ 0 ∷ 0 ∷ 0 ∷ 0 ∷ 0 ∷ 0 ∷ 0 ∷ 0 ∷ 0 ∷ 0 ∷ 0 ∷ 0 ∷ 0 ∷ 0 ∷ 0
    ∷ 0 ∷ []

abbrev pub listed_bytes : List ℕ
listed_bytes = front_bytes ++ 5 ∷ 0 ∷ 2 ∷ working_bytes ++ rolled_back_bytes

abbrev pub bad_frame_bytes : List ℕ
bad_frame_bytes = 1 ∷ 255 ∷ 255 ∷ 255 ∷ 251 ∷ 6 ∷ 0 ∷ 0 ∷ 0 ∷ 0 ∷ 0 ∷ 0 ∷ 0 ∷ 0 ∷ 0 ∷ []

-- boot 3, a log of 4,711 of 1,073,741,824 bytes, 2 branches of which 1 is prepared and none completed, 4 sessions, 1,000
-- versions, 123 calls, up for a day
abbrev pub day : Status
day = record {
  boot = 3;
  end = 4711;
  bytes = 1073741824;
  branches = 2;
  prepared = 1;
  completed = 0;
  sessions = 4;
  versions = 1000;
  calls = 123;
  seconds = 86400;
}

abbrev pub day_bytes : List ℕ
day_bytes =
    1 ∷ 0 ∷ 0 ∷ 0 ∷ 0 ∷ 0 ∷ 0 ∷ 0 ∷ 0 ∷ 0 ∷ 0 ∷ 0 ∷ 0 ∷ 0 ∷ 6 ∷ 0 ∷ 0 ∷ 0 ∷ 0 ∷ 0 ∷ 0 ∷ 0 ∷ 3 ∷ 0 ∷ 0 ∷ 0 ∷ 0 ∷ 0 ∷ 0
    ∷ 18 ∷ 103 ∷ 0 ∷ 0 ∷ 0 ∷ 0 ∷ 64 ∷ 0 ∷ 0 ∷ 0 ∷ 0 ∷ 0 ∷ 0 ∷ 0 ∷ 0 ∷ 0 ∷ 0 ∷ 2 ∷ 0 ∷ 0 ∷ 0 ∷ 0 ∷ 0 ∷ 0 ∷ 0 ∷ 1 ∷ 0 ∷ 0
    ∷ 0 ∷ 0 ∷ 0 ∷ 0 ∷ 0 ∷ 0 ∷ 0 ∷ 0 ∷ 0 ∷ 0 ∷ 0 ∷ 0 ∷ 0 ∷ 4 ∷ 0 ∷ 0 ∷ 0 ∷ 0 ∷ 0 ∷ 0 ∷ 3 ∷ 232 ∷ 0 ∷ 0 ∷ 0 ∷ 0 ∷ 0 ∷ 0
    ∷ 0 ∷ 123 ∷ 0 ∷ 0 ∷ 0 ∷ 0 ∷ 0 ∷ 1 ∷ 81 ∷ 128 ∷ []

abbrev pub SpelledSo : Type 0
SpelledSo =
    (bytes_of_request (Start 0 branch) ≡ start_bytes)
    -- a limit of 10 seconds, and the moment 4,294,967,297
    × (bytes_of_request (Timeout 10) ≡ 1 ∷ 16 ∷ 0 ∷ 0 ∷ 0 ∷ 10 ∷ [])
    × (bytes_of_request (Tick 4294967297) ≡ 1 ∷ 17 ∷ 0 ∷ 0 ∷ 0 ∷ 1 ∷ 0 ∷ 0 ∷ 0 ∷ 1 ∷ [])
    × (bytes_of_request Trim ≡ 1 ∷ 65 ∷ [])
    -- 256 of all branches, and one above 1:aa:bb
    × (bytes_of_request (Branches 256 None) ≡ 1 ∷ 66 ∷ 0 ∷ 0 ∷ 1 ∷ 0 ∷ 0 ∷ [])
    × (bytes_of_request (Branches 1 (Some branch))
    ≡ 1 ∷ 66 ∷ 0 ∷ 0 ∷ 0 ∷ 1 ∷ 1 ∷ 0 ∷ 0 ∷ 0 ∷ 1 ∷ 1 ∷ 1 ∷ 170 ∷ 187 ∷ [])
    × (bytes_of_reply begun ≡ begun_bytes)
    × (bytes_of_reply listed ≡ listed_bytes)
    × (bytes_of_reply bad_frame ≡ bad_frame_bytes)
    × (bytes_of_reply (doing day) ≡ day_bytes)

abbrev pub FaultyRequests : Type 0
FaultyRequests =
    (fault_of_request start_bytes ≡ None)
    -- no byte, another version, no operation
    × (fault_of_request [] ≡ Some Short)
    × (fault_of_request (2 ∷ []) ≡ Some Version)
    × (fault_of_request (1 ∷ []) ≡ Some Short)
    -- operations 0, 18, 64, 67 and 255, a byte after a restart, one after a trim
    × (fault_of_request (1 ∷ 0 ∷ []) ≡ Some Operation)
    × (fault_of_request (1 ∷ 18 ∷ []) ≡ Some Operation)
    × (fault_of_request (1 ∷ 64 ∷ []) ≡ Some Operation)
    × (fault_of_request (1 ∷ 67 ∷ []) ≡ Some Operation)
    × (fault_of_request (1 ∷ 255 ∷ []) ≡ Some Operation)
    × (fault_of_request (1 ∷ 15 ∷ 0 ∷ []) ≡ Some Trailing)
    × (fault_of_request (1 ∷ 65 ∷ []) ≡ None)
    × (fault_of_request (1 ∷ 65 ∷ 0 ∷ []) ≡ Some Trailing)
    -- a doom without an XID, a decision with direction 0, and without one
    × (fault_of_request (1 ∷ 14 ∷ []) ≡ Some Field)
    × (fault_of_request (1 ∷ 13 ∷ 0 ∷ []) ≡ Some Field)
    × (fault_of_request (1 ∷ 13 ∷ []) ≡ Some Short)
    -- a key of no bytes, one of 65 that are cut, one that is cut
    × (fault_of_request (1 ∷ 10 ∷ 0 ∷ []) ≡ Some Field)
    × (fault_of_request (1 ∷ 10 ∷ 65 ∷ []) ≡ Some Field)
    × (fault_of_request (1 ∷ 10 ∷ 2 ∷ 107 ∷ []) ≡ Some Short)
    -- a limit whose seconds are cut, a moment that is cut, and one with a byte after it
    × (fault_of_request (1 ∷ 16 ∷ 0 ∷ 0 ∷ 0 ∷ []) ≡ Some Short)
    × (fault_of_request (1 ∷ 17 ∷ 0 ∷ 0 ∷ 0 ∷ 10 ∷ []) ≡ Some Short)
    × (fault_of_request (1 ∷ 17 ∷ 0 ∷ 0 ∷ 0 ∷ 0 ∷ 0 ∷ 0 ∷ 0 ∷ 10 ∷ 0 ∷ []) ≡ Some Trailing)
    -- of branches: a count that is cut, no word on a cursor, one that is neither, an XID that is cut, and a byte after
    × (fault_of_request (1 ∷ 66 ∷ 0 ∷ 0 ∷ 1 ∷ []) ≡ Some Short)
    × (fault_of_request (1 ∷ 66 ∷ 0 ∷ 0 ∷ 1 ∷ 0 ∷ []) ≡ Some Short)
    × (fault_of_request (1 ∷ 66 ∷ 0 ∷ 0 ∷ 1 ∷ 0 ∷ 2 ∷ []) ≡ Some Field)
    × (fault_of_request (1 ∷ 66 ∷ 0 ∷ 0 ∷ 1 ∷ 0 ∷ 1 ∷ 0 ∷ []) ≡ Some Field)
    × (fault_of_request (1 ∷ 66 ∷ 0 ∷ 0 ∷ 1 ∷ 0 ∷ 0 ∷ 0 ∷ []) ≡ Some Trailing)

abbrev pub FaultyQuestions : Type 0
FaultyQuestions =
    -- for the status, and with a byte after; operations 64, 66 with no field, and 68; no byte, another version, no operation
    (fault_of_question (1 ∷ 67 ∷ []) ≡ None)
    × (fault_of_question (1 ∷ 67 ∷ 0 ∷ []) ≡ Some Trailing)
    × (fault_of_question (1 ∷ 64 ∷ []) ≡ Some Operation)
    × (fault_of_question (1 ∷ 66 ∷ []) ≡ Some Short)
    × (fault_of_question (1 ∷ 68 ∷ []) ≡ Some Operation)
    × (fault_of_question [] ≡ Some Short)
    × (fault_of_question (2 ∷ 67 ∷ []) ≡ Some Version)
    × (fault_of_question (1 ∷ []) ≡ Some Short)

-- the bytes of a list of one known branch, of which this stands after the XID
abbrev pub behind_xid : List ℕ → List ℕ
behind_xid bytes = front_bytes ++ 5 ∷ 0 ∷ 1 ∷ 0 ∷ 0 ∷ 0 ∷ 1 ∷ 1 ∷ 0 ∷ 170 ∷ bytes

abbrev pub FaultyReplies : Type 0
FaultyReplies =
    (fault_of_reply begun_bytes ≡ None)
    × (fault_of_reply listed_bytes ≡ None)
    × (fault_of_reply day_bytes ≡ None)
    -- detail 8, kind 7, 257 XIDs, 257 branches
    × (fault_of_reply (1 ∷ 0 ∷ 0 ∷ 0 ∷ 0 ∷ 9 ∷ []) ≡ Some Field)
    × (fault_of_reply (front_bytes ++ 7 ∷ []) ≡ Some Field)
    × (fault_of_reply (front_bytes ++ 4 ∷ 1 ∷ 1 ∷ []) ≡ Some Field)
    × (fault_of_reply (front_bytes ++ 5 ∷ 1 ∷ 1 ∷ []) ≡ Some Field)
    -- of a known branch: an XID that is cut, no state, states 0 and 5, a mark, a timestamp and a count that are cut, and
    -- a byte after
    × (fault_of_reply (front_bytes ++ 5 ∷ 0 ∷ 1 ∷ 0 ∷ []) ≡ Some Field)
    × (fault_of_reply (behind_xid []) ≡ Some Short)
    × (fault_of_reply (behind_xid (0 ∷ [])) ≡ Some Field)
    × (fault_of_reply (behind_xid (5 ∷ [])) ≡ Some Field)
    × (fault_of_reply (behind_xid (2 ∷ 0 ∷ 0 ∷ 0 ∷ [])) ≡ Some Short)
    × (fault_of_reply (behind_xid (2 ∷ 0 ∷ 0 ∷ 0 ∷ 0 ∷ 0 ∷ 0 ∷ 0 ∷ 0 ∷ 0 ∷ 0 ∷ 0 ∷ [])) ≡ Some Short)
    × (fault_of_reply (front_bytes ++ 5 ∷ 0 ∷ 1 ∷ take 26 working_bytes) ≡ Some Short)
    × (fault_of_reply (listed_bytes ++ 0 ∷ []) ≡ Some Trailing)
    -- a status that is cut, and one with a byte after
    × (fault_of_reply (take 94 day_bytes) ≡ Some Short)
    × (fault_of_reply (day_bytes ++ 0 ∷ []) ≡ Some Trailing)
