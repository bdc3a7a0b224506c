-- Worked rows of branches that read and write one key.
use Rattle.std.specs.Prelude.{[], ◌∷◌, ◌++◌}
use Rattle.xa_codes.specs.declared.codes.TheConstants.{XAER_NOTA, XA_RETRY, XA_RBTRANSIENT}
use Rattle.xa_codes.specs.declared.detail.Detail.TheVariants as detail
use Rattle.xa_frame.specs.declared.body.Body.TheVariants as body
use Rattle.xa_frame.specs.declared.request.Request.TheVariants.{Put}
use Rattle.xa_model.specs.Answer.{plain, detailed, carrying}
use Rattle.xa_model.specs.Worked.{byte, xid, done}
use Rattle.xa_model.specs.Worked.Scripts.{Replied, new_manager, xid_a, xid_b, xid_c, time, found, not_there, kept}
use Rattle.xa_model.specs.Worked.Scripts.{hangs_up, asks_by, session, two_sessions, two_branches, begins, writes, joins}
use Rattle.xa_model.specs.Worked.Scripts.{ends, commits, prepares, rolls_back, gets, puts, deletes}

-- a write is read back
abbrev pub ReadBack : Type 0
ReadBack =
    Replied new_manager (
    session 1
    ++ writes 1 (xid 0xaa (byte 0xbb)) 1 0x76
    ++ kept (commits 1 (xid 0xaa (byte 0xbb)) done)
    ∷ begins 1 (xid 0xab []) (time 2)
    ∷ gets 1 (found 0x76)
    ∷ [])

-- a version is busy until its branch is committed, and a later branch reads it then
abbrev pub BusyUntilCommitted : Type 0
BusyUntilCommitted =
    Replied new_manager (
    session 1
    ++ writes 1 xid_a 1 0x76
    ++ begins 1 xid_b (time 2)
    ∷ gets 1 (detailed XA_RETRY detail.Busy)
    ∷ ends 1 xid_b done
    ∷ kept (commits 1 xid_a done)
    ∷ begins 1 xid_c (time 3)
    ∷ gets 1 (found 0x76)
    ∷ [])

-- a write that a later branch should have read comes too late: its branch is marked, and rollback-only
abbrev pub LateWrite : Type 0
LateWrite =
    Replied new_manager (
    two_branches
    ++ gets 2 not_there
    ∷ puts 1 0x76 (detailed XA_RBTRANSIENT detail.Late)
    ∷ gets 1 (plain XA_RBTRANSIENT)
    ∷ ends 1 xid_a (plain XA_RBTRANSIENT)
    ∷ rolls_back 1 xid_a (plain XA_RBTRANSIENT)
    ∷ rolls_back 1 xid_a (plain XAER_NOTA)
    ∷ [])

-- so does a late delete, and the read counts though its reader is rolled back
abbrev pub LateDelete : Type 0
LateDelete =
    Replied new_manager (
    two_branches
    ++ gets 2 not_there
    ∷ ends 2 xid_b done
    ∷ rolls_back 2 xid_b done
    ∷ deletes 1 (detailed XA_RBTRANSIENT detail.Late)
    ∷ ends 1 xid_a (plain XA_RBTRANSIENT)
    ∷ commits 1 xid_a (plain XA_RBTRANSIENT)
    ∷ commits 1 xid_a (plain XAER_NOTA)
    ∷ [])

-- a write that nobody should have read is in time, though a later branch's write is committed, and is passed over
abbrev pub BlindWrite : Type 0
BlindWrite =
    Replied new_manager (
    two_sessions
    ++ session 3
    ++ begins 1 xid_a (time 1)
    ∷ writes 2 xid_b 2 0x32
    ++ kept (commits 2 xid_b done)
    ∷ puts 1 0x31 done
    ∷ ends 1 xid_a done
    ∷ kept (commits 1 xid_a done)
    ∷ begins 3 xid_c (time 3)
    ∷ gets 3 (found 0x32)
    ∷ [])

-- an earlier branch's undecided version is busy for a later branch, until it is committed
abbrev pub BusyBelow : Type 0
BusyBelow =
    Replied new_manager (
    two_branches
    ++ puts 1 0x76 done
    ∷ gets 2 (detailed XA_RETRY detail.Busy)
    ∷ ends 1 xid_a done
    ∷ gets 2 (detailed XA_RETRY detail.Busy)
    ∷ kept (commits 1 xid_a done)
    ∷ gets 2 (found 0x76)
    ∷ [])

-- so is what a branch in doubt wrote
abbrev pub BusyInDoubt : Type 0
BusyInDoubt =
    Replied new_manager (
    session 1
    ++ writes 1 xid_b 1 0x76
    ++ kept (prepares 1 xid_b done)
    ∷ begins 1 xid_a (time 2)
    ∷ gets 1 (detailed XA_RETRY detail.Busy)
    ∷ [])

-- sessions that work for one branch read what any of them put last
abbrev pub SharedBranch : Type 0
SharedBranch =
    Replied new_manager (
    two_sessions
    ++ begins 1 xid_a (time 1)
    ∷ puts 1 0x31 done
    ∷ joins 2 xid_a (time 1)
    ∷ gets 2 (found 0x31)
    ∷ puts 2 0x32 done
    ∷ gets 1 (found 0x32)
    ∷ [])

-- a later branch's version is no earlier branch's
abbrev pub NotBusyAbove : Type 0
NotBusyAbove =
    Replied new_manager (
    two_branches
    ++ puts 2 0x76 done
    ∷ gets 1 not_there
    ∷ [])

-- a value of no bytes is a value, and what is deleted is none
abbrev pub Deleted : Type 0
Deleted =
    Replied new_manager (
    session 1
    ++ begins 1 xid_a (time 1)
    ∷ asks_by 1 (Put (byte 0x6b) []) done
    ∷ gets 1 (carrying (body.Value []))
    ∷ deletes 1 done
    ∷ gets 1 not_there
    ∷ [])

-- a delete that is committed is read like a value
abbrev pub DeletedAfterwards : Type 0
DeletedAfterwards =
    Replied new_manager (
    session 1
    ++ writes 1 xid_a 1 0x76
    ++ kept (commits 1 xid_a done)
    ∷ begins 1 xid_b (time 2)
    ∷ gets 1 (found 0x76)
    ∷ deletes 1 done
    ∷ ends 1 xid_b done
    ∷ kept (commits 1 xid_b done)
    ∷ begins 1 xid_c (time 3)
    ∷ gets 1 not_there
    ∷ [])

-- a hang-up doesn't mark a branch that the session has ended; when it is rolled back, its version is read over
abbrev pub ReadOver : Type 0
ReadOver =
    Replied new_manager (
    two_sessions
    ++ writes 1 xid_a 1 0x76
    ++ hangs_up 1
    ∷ rolls_back 2 xid_a done
    ∷ begins 2 xid_b (time 2)
    ∷ gets 2 not_there
    ∷ [])
