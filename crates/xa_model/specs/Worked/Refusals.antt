-- Worked rows: each refusal before the row of a call, and each of a row of the association table, and what it leaves.
use Rattle.std.specs.Prelude.{◌+◌, List, [], ◌∷◌, ◌++◌}
use Rattle.xa_codes.specs.declared.codes.TheConstants.{XAER_ASYNC, XAER_PROTO, XAER_INVAL, XAER_NOTA, XAER_DUPID}
use Rattle.xa_codes.specs.declared.codes.TheConstants.{XA_RBROLLBACK, XA_RBOTHER}
use Rattle.xa_codes.specs.declared.direction.Direction.TheVariants as direction
use Rattle.xa_codes.specs.declared.flags.TheConstants.{TMASYNC, TMJOIN, TMRESUME, TMSUCCESS, TMFAIL, TMSUSPEND}
use Rattle.xa_codes.specs.declared.flags.TheConstants.{TMMIGRATE, TMONEPHASE, TMNOWAIT, TMNOFLAGS}
use Rattle.xa_xid.specs.Triple.{Triple}
use Rattle.xa_frame.specs.declared.reply.Reply.{Reply}
use Rattle.xa_frame.specs.declared.request.Request.TheVariants.{Open, Close, Start, End, Prepare, Commit, Rollback}
use Rattle.xa_frame.specs.declared.request.Request.TheVariants.{Forget, Recover}
use Rattle.xa_model.specs.State.{State, Prepared}
use Rattle.xa_model.specs.Answer.{plain}
use Rattle.xa_model.specs.History.{Entry}
use Rattle.xa_model.specs.Worked.{xarm, xid, done, number}
use Rattle.xa_model.specs.Worked.Scripts.{Replied, new_manager, xid_a, xid_b, time, connects, asks_by, opens, closes}
use Rattle.xa_model.specs.Worked.Scripts.{session, two_sessions, begins, joins, resumes, suspends, migrates, ends}
use Rattle.xa_model.specs.Worked.Scripts.{fails, rolls_back, dooms, gets}

abbrev pub in_doubt : Triple
in_doubt = xid 0xdd []

abbrev pub was_committed : Triple
was_committed = xid 0xee []

abbrev pub was_rolled_back : Triple
was_rolled_back = xid 0xff []

-- Three branches began; one is in doubt, and the operator committed one and rolled one back. What they did is left out.
abbrev pub settled : State
settled = record new_manager {
  given = 3;
  branches = record { timestamp = 4294967297; operations = []; phase = Prepared in_doubt } ∷ [];
  decided =
      record { xid = was_committed; direction = direction.Commit }
      ∷ record { xid = was_rolled_back; direction = direction.Rollback } ∷ [];
}

-- what is asked of these three, each with this reply
abbrev pub of_settled : (Triple → Reply → Entry) → Reply → List Entry
of_settled asked reply = asked in_doubt reply ∷ asked was_committed reply ∷ asked was_rolled_back reply ∷ []

-- Before the row

-- not connected, not opened, TMASYNC, illegal flags, each before the next
abbrev pub EarlyRefused : Type 0
EarlyRefused =
    Replied new_manager (
    begins 1 xid_a (plain XAER_PROTO)
    ∷ connects (number 1)
    ∷ asks_by 1 (Start TMASYNC xid_a) (plain XAER_PROTO)
    ∷ asks_by 1 (Open TMASYNC xarm) (plain XAER_ASYNC)
    ∷ opens 1 done
    ∷ asks_by 1 (Start (TMASYNC + TMJOIN + TMRESUME) xid_a) (plain XAER_ASYNC)
    ∷ asks_by 1 (End (TMASYNC + TMSUCCESS) xid_a) (plain XAER_ASYNC)
    ∷ asks_by 1 (Commit (TMASYNC + TMONEPHASE) xid_a) (plain XAER_ASYNC)
    ∷ asks_by 1 (Rollback TMASYNC xid_a) (plain XAER_ASYNC)
    ∷ asks_by 1 (Prepare TMASYNC xid_a) (plain XAER_ASYNC)
    ∷ asks_by 1 (Forget TMASYNC xid_a) (plain XAER_ASYNC)
    ∷ asks_by 1 (Close TMASYNC) (plain XAER_ASYNC)
    ∷ asks_by 1 (Close TMNOWAIT) (plain XAER_INVAL)
    ∷ asks_by 1 (Start TMSUSPEND xid_a) (plain XAER_INVAL)
    ∷ asks_by 1 (End (TMSUSPEND + TMFAIL) xid_a) (plain XAER_INVAL)
    ∷ asks_by 1 (End TMMIGRATE xid_a) (plain XAER_INVAL)
    ∷ asks_by 1 (Commit TMFAIL xid_a) (plain XAER_INVAL)
    ∷ asks_by 1 (Rollback TMNOWAIT xid_a) (plain XAER_INVAL)
    ∷ asks_by 1 (Prepare TMONEPHASE xid_a) (plain XAER_INVAL)
    ∷ asks_by 1 (Forget TMFAIL xid_a) (plain XAER_INVAL)
    ∷ asks_by 1 (Recover TMASYNC 1) (plain XAER_INVAL)
    ∷ [])

-- flags that a call may not have
abbrev pub FlagsRefused : Type 0
FlagsRefused =
    Replied new_manager (
    session 1
    ++ asks_by 1 (Start (TMJOIN + TMRESUME) xid_a) (plain XAER_INVAL)
    ∷ asks_by 1 (Start TMASYNC xid_a) (plain XAER_ASYNC)
    ∷ asks_by 1 (End TMNOFLAGS xid_a) (plain XAER_INVAL)
    ∷ asks_by 1 (End (TMSUCCESS + TMMIGRATE) xid_a) (plain XAER_INVAL)
    ∷ asks_by 1 (Recover TMASYNC 1) (plain XAER_INVAL)
    ∷ [])

-- The association table

-- no close with an association of the session's own, active or suspended; a loose one doesn't count
abbrev pub CloseRefused : Type 0
CloseRefused =
    Replied new_manager (
    session 1
    ++ begins 1 xid_a (time 1)
    ∷ closes 1 (plain XAER_PROTO)
    ∷ suspends 1 xid_a done
    ∷ closes 1 (plain XAER_PROTO)
    ∷ resumes 1 xid_a (time 1)
    ∷ migrates 1 xid_a done
    ∷ closes 1 done
    ∷ gets 1 (plain XAER_PROTO)
    ∷ [])

-- no start at work, nor of an XID that is known, at work, in doubt or completed
abbrev pub StartRefused : Type 0
StartRefused =
    Replied settled (
    two_sessions
    ++ begins 1 xid_a (time 4)
    ∷ begins 1 xid_b (plain XAER_PROTO)
    ∷ begins 1 xid_a (plain XAER_PROTO)
    ∷ begins 2 xid_a (plain XAER_DUPID)
    ∷ of_settled (begins 2) (plain XAER_DUPID)
    ++ begins 2 xid_b (time 5)
    ∷ [])

-- no join at work, nor if the session has suspended its work for the branch, nor of a branch that isn't at work; one
-- that is marked is not joined
abbrev pub JoinRefused : Type 0
JoinRefused =
    Replied settled (
    two_sessions
    ++ begins 1 xid_a (time 4)
    ∷ joins 1 xid_a (plain XAER_PROTO)
    ∷ joins 1 xid_b (plain XAER_PROTO)
    ∷ suspends 1 xid_a done
    ∷ joins 1 xid_a (plain XAER_PROTO)
    ∷ joins 2 xid_b (plain XAER_NOTA)
    ∷ of_settled (joins 2) (plain XAER_PROTO)
    ++ dooms 2 xid_a done
    ∷ joins 1 xid_a (plain XAER_PROTO)
    ∷ joins 2 xid_a (plain XA_RBOTHER)
    ∷ closes 2 done
    ∷ [])

-- nothing is resumed at work, nor if nothing is suspended that the session may go on with; what is resumed of a
-- marked branch ends, the session's own or a loose one
abbrev pub ResumeRefused : Type 0
ResumeRefused =
    Replied settled (
    two_sessions
    ++ resumes 1 xid_a (plain XAER_NOTA)
    ∷ begins 1 xid_a (time 4)
    ∷ resumes 1 xid_a (plain XAER_PROTO)
    ∷ resumes 1 xid_b (plain XAER_PROTO)
    ∷ resumes 2 xid_a (plain XAER_PROTO)
    ∷ suspends 1 xid_a done
    ∷ resumes 2 xid_a (plain XAER_PROTO)
    ∷ of_settled (resumes 2) (plain XAER_PROTO)
    ++ dooms 2 xid_a done
    ∷ resumes 2 xid_a (plain XAER_PROTO)
    ∷ resumes 1 xid_a (plain XA_RBOTHER)
    ∷ resumes 1 xid_a (plain XAER_PROTO)
    ∷ rolls_back 2 xid_a (plain XA_RBOTHER)
    ∷ begins 1 xid_b (time 5)
    ∷ migrates 1 xid_b done
    ∷ dooms 1 xid_b done
    ∷ resumes 2 xid_b (plain XA_RBOTHER)
    ∷ resumes 2 xid_b (plain XAER_PROTO)
    ∷ rolls_back 2 xid_b (plain XA_RBOTHER)
    ∷ [])

-- only what the session is at work for is suspended; of a marked branch it ends
abbrev pub SuspendRefused : Type 0
SuspendRefused =
    Replied settled (
    two_sessions
    ++ suspends 1 xid_a (plain XAER_NOTA)
    ∷ begins 1 xid_a (time 4)
    ∷ suspends 1 xid_b (plain XAER_NOTA)
    ∷ suspends 2 xid_a (plain XAER_PROTO)
    ∷ of_settled (suspends 1) (plain XAER_PROTO)
    ++ suspends 1 xid_a done
    ∷ suspends 1 xid_a (plain XAER_PROTO)
    ∷ migrates 1 xid_a (plain XAER_PROTO)
    ∷ resumes 1 xid_a (time 4)
    ∷ dooms 2 xid_a done
    ∷ suspends 1 xid_a (plain XA_RBOTHER)
    ∷ suspends 1 xid_a (plain XAER_PROTO)
    ∷ rolls_back 2 xid_a (plain XA_RBOTHER)
    ∷ begins 1 xid_b (time 5)
    ∷ dooms 2 xid_b done
    ∷ migrates 1 xid_b (plain XA_RBOTHER)
    ∷ resumes 2 xid_b (plain XAER_PROTO)
    ∷ rolls_back 2 xid_b (plain XA_RBOTHER)
    ∷ [])

-- no end without an association; of a marked branch it ends all the same, and TMFAIL marks the branch
abbrev pub EndRefused : Type 0
EndRefused =
    Replied settled (
    two_sessions
    ++ ends 1 xid_a (plain XAER_NOTA)
    ∷ fails 1 xid_a (plain XAER_NOTA)
    ∷ begins 1 xid_a (time 4)
    ∷ ends 2 xid_a (plain XAER_PROTO)
    ∷ fails 2 xid_a (plain XAER_PROTO)
    ∷ ends 1 in_doubt (plain XAER_PROTO)
    ∷ fails 1 was_committed (plain XAER_PROTO)
    ∷ dooms 2 xid_a done
    ∷ ends 1 xid_a (plain XA_RBOTHER)
    ∷ ends 1 xid_a (plain XAER_PROTO)
    ∷ begins 1 xid_b (time 5)
    ∷ fails 1 xid_b (plain XA_RBROLLBACK)
    ∷ fails 1 xid_b (plain XAER_PROTO)
    ∷ joins 2 xid_b (plain XA_RBROLLBACK)
    ∷ rolls_back 2 xid_b (plain XA_RBROLLBACK)
    ∷ [])
