-- Worked rows: how each of the nineteen calls is refused before its row.
use Rattle.std.specs.Prelude.{ℕ, ℤ, None, Some, List, [], ◌∷◌, ◌++◌, map}
use Rattle.xa_codes.specs.declared.codes.TheConstants.{XAER_ASYNC, XAER_PROTO, XAER_INVAL, XAER_NOTA, XAER_RMFAIL}
use Rattle.xa_codes.specs.declared.direction.Direction.TheVariants as direction
use Rattle.xa_codes.specs.declared.flags.TheConstants.{TMNOFLAGS, TMASYNC, TMMULTIPLE, TMSUCCESS, TMSTARTRSCAN}
use Rattle.xa_frame.specs.declared.request.Request.{Request}
use Rattle.xa_frame.specs.declared.request.Request.TheVariants.{Open, Close, Start, End, Prepare, Commit, Rollback}
use Rattle.xa_frame.specs.declared.request.Request.TheVariants.{Forget, Recover, Get, Put, Delete, Decide, Doom}
use Rattle.xa_frame.specs.declared.request.Request.TheVariants.{Restart, Timeout, Tick, Trim, Branches}
use Rattle.xa_frame.specs.declared.body.Body.TheVariants as body
use Rattle.xa_model.specs.State.{Down}
use Rattle.xa_model.specs.Answer.{plain, carrying}
use Rattle.xa_model.specs.History.{Entry}
use Rattle.xa_model.specs.Recovering.{listing}
use Rattle.xa_model.specs.Worked.{xarm, byte, done, number}
use Rattle.xa_model.specs.Worked.Scripts.{Replied, new_manager, xid_a, connects, asks_by, opens, closes, session}
use Rattle.xa_model.specs.Worked.Scripts.{kept, restarts, ticks, trims, branches}

-- the calls that need an opened session: of branches, of recovery, of keys, and of time limits
abbrev pub of_opened : List Request
of_opened =
    Start TMNOFLAGS xid_a
    ∷ End TMSUCCESS xid_a
    ∷ Prepare TMNOFLAGS xid_a
    ∷ Commit TMNOFLAGS xid_a
    ∷ Rollback TMNOFLAGS xid_a
    ∷ Forget TMNOFLAGS xid_a
    ∷ Recover TMSTARTRSCAN 1
    ∷ Get (byte 0x6b)
    ∷ Put (byte 0x6b) (byte 0x76)
    ∷ Delete (byte 0x6b)
    ∷ Timeout 10
    ∷ []

abbrev pub of_operator : List Request
of_operator = Decide direction.Commit xid_a ∷ Doom xid_a ∷ []

-- the calls that have flags, with these
abbrev pub with_flags : ℕ → List Request
with_flags flags =
    Open flags xarm
    ∷ Close flags
    ∷ Start flags xid_a
    ∷ End flags xid_a
    ∷ Prepare flags xid_a
    ∷ Commit flags xid_a
    ∷ Rollback flags xid_a
    ∷ Forget flags xid_a
    ∷ []

-- session 1 asks each, and is refused with this code
abbrev pub all_refused : ℤ → List Request → List Entry
all_refused code requests = map (λ (request : Request). asks_by 1 request (plain code)) requests

-- no call of a session that isn't connected is served
abbrev pub NotConnected : Type 0
NotConnected =
    Replied new_manager
    (all_refused XAER_PROTO (Open TMNOFLAGS xarm ∷ Close TMNOFLAGS ∷ Restart ∷ Trim ∷ Tick 10 ∷ of_opened)
    ++ all_refused XAER_PROTO (Branches 1 None ∷ [])
    ++ all_refused XAER_PROTO of_operator)

-- for one that isn't opened the operator's calls are served, and Open, Close, Restart, Trim, Tick and Branches
abbrev pub NotOpened : Type 0
NotOpened =
    Replied new_manager (
    connects (number 1)
    ∷ all_refused XAER_PROTO of_opened
    ++ all_refused XAER_NOTA of_operator
    ++ closes 1 done
    ∷ ticks 1 10 (number 0)
    ∷ branches 1 1 None (carrying (body.Branches []))
    ∷ kept (trims 1 (number 49))
    ∷ opens 1 done
    ∷ restarts 1 0 done
    ∷ [])

-- a manager that is down serves Open, Close and Restart, and refuses all else before anything else
abbrev pub IsDown : Type 0
IsDown =
    Replied (record new_manager { standing = Down }) (
    all_refused XAER_RMFAIL of_opened
    ++ all_refused XAER_PROTO (Open TMNOFLAGS xarm ∷ Close TMNOFLAGS ∷ Restart ∷ [])
    ++ session 1
    ++ all_refused XAER_RMFAIL of_opened
    ++ all_refused XAER_RMFAIL (Trim ∷ Tick 10 ∷ Branches 1 None ∷ Branches 0 None ∷ of_operator)
    ++ closes 1 done
    ∷ restarts 1 0 done
    ∷ [])

-- no call has TMMULTIPLE, and none is answered later; Recover has no TMASYNC either
abbrev pub FlagsOfEach : Type 0
FlagsOfEach =
    Replied new_manager (
    session 1
    ++ all_refused XAER_INVAL (Recover TMMULTIPLE 1 ∷ Recover TMASYNC 1 ∷ with_flags TMMULTIPLE)
    ++ all_refused XAER_ASYNC (with_flags TMASYNC)
    ++ closes 1 done
    ∷ [])

-- a recovery lists at most 256, and so do branches, but one at least; whether there are that many makes no difference
abbrev pub CountsOfEach : Type 0
CountsOfEach =
    Replied new_manager (
    session 1
    ++ all_refused XAER_INVAL (Recover TMSTARTRSCAN 257 ∷ Branches 0 None ∷ Branches 0 (Some xid_a) ∷ Branches 257 None ∷ [])
    ++ all_refused XAER_INVAL (Branches 4294967295 (Some xid_a) ∷ [])
    ++ branches 1 256 None (carrying (body.Branches []))
    ∷ branches 1 1 (Some xid_a) (carrying (body.Branches []))
    ∷ asks_by 1 (Recover TMSTARTRSCAN 0) (listing [])
    ∷ [])
