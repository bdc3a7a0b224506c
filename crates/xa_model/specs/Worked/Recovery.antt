-- Worked rows of branches in doubt: what recovery lists, what restarts find, and what the operator decides.
use Rattle.std.specs.Prelude.{◌+◌, List, [], ◌∷◌, ◌++◌}
use Rattle.xa_codes.specs.declared.codes.TheConstants.{XAER_INVAL, XAER_NOTA, XAER_RMERR, XAER_RMFAIL, XA_RDONLY}
use Rattle.xa_codes.specs.declared.codes.TheConstants.{XA_RETRY, XA_RBOTHER, XA_HEURCOM}
use Rattle.xa_codes.specs.declared.detail.Detail.TheVariants as detail
use Rattle.xa_codes.specs.declared.direction.Direction.TheVariants as direction
use Rattle.xa_codes.specs.declared.flags.TheConstants.{TMNOFLAGS, TMSTARTRSCAN, TMENDRSCAN}
use Rattle.xa_xid.specs.Triple.{Triple}
use Rattle.xa_frame.specs.declared.request.Request.TheVariants.{Put}
use Rattle.xa_model.specs.Answer.{plain, detailed}
use Rattle.xa_model.specs.History.{Entry}
use Rattle.xa_model.specs.Recovering.{listing}
use Rattle.xa_model.specs.Worked.{byte, done, number}
use Rattle.xa_model.specs.Worked.Log.{xid_1}
use Rattle.xa_model.specs.Worked.Scripts.{Replied, new_manager, xid_a, xid_b, xid_c, time, found, not_there, kept}
use Rattle.xa_model.specs.Worked.Scripts.{refused, lost, asks_by, session, two_sessions, begins, writes, ends, prepares}
use Rattle.xa_model.specs.Worked.Scripts.{commits, completes, rolls_back, decides, forgets, gets, puts, recovers}
use Rattle.xa_model.specs.Worked.Scripts.{restarts}

-- session 1 puts 76 at 6b for 1:aa:bb, and leaves it
abbrev pub written : List Entry
written = session 1 ++ begins 1 xid_1 (time 1) ∷ puts 1 0x76 done ∷ ends 1 xid_1 done ∷ []

-- and it is prepared
abbrev pub in_doubt : List Entry
in_doubt = written ++ kept (prepares 1 xid_1 done) ∷ []

-- a whole scan lists these
abbrev pub lists : List Triple → Entry
lists xids = recovers 1 (TMSTARTRSCAN + TMENDRSCAN) 10 (listing xids)

-- a branch in doubt is recovered until it is committed, also after a restart
abbrev pub Recovered : Type 0
Recovered =
    Replied new_manager (
    in_doubt
    ++ lists (xid_1 ∷ []) ∷ restarts 1 0 done ∷ lists (xid_1 ∷ []) ∷ kept (completes 1 xid_1 done) ∷ lists [] ∷ [])

-- a branch that wrote nothing is never in doubt
abbrev pub PreparedWithoutWrites : Type 0
PreparedWithoutWrites =
    Replied new_manager (
    session 1
    ++ begins 1 xid_a (time 1)
    ∷ ends 1 xid_a done
    ∷ prepares 1 xid_a (plain XA_RDONLY)
    ∷ completes 1 xid_a (plain XAER_NOTA)
    ∷ lists []
    ∷ [])

-- after a restart timestamps are those of the next boot, and what was read before it is no part of it
abbrev pub NextBoot : Type 0
NextBoot =
    Replied new_manager (
    session 1
    ++ begins 1 xid_a (time 1)
    ∷ gets 1 not_there
    ∷ ends 1 xid_a done
    ∷ prepares 1 xid_a (plain XA_RDONLY)
    ∷ restarts 1 0 done
    ∷ begins 1 xid_b (number 8589934593)
    ∷ puts 1 0x76 done
    ∷ ends 1 xid_b done
    ∷ kept (commits 1 xid_b done)
    ∷ [])

-- a commit whose record was lost leaves a manager that is down, until a
-- restart finds the record: the branch is committed
abbrev pub LostAndFound : Type 0
LostAndFound =
    Replied new_manager (
    in_doubt
    ++ lost (completes 1 xid_1 (detailed XAER_RMFAIL detail.Device))
    ∷ gets 1 (plain XAER_RMFAIL)
    ∷ restarts 1 1 done
    ∷ lists []
    ∷ begins 1 xid_c (number 8589934593)
    ∷ gets 1 (found 0x76)
    ∷ [])

-- or doesn't: the branch is in doubt, and committed then
abbrev pub LostAndGone : Type 0
LostAndGone =
    Replied new_manager (
    in_doubt
    ++ lost (completes 1 xid_1 (detailed XAER_RMFAIL detail.Device))
    ∷ gets 1 (plain XAER_RMFAIL)
    ∷ restarts 1 0 done
    ∷ lists (xid_1 ∷ [])
    ∷ kept (completes 1 xid_1 done)
    ∷ [])

-- what the operator did is answered, and recovered, until it is forgotten
abbrev pub Heuristics : Type 0
Heuristics =
    Replied new_manager (
    in_doubt
    ++ kept (decides 1 direction.Commit xid_1 done)
    ∷ completes 1 xid_1 (plain XA_HEURCOM)
    ∷ rolls_back 1 xid_1 (plain XA_HEURCOM)
    ∷ lists (xid_1 ∷ [])
    ∷ kept (forgets 1 xid_1 done)
    ∷ forgets 1 xid_1 (plain XAER_NOTA)
    ∷ lists []
    ∷ [])

-- 1:aa: and 1:bb: are prepared, each with a write of its own key
abbrev pub two_in_doubt : List Entry
two_in_doubt =
    two_sessions
    ++ writes 1 xid_a 1 0x76
    ++ begins 1 xid_b (time 2)
    ∷ asks_by 1 (Put (byte 0x6c) (byte 0x76)) done
    ∷ ends 1 xid_b done
    ∷ kept (prepares 1 xid_a done)
    ∷ kept (prepares 1 xid_b done)
    ∷ []

-- a scan goes on above what it listed, whatever is completed meanwhile, until
-- it is ended; none lists more than 256 at once
abbrev pub Scans : Type 0
Scans =
    Replied new_manager (
    two_in_doubt
    ++ recovers 1 TMSTARTRSCAN 1 (listing (xid_a ∷ []))
    ∷ kept (completes 2 xid_a done)
    ∷ recovers 2 TMNOFLAGS 1 (plain XAER_INVAL)
    ∷ recovers 1 TMNOFLAGS 1 (listing (xid_b ∷ []))
    ∷ recovers 1 TMENDRSCAN 1 (listing [])
    ∷ recovers 1 TMNOFLAGS 1 (plain XAER_INVAL)
    ∷ recovers 1 TMSTARTRSCAN 0 (listing [])
    ∷ recovers 1 TMSTARTRSCAN 257 (plain XAER_INVAL)
    ∷ recovers 1 TMNOFLAGS 256 (listing (xid_b ∷ []))
    ∷ [])

-- a branch is prepared if its record leaves just the room to complete and
-- to forget it, otherwise it is rolled back, and gone
abbrev pub JustRoom : Type 0
JustRoom = Replied (record new_manager { log_bytes = 457 }) in_doubt

abbrev pub NoRoom : Type 0
NoRoom =
    Replied (record new_manager { log_bytes = 456 })
    (written ++ prepares 1 xid_1 (detailed XA_RBOTHER detail.LogFull) ∷ rolls_back 1 xid_1 (plain XAER_NOTA) ∷ [])

-- a call whose record is refused may be asked again, except for a commit in one phase, whose branch is gone
abbrev pub Refusals : Type 0
Refusals =
    Replied new_manager (
    written
    ++ refused (prepares 1 xid_1 (detailed XAER_RMERR detail.Device))
    ∷ kept (prepares 1 xid_1 done)
    ∷ refused (rolls_back 1 xid_1 (detailed XAER_RMERR detail.Device))
    ∷ refused (completes 1 xid_1 (detailed XA_RETRY detail.Device))
    ∷ kept (completes 1 xid_1 done)
    ∷ writes 1 xid_a 2 0x77
    ++ refused (commits 1 xid_a (detailed XAER_RMERR detail.Device))
    ∷ commits 1 xid_a (plain XAER_NOTA)
    ∷ [])

-- what was committed is no longer listed, also after a restart, until its XID is prepared again: a prepare whose record
-- was lost may be found
abbrev pub PreparedAgain : Type 0
PreparedAgain =
    Replied new_manager (
    in_doubt
    ++ kept (completes 1 xid_1 done)
    ∷ restarts 1 0 done
    ∷ lists []
    ∷ begins 1 xid_1 (number 8589934593)
    ∷ puts 1 0x77 done
    ∷ ends 1 xid_1 done
    ∷ lists []
    ∷ lost (prepares 1 xid_1 (detailed XAER_RMFAIL detail.Device))
    ∷ restarts 1 1 done
    ∷ lists (xid_1 ∷ [])
    ∷ kept (rolls_back 1 xid_1 done)
    ∷ lists []
    ∷ [])
