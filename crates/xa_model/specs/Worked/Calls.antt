-- Worked rows of several sessions: how they work for branches together, and what marks leave.
use Rattle.std.specs.Prelude.{[], ◌∷◌, ◌++◌}
use Rattle.xa_codes.specs.declared.codes.TheConstants.{XAER_PROTO, XAER_INVAL, XAER_NOTA, XA_RBROLLBACK, XA_RBCOMMFAIL}
use Rattle.xa_codes.specs.declared.codes.TheConstants.{XA_RBOTHER, XA_RBTRANSIENT}
use Rattle.xa_codes.specs.declared.detail.Detail.TheVariants as detail
use Rattle.xa_codes.specs.declared.flags.TheConstants.{TMNOFLAGS}
use Rattle.xa_frame.specs.declared.request.Request.TheVariants.{Open}
use Rattle.xa_model.specs.Answer.{plain, detailed}
use Rattle.xa_model.specs.Worked.{done, number}
use Rattle.xa_model.specs.Worked.Scripts.{Replied, new_manager, xid_a, xid_b, xid_c, time, not_there, connects}
use Rattle.xa_model.specs.Worked.Scripts.{hangs_up, asks_by, opens, closes, session, two_sessions, begins, joins}
use Rattle.xa_model.specs.Worked.Scripts.{resumes, suspends, migrates, ends, fails, commits, rolls_back, dooms, gets}
use Rattle.xa_model.specs.Worked.Scripts.{puts}

-- Associations

-- a session comes, opens and closes the resource manager, and goes
abbrev pub ComesAndGoes : Type 0
ComesAndGoes = Replied new_manager (session 1 ++ closes 1 done ∷ hangs_up 1 ∷ [])

-- what one session releases, another goes on with; what it only suspends, no other may, and it is not closed meanwhile
abbrev pub Migration : Type 0
Migration =
    Replied new_manager (
    two_sessions
    ++ session 3
    ++ begins 1 xid_a (time 1)
    ∷ migrates 1 xid_a done
    ∷ resumes 2 xid_a (time 1)
    ∷ begins 1 xid_b (time 2)
    ∷ suspends 1 xid_b done
    ∷ resumes 3 xid_b (plain XAER_PROTO)
    ∷ closes 1 (plain XAER_PROTO)
    ∷ ends 1 xid_b done
    ∷ closes 1 done
    ∷ [])

-- a session goes on with its own suspended association, and ends its own, before a loose one
abbrev pub OwnBeforeLoose : Type 0
OwnBeforeLoose =
    Replied new_manager (
    two_sessions
    ++ begins 1 xid_a (time 1)
    ∷ joins 2 xid_a (time 1)
    ∷ migrates 2 xid_a done
    ∷ suspends 1 xid_a done
    ∷ resumes 1 xid_a (time 1)
    ∷ ends 1 xid_a done
    ∷ commits 1 xid_a (plain XAER_PROTO)
    ∷ resumes 2 xid_a (time 1)
    ∷ ends 2 xid_a done
    ∷ commits 1 xid_a done
    ∷ [])

-- a loose association is ended by whoever ends it
abbrev pub LooseEnds : Type 0
LooseEnds =
    Replied new_manager (
    two_sessions
    ++ begins 1 xid_a (time 1)
    ∷ migrates 1 xid_a done
    ∷ ends 2 xid_a done
    ∷ ends 1 xid_a (plain XAER_PROTO)
    ∷ commits 2 xid_a done
    ∷ [])

-- a hang-up marks the branch that the session is at work for, and another session's calls are answered with the mark
abbrev pub BrokenConnection : Type 0
BrokenConnection =
    Replied new_manager (
    two_sessions
    ++ begins 1 xid_b (time 1)
    ∷ ends 1 xid_b done
    ∷ begins 1 xid_a (time 2)
    ∷ joins 2 xid_a (time 2)
    ∷ hangs_up 1
    ∷ gets 2 (plain XA_RBCOMMFAIL)
    ∷ ends 2 xid_a (plain XA_RBCOMMFAIL)
    ∷ rolls_back 2 xid_a (plain XA_RBCOMMFAIL)
    ∷ commits 2 xid_b done
    ∷ [])

-- it marks what the session has suspended too, and neither what it released nor what it ended
abbrev pub SuspendedAndBroken : Type 0
SuspendedAndBroken =
    Replied new_manager (
    two_sessions
    ++ begins 1 xid_a (time 1)
    ∷ suspends 1 xid_a done
    ∷ begins 1 xid_b (time 2)
    ∷ migrates 1 xid_b done
    ∷ hangs_up 1
    ∷ resumes 2 xid_a (plain XAER_PROTO)
    ∷ commits 2 xid_a (plain XA_RBCOMMFAIL)
    ∷ resumes 2 xid_b (time 2)
    ∷ ends 2 xid_b done
    ∷ commits 2 xid_b done
    ∷ [])

-- a number is free again after a hang-up, and is not opened when it is given again; who isn't there may be hung up
abbrev pub NumbersAgain : Type 0
NumbersAgain =
    Replied new_manager (
    two_sessions
    ++ session 3
    ++ hangs_up 2
    ∷ hangs_up 2
    ∷ begins 2 xid_a (plain XAER_PROTO)
    ∷ connects (number 2)
    ∷ begins 2 xid_a (plain XAER_PROTO)
    ∷ opens 2 done
    ∷ begins 2 xid_a (time 1)
    ∷ connects (number 4)
    ∷ [])

-- what a session may ask before it is opened, and without a branch
abbrev pub Opening : Type 0
Opening =
    Replied new_manager (
    connects (number 1)
    ∷ begins 1 xid_a (plain XAER_PROTO)
    ∷ asks_by 1 (Open TMNOFLAGS (0x6f ∷ 0x74 ∷ 0x68 ∷ 0x65 ∷ 0x72 ∷ [])) (plain XAER_INVAL)
    ∷ closes 1 done
    ∷ opens 1 done
    ∷ opens 1 done
    ∷ gets 1 (plain XAER_PROTO)
    ∷ opens 2 (plain XAER_PROTO)
    ∷ [])

-- Marks

-- the operator's mark is answered to every call that works for the branch, until it is rolled back; a failed end marks
-- its branch, which a commit then rolls back
abbrev pub Marks : Type 0
Marks =
    Replied new_manager (
    two_sessions
    ++ begins 1 xid_a (time 1)
    ∷ dooms 2 xid_a done
    ∷ puts 1 0x76 (plain XA_RBOTHER)
    ∷ joins 2 xid_a (plain XA_RBOTHER)
    ∷ rolls_back 2 xid_a (plain XAER_PROTO)
    ∷ fails 1 xid_a (plain XA_RBOTHER)
    ∷ rolls_back 2 xid_a (plain XA_RBOTHER)
    ∷ begins 1 xid_b (time 2)
    ∷ fails 1 xid_b (plain XA_RBROLLBACK)
    ∷ commits 1 xid_b (plain XA_RBROLLBACK)
    ∷ commits 1 xid_b (plain XAER_NOTA)
    ∷ [])

-- the first mark stays: of an end, of a late write, of a hang-up, and of the operator
abbrev pub FirstMark : Type 0
FirstMark =
    Replied new_manager (
    two_sessions
    ++ begins 1 xid_a (time 1)
    ∷ fails 1 xid_a (plain XA_RBROLLBACK)
    ∷ dooms 2 xid_a done
    ∷ rolls_back 2 xid_a (plain XA_RBROLLBACK)
    ∷ begins 1 xid_b (time 2)
    ∷ begins 2 xid_c (time 3)
    ∷ gets 2 not_there
    ∷ puts 1 0x76 (detailed XA_RBTRANSIENT detail.Late)
    ∷ hangs_up 1
    ∷ rolls_back 2 xid_b (plain XA_RBTRANSIENT)
    ∷ session 1
    ++ joins 1 xid_c (time 3)
    ∷ hangs_up 1
    ∷ dooms 2 xid_c done
    ∷ ends 2 xid_c (plain XA_RBCOMMFAIL)
    ∷ begins 2 xid_a (time 4)
    ∷ dooms 2 xid_a done
    ∷ hangs_up 2
    ∷ session 1
    ++ rolls_back 1 xid_a (plain XA_RBOTHER)
    ∷ [])
