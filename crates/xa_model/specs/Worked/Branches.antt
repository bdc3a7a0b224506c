-- Worked rows: each refusal of a row of the branch table and of gets, puts and deletes, and what it leaves.
use Rattle.std.specs.Prelude.{[], ◌∷◌, ◌++◌}
use Rattle.xa_codes.specs.declared.codes.TheConstants.{XAER_PROTO, XAER_NOTA, XA_HEURCOM, XA_HEURRB, XA_RBOTHER}
use Rattle.xa_codes.specs.declared.direction.Direction.TheVariants as direction
use Rattle.xa_model.specs.Answer.{plain}
use Rattle.xa_model.specs.Worked.{done, number}
use Rattle.xa_model.specs.Worked.Scripts.{Replied, new_manager, xid_a, time, connects, session, two_sessions, begins}
use Rattle.xa_model.specs.Worked.Scripts.{resumes, suspends, migrates, ends, commits, completes, prepares, rolls_back}
use Rattle.xa_model.specs.Worked.Scripts.{dooms, decides, forgets, gets, puts, deletes}
use Rattle.xa_model.specs.Worked.Refusals.{in_doubt, was_committed, was_rolled_back, settled, of_settled}

-- no commit in one phase with an association left, active, suspended or loose, nor of a branch that isn't at work; a
-- marked one is rolled back and gone
abbrev pub OnePhaseRefused : Type 0
OnePhaseRefused =
    Replied settled (
    two_sessions
    ++ commits 1 xid_a (plain XAER_NOTA)
    ∷ begins 1 xid_a (time 4)
    ∷ commits 2 xid_a (plain XAER_PROTO)
    ∷ suspends 1 xid_a done
    ∷ commits 2 xid_a (plain XAER_PROTO)
    ∷ resumes 1 xid_a (time 4)
    ∷ migrates 1 xid_a done
    ∷ dooms 2 xid_a done
    ∷ commits 2 xid_a (plain XAER_PROTO)
    ∷ ends 2 xid_a (plain XA_RBOTHER)
    ∷ commits 2 xid_a (plain XA_RBOTHER)
    ∷ commits 2 xid_a (plain XAER_NOTA)
    ∷ of_settled (commits 1) (plain XAER_PROTO))

-- no commit in two phases of a branch that wasn't prepared; what the operator did is answered
abbrev pub TwoPhaseRefused : Type 0
TwoPhaseRefused =
    Replied settled (
    session 1
    ++ completes 1 xid_a (plain XAER_NOTA)
    ∷ begins 1 xid_a (time 4)
    ∷ completes 1 xid_a (plain XAER_PROTO)
    ∷ ends 1 xid_a done
    ∷ completes 1 xid_a (plain XAER_PROTO)
    ∷ dooms 1 xid_a done
    ∷ completes 1 xid_a (plain XAER_PROTO)
    ∷ completes 1 was_committed (plain XA_HEURCOM)
    ∷ completes 1 was_rolled_back (plain XA_HEURRB)
    ∷ [])

-- no rollback with an association left; what the operator did is answered, and a branch that is rolled back is gone,
-- marked or not
abbrev pub RollbackRefused : Type 0
RollbackRefused =
    Replied settled (
    two_sessions
    ++ rolls_back 1 xid_a (plain XAER_NOTA)
    ∷ begins 1 xid_a (time 4)
    ∷ rolls_back 1 xid_a (plain XAER_PROTO)
    ∷ rolls_back 2 xid_a (plain XAER_PROTO)
    ∷ suspends 1 xid_a done
    ∷ rolls_back 1 xid_a (plain XAER_PROTO)
    ∷ ends 1 xid_a done
    ∷ rolls_back 2 xid_a done
    ∷ rolls_back 2 xid_a (plain XAER_NOTA)
    ∷ begins 1 xid_a (time 5)
    ∷ migrates 1 xid_a done
    ∷ dooms 1 xid_a done
    ∷ rolls_back 2 xid_a (plain XAER_PROTO)
    ∷ ends 1 xid_a (plain XA_RBOTHER)
    ∷ rolls_back 2 xid_a (plain XA_RBOTHER)
    ∷ rolls_back 2 xid_a (plain XAER_NOTA)
    ∷ rolls_back 1 was_committed (plain XA_HEURCOM)
    ∷ rolls_back 1 was_rolled_back (plain XA_HEURRB)
    ∷ [])

-- no prepare with an association left, nor of a branch that isn't at work; no decision but of a branch in doubt, and
-- only what was decided is forgotten
abbrev pub PrepareRefused : Type 0
PrepareRefused =
    Replied settled (
    session 1
    ++ prepares 1 xid_a (plain XAER_NOTA)
    ∷ begins 1 xid_a (time 4)
    ∷ prepares 1 xid_a (plain XAER_PROTO)
    ∷ decides 1 direction.Commit xid_a (plain XAER_PROTO)
    ∷ forgets 1 xid_a (plain XAER_PROTO)
    ∷ suspends 1 xid_a done
    ∷ prepares 1 xid_a (plain XAER_PROTO)
    ∷ ends 1 xid_a done
    ∷ dooms 1 xid_a done
    ∷ prepares 1 xid_a (plain XA_RBOTHER)
    ∷ decides 1 direction.Commit xid_a (plain XAER_NOTA)
    ∷ forgets 1 xid_a (plain XAER_NOTA)
    ∷ prepares 1 in_doubt (plain XAER_PROTO)
    ∷ forgets 1 in_doubt (plain XAER_PROTO)
    ∷ prepares 1 was_committed (plain XAER_PROTO)
    ∷ decides 1 direction.Commit was_committed (plain XAER_PROTO)
    ∷ decides 1 direction.Commit was_rolled_back (plain XAER_PROTO)
    ∷ [])

-- the operator marks a branch at work, once, by any session that is connected
abbrev pub DoomRefused : Type 0
DoomRefused =
    Replied settled (
    dooms 1 xid_a (plain XAER_PROTO)
    ∷ session 1
    ++ connects (number 2)
    ∷ dooms 2 xid_a (plain XAER_NOTA)
    ∷ of_settled (dooms 2) (plain XAER_PROTO)
    ++ begins 1 xid_a (time 4)
    ∷ dooms 2 xid_a done
    ∷ dooms 2 xid_a done
    ∷ ends 1 xid_a (plain XA_RBOTHER)
    ∷ commits 1 xid_a (plain XA_RBOTHER)
    ∷ dooms 2 xid_a (plain XAER_NOTA)
    ∷ [])

-- no get, put or delete without a branch that the session is at work for, nor in one that is marked
abbrev pub RecordsRefused : Type 0
RecordsRefused =
    Replied new_manager (
    two_sessions
    ++ gets 1 (plain XAER_PROTO)
    ∷ puts 1 0x76 (plain XAER_PROTO)
    ∷ deletes 1 (plain XAER_PROTO)
    ∷ begins 1 xid_a (time 1)
    ∷ gets 2 (plain XAER_PROTO)
    ∷ suspends 1 xid_a done
    ∷ gets 1 (plain XAER_PROTO)
    ∷ puts 1 0x76 (plain XAER_PROTO)
    ∷ deletes 1 (plain XAER_PROTO)
    ∷ resumes 1 xid_a (time 1)
    ∷ dooms 2 xid_a done
    ∷ gets 1 (plain XA_RBOTHER)
    ∷ puts 1 0x76 (plain XA_RBOTHER)
    ∷ deletes 1 (plain XA_RBOTHER)
    ∷ [])
