-- What calls answer, of facts of the sequential resource manager.
use Rattle.std.specs.Prelude.{ℕ, ℤ, Bool, true, false, Option, Some, None, Result, Ok, Err, nat_le, if◌then◌else◌}
use Rattle.xa_codes.specs.declared.codes.TheConstants.{XAER_PROTO, XAER_NOTA}
use Rattle.xa_xid.specs.Triple.{Triple}
use Rattle.xa_model.specs.State.{State, Known as Fact, Unknown, AtWork, InDoubt, Completed, is_known_as, known_as, known_in, change}
use Rattle.xa_model.specs.Associations.{is_taken, with_mark}
use Rattle.xa_limits.specs.declared.TheConstants.{MOST_BRANCHES, MOST_GIVEN}
use Rattle.xa_model.specs.Phases.{is_associated}
use Rattle.xa_branch.specs.declared.fault.BeginFault.{BeginFault}
use Rattle.xa_branch.specs.declared.fault.BeginFault.TheVariants.{Duplicate, Full, Spent, Memory}

-- what the begin of a branch is refused for, if there is memory: its XID is known, or as many branches are known as
-- may be, or this boot gives no more timestamps
abbrev pub begin_fault : Bool → ℕ → ℕ → Option BeginFault
begin_fault is_taken known given =
    if is_taken then Some Duplicate
    else if nat_le MOST_BRANCHES known then Some Full
    else if nat_le MOST_GIVEN given then Some Spent
    else None

abbrev pub begin_fault_of : State → Triple → Option BeginFault
begin_fault_of s xid = begin_fault (is_taken (known_as s xid)) (known_in s) s.given

-- what was refused, if it was
abbrev pub fault_of : Result ℕ BeginFault → Option BeginFault
fault_of (Ok timestamp) = None
fault_of (Err Duplicate) = Some Duplicate
fault_of (Err Full) = Some Full
fault_of (Err Spent) = Some Spent
fault_of (Err Memory) = None

-- why a branch can't be prepared: the code that is returned
abbrev pub readiness : Fact → Bool → Option ℤ
readiness Unknown is_associated = Some XAER_NOTA
readiness (AtWork mark) true = Some XAER_PROTO
readiness (AtWork mark) false = mark
readiness InDoubt is_associated = Some XAER_PROTO
readiness (Completed direction) is_associated = Some XAER_PROTO

abbrev pub readiness_of : State → Triple → Option ℤ
readiness_of s xid = readiness (known_as s xid) (is_associated s xid)

-- the state in which the branch is marked, unless it was
abbrev pub marked_with : ℤ → State → Triple → State
marked_with code s xid = record s { branches = change (is_known_as xid) (with_mark code) s.branches }
