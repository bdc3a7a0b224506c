-- Worked rows of time limits: which branches a moment marks, when it is refused, and how long limits and moments last.
use Rattle.std.specs.Prelude.{ℕ, Some, [], ◌∷◌, ◌++◌}
use Rattle.xa_codes.specs.declared.codes.TheConstants.{XAER_PROTO, XAER_INVAL, XAER_RMFAIL, XA_RBTIMEOUT, XA_RBOTHER}
use Rattle.xa_codes.specs.declared.flags.TheConstants.{TMNOFLAGS}
use Rattle.xa_frame.specs.declared.request.Request.TheVariants.{Start, Timeout, Tick}
use Rattle.xa_model.specs.declared.outcome.Appending.TheVariants.{Kept}
use Rattle.xa_model.specs.declared.outcome.Outcome.TheVariants.{Quiet, Reread}
use Rattle.xa_model.specs.State.{State, Work, Working, Committed, Active, Down, new_work, new_branch, new_session}
use Rattle.xa_model.specs.Associations.{as_opened}
use Rattle.xa_model.specs.Answer.{plain}
use Rattle.xa_model.specs.Restarting.{opening}
use Rattle.xa_model.specs.TimeLimits.{with_limit}
use Rattle.xa_model.specs.Worked.{xarm, done, number}
use Rattle.xa_model.specs.Worked.Log.{xid_1}
use Rattle.xa_model.specs.Worked.Scripts.{Replied, new_manager, xid_a, xid_b, xid_c, time, kept, connects, hangs_up}
use Rattle.xa_model.specs.Worked.Scripts.{opens, closes, session, two_sessions, begins, writes, ends, prepares, commits}
use Rattle.xa_model.specs.Worked.Scripts.{completes, rolls_back, dooms, puts, restarts, limits, ticks}
use Rattle.xa_model.specs.Worked.Turns.{Takes, asking, restarting, reopening, with_branch, in_doubt, held, booted}

-- a branch that is as old as its limit is marked, and rollback-only; one that is prepared isn't
abbrev pub TimedOut : Type 0
TimedOut =
    Replied new_manager (
    two_sessions
    ++ limits 1 10 done
    ∷ begins 1 xid_a (time 1)
    ∷ ticks 2 9 (number 0)
    ∷ ticks 2 10 (number 1)
    ∷ puts 1 0x76 (plain XA_RBTIMEOUT)
    ∷ ends 1 xid_a (plain XA_RBTIMEOUT)
    ∷ rolls_back 1 xid_a (plain XA_RBTIMEOUT)
    ∷ ticks 2 9 (plain XAER_INVAL)
    ∷ writes 1 xid_b 2 0x76
    ++ kept (prepares 1 xid_b done)
    ∷ ticks 2 100 (number 0)
    ∷ kept (completes 1 xid_b done)
    ∷ [])

-- A branch's age counts from the moment at its start, and its limit is the one that its session had then. One without a
-- limit is never too old. The same moment may be told again, and marks nobody again.
abbrev pub AgeFromStart : Type 0
AgeFromStart =
    Replied new_manager (
    two_sessions
    ++ ticks 1 5 (number 0)
    ∷ begins 2 xid_c (time 1)
    ∷ limits 1 10 done
    ∷ begins 1 xid_a (time 2)
    ∷ limits 1 1 done
    ∷ ends 1 xid_a done
    ∷ begins 1 xid_b (time 3)
    ∷ limits 1 0 done
    ∷ ticks 2 6 (number 1)
    ∷ ticks 2 6 (number 0)
    ∷ ends 1 xid_b (plain XA_RBTIMEOUT)
    ∷ ticks 1 14 (number 0)
    ∷ ticks 1 15 (number 1)
    ∷ ticks 1 18446744073709551615 (number 0)
    ∷ commits 1 xid_a (plain XA_RBTIMEOUT)
    ∷ ends 2 xid_c done
    ∷ commits 2 xid_c done
    ∷ [])

-- all whose time is over are marked at once, of whichever session; a mark that was there before stays, and isn't
-- counted
abbrev pub MarkedByTime : Type 0
MarkedByTime =
    Replied new_manager (
    two_sessions
    ++ limits 1 10 done
    ∷ limits 2 5 done
    ∷ begins 2 xid_b (time 1)
    ∷ begins 1 xid_a (time 2)
    ∷ ends 1 xid_a done
    ∷ begins 1 xid_c (time 3)
    ∷ dooms 2 xid_c done
    ∷ ticks 1 10 (number 2)
    ∷ dooms 1 xid_a done
    ∷ rolls_back 2 xid_a (plain XA_RBTIMEOUT)
    ∷ ends 2 xid_b (plain XA_RBTIMEOUT)
    ∷ ends 1 xid_c (plain XA_RBOTHER)
    ∷ [])

-- a limit needs an opened session, and a moment one that is connected
abbrev pub LimitNeedsOpen : Type 0
LimitNeedsOpen =
    Replied new_manager (
    limits 1 10 (plain XAER_PROTO)
    ∷ ticks 1 10 (plain XAER_PROTO)
    ∷ connects (number 1)
    ∷ limits 1 10 (plain XAER_PROTO)
    ∷ ticks 1 10 (number 0)
    ∷ ticks 2 9 (plain XAER_PROTO)
    ∷ ticks 1 9 (plain XAER_INVAL)
    ∷ opens 1 done
    ∷ limits 1 4294967295 done
    ∷ [])

-- a manager that is down takes neither, whatever the moment
abbrev pub NoTimeDown : Type 0
NoTimeDown =
    Replied (record new_manager { standing = Down; moment = 10 }) (
    ticks 1 11 (plain XAER_RMFAIL)
    ∷ session 1
    ++ limits 1 10 (plain XAER_RMFAIL)
    ∷ ticks 1 11 (plain XAER_RMFAIL)
    ∷ ticks 1 9 (plain XAER_RMFAIL)
    ∷ restarts 1 0 done
    ∷ ticks 1 9 (plain XAER_INVAL)
    ∷ ticks 1 10 (number 0)
    ∷ [])

-- a limit lasts over a close and a restart, and ends with the connection; the moment lasts over a restart
abbrev pub LimitLasts : Type 0
LimitLasts =
    Replied new_manager (
    two_sessions
    ++ limits 1 10 done
    ∷ ticks 2 20 (number 0)
    ∷ closes 1 done
    ∷ opens 1 done
    ∷ begins 1 xid_a (time 1)
    ∷ ticks 2 29 (number 0)
    ∷ ticks 2 30 (number 1)
    ∷ ends 1 xid_a (plain XA_RBTIMEOUT)
    ∷ restarts 1 0 done
    ∷ ticks 2 29 (plain XAER_INVAL)
    ∷ begins 1 xid_a (number 8589934593)
    ∷ ticks 2 39 (number 0)
    ∷ ticks 2 40 (number 1)
    ∷ hangs_up 1
    ∷ session 1
    ++ rolls_back 1 xid_a (plain XA_RBTIMEOUT)
    ∷ begins 1 xid_b (number 8589934594)
    ∷ ticks 2 1000 (number 0)
    ∷ ends 1 xid_b done
    ∷ commits 1 xid_b done
    ∷ [])

-- As states: session 1 is opened, and has a limit of 7 seconds; 1:aa:bb put 76 at 6b, and was left

abbrev pub at_moment : ℕ → State → State
at_moment moment s = record s { sessions = with_limit 7 (as_opened (new_session 1)) ∷ []; moment = moment }

abbrev pub working : Work → ℕ → State
working work moment = at_moment moment (with_branch (Working xid_1 work) 49)

-- each moment that isn't refused is kept; the branch is marked at moment 10, and nothing else of it changes
abbrev pub MarkedAtMoment : Type 0
MarkedAtMoment =
    Takes (asking (working (new_work 3 7) 3) (Tick 9)) Quiet (number 0) (working (new_work 3 7) 9)
    × Takes (asking (working (new_work 3 7) 3) (Tick 10)) Quiet (number 1)
    (working (record (new_work 3 7) { mark = Some XA_RBTIMEOUT }) 10)
    × Takes (asking (working (new_work 3 0) 3) (Tick 10)) Quiet (number 0) (working (new_work 3 0) 10)
    × Takes (asking (working (record (new_work 3 7) { mark = Some XA_RBOTHER }) 3) (Tick 10)) Quiet (number 0)
    (working (record (new_work 3 7) { mark = Some XA_RBOTHER }) 10)
    × Takes (asking (working (new_work 3 7) 3) (Tick 3)) Quiet (number 0) (working (new_work 3 7) 3)
    × Takes (asking (working (new_work 3 7) 3) (Tick 2)) Quiet (plain XAER_INVAL) (working (new_work 3 7) 3)

-- a branch that is prepared or committed is marked by no moment
abbrev pub NeverMarked : Type 0
NeverMarked =
    Takes (asking (at_moment 3 in_doubt) (Tick 100)) Quiet (number 0) (at_moment 100 in_doubt)
    × Takes (asking (at_moment 3 (with_branch Committed 156)) (Tick 100)) Quiet (number 0)
    (at_moment 100 (with_branch Committed 156))

-- a limit is the session's, and a branch that begins has it, and the moment
abbrev pub LimitOfSession : Type 0
LimitOfSession =
    let s = record new_manager { sessions = as_opened (new_session 2) ∷ as_opened (new_session 1) ∷ []; moment = 3 } in
    let limited = record s {
      sessions = as_opened (new_session 2) ∷ with_limit 7 (as_opened (new_session 1)) ∷ [];
    } in
    Takes (asking s (Timeout 7)) Quiet done limited
    × Takes (asking limited (Timeout 0)) Quiet done s
    × Takes (asking limited (Start TMNOFLAGS xid_1)) Quiet (time 1)
    (record limited {
      given = 1;
      associations = record { xid = xid_1; holder = Active 1 } ∷ [];
      branches = new_branch 4294967297 xid_1 (new_work 3 7) ∷ [];
    })

-- a restart keeps the moment and the limits; a manager that is opened again begins at moment 0, without sessions
abbrev pub MomentLasts : Type 0
MomentLasts =
    Takes (restarting (at_moment 3 in_doubt)) (Reread 0 (Some Kept)) done (at_moment 3 (booted in_doubt 2 110))
    × Takes (reopening (at_moment 3 in_doubt) 457) (Reread 0 (Some Kept)) done (opening held xarm 457 2)
