-- Worked rows of a trim: what it writes and leaves, when it is refused, and what goes on during it.
use Rattle.std.specs.Prelude.{ℕ, ◌≡◌, Some, None, [], ◌∷◌, ◌++◌}
use Rattle.xa_codes.specs.declared.codes.TheConstants.{XAER_RMERR, XAER_RMFAIL, XA_RBTRANSIENT}
use Rattle.xa_codes.specs.declared.detail.Detail.TheVariants as detail
use Rattle.xa_record.specs.declared.record.Record.TheVariants as logged
use Rattle.xa_model.specs.declared.outcome.Appending.TheVariants.{Kept, Refused, Lost}
use Rattle.xa_model.specs.declared.outcome.Outcome.TheVariants.{Quiet, Appended, Failed, Reread}
use Rattle.xa_model.specs.State.{State, Committed}
use Rattle.xa_model.specs.Answer.{plain, detailed}
use Rattle.xa_model.specs.Turn.{taken}
use Rattle.xa_model.specs.Restarting.{fates}
use Rattle.xa_model.specs.Trimming.{trim_turn}
use Rattle.xa_model.specs.Worked.{done, number}
use Rattle.xa_model.specs.Worked.Scripts.{Replied, new_manager, xid_a, xid_b, time, found, not_there, kept, refused}
use Rattle.xa_model.specs.Worked.Scripts.{lost, session, two_sessions, begins, writes, suspends, resumes, ends}
use Rattle.xa_model.specs.Worked.Scripts.{prepares, commits, completes, restarts, trims, limits, ticks, gets, puts}
use Rattle.xa_model.specs.Worked.Turns.{Takes, record_of, restarting, with_branch, idle, in_doubt, without_branch}
use Rattle.xa_model.specs.Worked.Turns.{held, booted, no_device}
use Rattle.xa_model.specs.Worked.Device.{down_with}

-- with this boot, and a log that ends there
abbrev pub in_boot : State → ℕ → ℕ → State
in_boot s boot end = record s { boot = boot; given = 0; logged_boot = boot; end = end }

-- Of a branch that is prepared and then committed the log keeps only the writes: 156 bytes become 102. Nothing else
-- changes, also of branches at work, and of the scan that is open.
abbrev pub Trimmed : Type 0
Trimmed =
    (record_of (trim_turn in_doubt) ≡ Some (logged.Opened 2))
    × Takes (trim_turn in_doubt) (Appended Kept) (number 110) (in_boot in_doubt 2 110)
    × Takes (trim_turn idle) (Appended Kept) (number 49) (in_boot idle 2 49)
    × Takes (trim_turn (with_branch Committed 156)) (Appended Kept) (number 102)
    (in_boot (with_branch Committed 156) 2 102)
    × (taken (trim_turn in_doubt) Quiet ≡ None)
    × (taken (trim_turn in_doubt) Failed ≡ None)
    × (taken (trim_turn in_doubt) (Reread 0 (Some Kept)) ≡ None)

-- Boots above the half are kept for restarts. A log is trimmed if it has room for the snapshot, the closing length,
-- and what is kept for the branch: 110 + 4 + 343. The boots are checked first.
abbrev pub TrimLimits : Type 0
TrimLimits =
    let last = record idle { boot = 2147483647; logged_boot = 2147483647 } in
    let used = record in_doubt { boot = 2147483648; logged_boot = 2147483648 } in
    let full = record in_doubt { log_bytes = 456 } in
    let both = record used { log_bytes = 456 } in
    let limit = detailed XAER_RMERR detail.Limit in
    Takes (trim_turn last) (Appended Kept) (number 49) (in_boot idle 2147483648 49)
    × Takes (trim_turn used) Quiet limit used
    × Takes (trim_turn full) Quiet (detailed XAER_RMERR detail.LogFull) full
    × Takes (trim_turn (record in_doubt { log_bytes = 457 })) (Appended Kept) (number 110)
    (in_boot (record in_doubt { log_bytes = 457 }) 2 110)
    × Takes (trim_turn both) Quiet limit both

-- A snapshot that was refused changes nothing. The fate of one that was lost is unknown, and a restart finds it, or
-- not; it ends what is at work, as it does always.
abbrev pub TrimDevice : Type 0
TrimDevice =
    let lost_trim = down_with in_doubt (logged.Opened 2) in
    Takes (trim_turn in_doubt) (Appended Refused) (detailed XAER_RMERR detail.Device) in_doubt
    × Takes (trim_turn in_doubt) (Appended Lost) no_device lost_trim
    × (fates lost_trim ≡ held ∷ record held { boot = 2 } ∷ [])
    × Takes (restarting lost_trim) (Reread 1 (Some Kept)) done (booted in_doubt 3 110)
    × Takes (restarting lost_trim) (Reread 0 (Some Kept)) done (booted in_doubt 2 110)
    × Takes (trim_turn idle) (Appended Lost) no_device (down_with idle (logged.Opened 2))
    × Takes (restarting (down_with idle (logged.Opened 2))) (Reread 1 (Some Kept)) done (booted without_branch 3 49)

-- A branch that is at work goes on over a trim, whether its session works for it or has suspended it, and commits with
-- the timestamp that it has: below a branch that began after it, which passes over it, and waits for no one.
abbrev pub WorksOver : Type 0
WorksOver =
    Replied new_manager (
    two_sessions
    ++ begins 1 xid_a (time 1)
    ∷ puts 1 0x76 done
    ∷ kept (trims 2 (number 49))
    ∷ gets 1 (found 0x76)
    ∷ suspends 1 xid_a done
    ∷ kept (trims 2 (number 49))
    ∷ resumes 1 xid_a (time 1)
    ∷ puts 1 0x77 done
    ∷ ends 1 xid_a done
    ∷ kept (commits 1 xid_a done)
    ∷ begins 2 xid_b (number 12884901889)
    ∷ gets 2 (found 0x77)
    ∷ ends 2 xid_b done
    ∷ commits 2 xid_b done
    ∷ kept (trims 1 (number 102))
    ∷ [])

-- Reads count on: a write that comes late for one from before the trim is refused. So do marks, limits and moments.
abbrev pub CountsOn : Type 0
CountsOn =
    Replied new_manager (
    two_sessions
    ++ begins 1 xid_a (time 1)
    ∷ limits 2 10 done
    ∷ begins 2 xid_b (time 2)
    ∷ gets 2 not_there
    ∷ kept (trims 1 (number 49))
    ∷ puts 1 0x76 (detailed XA_RBTRANSIENT detail.Late)
    ∷ kept (trims 1 (number 49))
    ∷ gets 1 (plain XA_RBTRANSIENT)
    ∷ ticks 1 10 (number 1)
    ∷ [])

-- What was prepared before a trim is committed after it, also if the trim was lost: found by a restart or not. A
-- manager that is down trims nothing.
abbrev pub PreparedOver : Type 0
PreparedOver =
    Replied new_manager (
    session 1
    ++ writes 1 xid_a 1 0x76
    ++ kept (prepares 1 xid_a done)
    ∷ kept (trims 1 (number 109))
    ∷ refused (trims 1 (detailed XAER_RMERR detail.Device))
    ∷ lost (trims 1 no_device)
    ∷ trims 1 (plain XAER_RMFAIL)
    ∷ restarts 1 1 done
    ∷ lost (trims 1 no_device)
    ∷ restarts 1 0 done
    ∷ kept (completes 1 xid_a done)
    ∷ kept (trims 1 (number 102))
    ∷ begins 1 xid_b (number 25769803777)
    ∷ gets 1 (found 0x76)
    ∷ [])
