-- Worked rows of the calls that log: what each asks of the device, and what its outcomes lead to.
use Rattle.std.specs.Prelude.{ℕ, ◌≡◌, true, false, Option, Some, None, Ok, [], ◌∷◌}
use Rattle.xa_codes.specs.declared.codes.TheConstants.{XAER_PROTO, XAER_NOTA, XAER_RMFAIL, XA_RDONLY, XA_RBOTHER}
use Rattle.xa_codes.specs.declared.codes.TheConstants.{XA_HEURCOM}
use Rattle.xa_codes.specs.declared.detail.Detail.TheVariants as detail
use Rattle.xa_codes.specs.declared.direction.Direction.{Direction}
use Rattle.xa_codes.specs.declared.direction.Direction.TheVariants as direction
use Rattle.xa_codes.specs.declared.flags.TheConstants.{TMNOFLAGS, TMONEPHASE}
use Rattle.xa_record.specs.declared.record.Record.{Record}
use Rattle.xa_record.specs.declared.record.Record.TheVariants as logged
use Rattle.xa_frame.specs.declared.reply.Reply.{Reply}
use Rattle.xa_frame.specs.declared.request.Request.{Request}
use Rattle.xa_frame.specs.declared.request.Request.TheVariants as request
use Rattle.xa_model.specs.declared.event.Event.TheVariants.{Call}
use Rattle.xa_model.specs.declared.outcome.Appending.TheVariants.{Kept, Refused, Lost}
use Rattle.xa_model.specs.declared.outcome.Outcome.{Outcome}
use Rattle.xa_model.specs.declared.outcome.Outcome.TheVariants.{Quiet, Appended, Failed, Reread}
use Rattle.xa_model.specs.State.{State, Wrote, Working, Prepared, Committed, Phase, Down, Ended, new_work, new_branch}
use Rattle.xa_model.specs.State.{new_session}
use Rattle.xa_model.specs.Associations.{as_opened}
use Rattle.xa_model.specs.Answer.{plain, detailed, answer}
use Rattle.xa_model.specs.Turn.{Asked, Reopened, Turn, Nobody, Now, Appends, Checkpoints, Rereads, Joins}
use Rattle.xa_model.specs.Turn.{taken}
use Rattle.xa_model.specs.Durable.{Durable}
use Rattle.xa_model.specs.Fold.{nothing, fold}
use Rattle.xa_model.specs.Logging.{log_room}
use Rattle.xa_model.specs.Step.{turn}
use Rattle.xa_model.specs.Restarting.{fates, opening}
use Rattle.xa_model.specs.Worked.{xarm, byte, done}
use Rattle.xa_model.specs.Worked.Log.{xid_1, put_1}
use Rattle.xa_model.specs.Worked.Scripts.{new_manager}

-- the turn, with this outcome, gets this reply, and leaves this state
abbrev pub Takes : Turn → Outcome → Reply → State → Type 0
Takes t outcome reply after = taken t outcome ≡ Some (answer reply after)

-- the record that a turn appends, at the log's end or first in a new file
abbrev pub record_of : Turn → Option Record
record_of Nobody = None
record_of (Now a) = None
record_of (Appends r after) = Some r
record_of (Checkpoints r after) = Some r
record_of (Rereads failed found) = None
record_of (Joins refused r lost) = Some r

-- session 1 is opened, and 1:aa:bb put 76 at 6b, and was left; or what became of it, where the log then ends
abbrev pub with_branch : Phase → ℕ → State
with_branch phase end = record new_manager {
  given = 1;
  sessions = record (new_session 1) { opened = true; scan = Some None } ∷ [];
  branches =
      record { timestamp = 4294967297; operations = Wrote (byte 0x6b) (Some (byte 0x76)) ∷ []; phase = phase } ∷ [];
  end = end;
}

abbrev pub idle : State
idle = with_branch (Working xid_1 (new_work 0 0)) 49

-- the operator has marked it
abbrev pub marked_idle : State
marked_idle = with_branch (Working xid_1 (record (new_work 0 0) { mark = Some XA_RBOTHER })) 49

abbrev pub in_doubt : State
in_doubt = with_branch (Prepared xid_1) 110

-- rolled back, and gone
abbrev pub without_branch : State
without_branch = record idle { branches = [] }

-- a branch that wrote nothing
abbrev pub read_only : State
read_only = record idle { branches = new_branch 4294967297 xid_1 (new_work 0 0) ∷ [] }

abbrev pub prepared_1 : Record
prepared_1 = logged.Prepared xid_1 4294967297 put_1

-- what lasts of it
abbrev pub held : Durable
held = record {
  boot = 1;
  committed = [];
  prepared = record { xid = xid_1; timestamp = 4294967297; writes = put_1 } ∷ [];
  decided = [];
}

abbrev pub nothing_held : Durable
nothing_held = record { boot = 1; committed = []; prepared = []; decided = [] }

-- What session 1 asks of that branch

abbrev pub asking : State → Request → Turn
asking s request = turn s (Asked (Call 1 request))

abbrev pub preparing : State → Turn
preparing s = asking s (request.Prepare TMNOFLAGS xid_1)

abbrev pub committing_at_once : State → Turn
committing_at_once s = asking s (request.Commit TMONEPHASE xid_1)

abbrev pub committing : State → Turn
committing s = asking s (request.Commit TMNOFLAGS xid_1)

abbrev pub rolling_back : State → Turn
rolling_back s = asking s (request.Rollback TMNOFLAGS xid_1)

abbrev pub deciding : State → Direction → Turn
deciding s direction = asking s (request.Decide direction xid_1)

abbrev pub forgetting : State → Turn
forgetting s = asking s (request.Forget TMNOFLAGS xid_1)

abbrev pub restarting : State → Turn
restarting s = asking s request.Restart

-- the manager is opened again, with a log of this many bytes
abbrev pub reopening : State → ℕ → Turn
reopening s log_bytes = turn s (Reopened xarm log_bytes)

-- A branch is prepared, and committed; or committed in one phase.
abbrev pub PreparedAndCommitted : Type 0
PreparedAndCommitted =
    (record_of (preparing idle) ≡ Some prepared_1)
    × Takes (preparing idle) (Appended Kept) done in_doubt
    × (taken (preparing idle) Quiet ≡ None)
    × (record_of (committing in_doubt) ≡ Some (logged.Completed xid_1 direction.Commit))
    × Takes (committing in_doubt) (Appended Kept) done (with_branch Committed 156)
    × (record_of (committing_at_once idle) ≡ Some (logged.Committed xid_1 4294967297 put_1))
    × Takes (committing_at_once idle) (Appended Kept) done (with_branch Committed 110)
    × Takes (committing idle) Quiet (plain XAER_PROTO) idle
    × Takes (preparing in_doubt) Quiet (plain XAER_PROTO) in_doubt

-- A prepared branch is rolled back, which is logged; one at work isn't.
abbrev pub RolledBackAgain : Type 0
RolledBackAgain =
    (record_of (rolling_back in_doubt) ≡ Some (logged.Completed xid_1 direction.Rollback))
    × Takes (rolling_back in_doubt) (Appended Kept) done (record without_branch { end = 156 })
    × Takes (rolling_back idle) Quiet done without_branch
    × Takes (rolling_back without_branch) Quiet (plain XAER_NOTA) without_branch

-- A branch that is marked is rolled back, and gone.
abbrev pub MarkedIsGone : Type 0
MarkedIsGone =
    Takes (preparing marked_idle) Quiet (plain XA_RBOTHER) without_branch
    × Takes (committing_at_once marked_idle) Quiet (plain XA_RBOTHER) without_branch

-- A branch without writes is gone, as committed, and nothing is logged.
abbrev pub ReadOnly : Type 0
ReadOnly =
    let gone = record read_only {
      branches = record { timestamp = 4294967297; operations = []; phase = Committed } ∷ [];
    } in
    Takes (preparing read_only) Quiet (plain XA_RDONLY) gone
    × Takes (committing_at_once read_only) Quiet done gone

-- At equality there is room, for the record, the closing length, and what is kept for the branch: 49 + 61 + 4 + 343. A
-- branch for which there is none is rolled back. A commit in one phase needs no more than its record.
abbrev pub Room : Type 0
Room =
    Takes (preparing (record idle { log_bytes = 457 })) (Appended Kept) done (record in_doubt { log_bytes = 457 })
    × Takes (preparing (record idle { log_bytes = 456 })) Quiet (detailed XA_RBOTHER detail.LogFull)
    (record without_branch { log_bytes = 456 })
    × Takes (committing_at_once (record idle { log_bytes = 114 })) (Appended Kept) done
    (record (with_branch Committed 110) { log_bytes = 114 })
    × Takes (committing_at_once (record idle { log_bytes = 113 })) Quiet (detailed XA_RBOTHER detail.LogFull)
    (record without_branch { log_bytes = 113 })
    × (log_room 860 0 1 3 ≡ true)
    × (log_room 859 0 1 3 ≡ false)

-- after a restart with this boot
abbrev pub booted : State → ℕ → ℕ → State
booted s boot end = record s {
  boot = boot;
  given = 0;
  logged_boot = boot;
  sessions = as_opened (new_session 1) ∷ [];
  end = end;
}

abbrev pub no_device : Reply
no_device = detailed XAER_RMFAIL detail.Device

-- A record that was lost is found by a restart, or isn't. A restart that fails settles nothing.
abbrev pub LostAppends : Type 0
LostAppends =
    let lost = record idle { standing = Down; open_records = prepared_1 ∷ [] } in
    Takes (preparing idle) (Appended Lost) no_device lost
    × (fates lost ≡ nothing_held ∷ held ∷ [])
    × Takes (restarting lost) (Reread 1 (Some Kept)) done (booted in_doubt 2 110)
    × Takes (restarting lost) (Reread 0 (Some Kept)) done (booted without_branch 2 49)
    × Takes (restarting lost) Failed no_device lost
    × Takes (restarting lost) (Reread 1 (Some Refused)) no_device (record in_doubt { standing = Down })
    × (taken (restarting lost) (Reread 1 None) ≡ None)
    × (taken (restarting idle) (Reread 1 (Some Kept)) ≡ None)

-- The boot of a restart that was lost is used up, if it is found.
abbrev pub LostBoots : Type 0
LostBoots =
    let lost = record in_doubt { standing = Down; open_records = logged.Opened 2 ∷ [] } in
    Takes (restarting in_doubt) (Reread 0 (Some Lost)) no_device lost
    × Takes (restarting lost) (Reread 1 (Some Kept)) done (booted in_doubt 3 110)
    × Takes (restarting lost) (Reread 0 (Some Kept)) done (booted in_doubt 2 110)
    × Takes (restarting (record idle { logged_boot = 4294967295 })) (Reread 0 None)
    (detailed XAER_RMFAIL detail.Limit)
    (record idle { logged_boot = 4294967295; standing = Down })

-- The operator completes a branch in doubt, which is kept over a restart, and forgets it.
abbrev pub DecidedByOperator : Type 0
DecidedByOperator =
    let decision = record { xid = xid_1; direction = direction.Commit } ∷ [] in
    let decided = record (with_branch Committed 156) { decided = decision } in
    Takes (deciding in_doubt direction.Commit) (Appended Kept) done decided
    × Takes (deciding in_doubt direction.Rollback) (Appended Kept) done
    (record without_branch { decided = record { xid = xid_1; direction = direction.Rollback } ∷ []; end = 156 })
    × Takes (deciding idle direction.Commit) Quiet (plain XAER_PROTO) idle
    × Takes (committing decided) Quiet (plain XA_HEURCOM) decided
    × Takes (rolling_back decided) Quiet (plain XA_HEURCOM) decided
    × Takes (deciding decided direction.Commit) Quiet (plain XAER_PROTO) decided
    × Takes (restarting decided) (Reread 0 (Some Kept)) done (booted decided 2 148)
    × Takes (forgetting decided) (Appended Kept) done (with_branch Committed 201)
    × Takes (forgetting in_doubt) Quiet (plain XAER_PROTO) in_doubt
    × Takes (forgetting without_branch) Quiet (plain XAER_NOTA) without_branch

-- A manager that is opened again has no sessions, and stands as one that is opened on the log's records. It isn't
-- opened if there is no room: 110 + 4 + 343.
abbrev pub OpenedAgain : Type 0
OpenedAgain =
    let ended = record in_doubt { log_bytes = 456; sessions = []; standing = Ended } in
    Takes (reopening in_doubt 457) (Reread 0 (Some Kept)) done (opening held xarm 457 2)
    × (fold (logged.Opened 1 ∷ prepared_1 ∷ []) ≡ Ok held)
    × Takes (reopening in_doubt 456) (Reread 0 None) done ended
    × Takes (reopening in_doubt 456) Failed done ended
    × Takes (reopening ended 457) (Reread 0 (Some Lost)) done
    (record ended { log_bytes = 457; open_records = logged.Opened 2 ∷ [] })
    × (opening nothing xarm 1073741824 1 ≡ new_manager)
