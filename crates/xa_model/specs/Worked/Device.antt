-- Worked rows of what the device's refusals lead to, for each call that logs, and of openings that come to nothing.
use Rattle.std.specs.Prelude.{◌≡◌, Some, None, [], ◌∷◌}
use Rattle.xa_codes.specs.declared.codes.TheConstants.{XAER_RMERR, XA_RETRY}
use Rattle.xa_codes.specs.declared.detail.Detail.TheVariants as detail
use Rattle.xa_codes.specs.declared.direction.Direction.TheVariants as direction
use Rattle.xa_record.specs.declared.record.Record.{Record}
use Rattle.xa_record.specs.declared.record.Record.TheVariants as logged
use Rattle.xa_model.specs.declared.event.Event.TheVariants.{Connect}
use Rattle.xa_model.specs.declared.outcome.Appending.TheVariants.{Kept, Refused, Lost}
use Rattle.xa_model.specs.declared.outcome.Outcome.TheVariants.{Quiet, Appended, Failed, Reread}
use Rattle.xa_model.specs.State.{State, Committed, Down, Ended}
use Rattle.xa_model.specs.Answer.{detailed}
use Rattle.xa_model.specs.Turn.{Asked, taken}
use Rattle.xa_model.specs.Step.{turn}
use Rattle.xa_model.specs.Worked.{done}
use Rattle.xa_model.specs.Worked.Log.{xid_1, put_1}
use Rattle.xa_model.specs.Worked.Turns.{Takes, with_branch, idle, in_doubt, without_branch, prepared_1, preparing}
use Rattle.xa_model.specs.Worked.Turns.{committing_at_once, committing, rolling_back, deciding, forgetting, restarting}
use Rattle.xa_model.specs.Worked.Turns.{reopening, no_device}

-- the operator committed the branch in doubt
abbrev pub decided : State
decided = record (with_branch Committed 156) { decided = record { xid = xid_1; direction = direction.Commit } ∷ [] }

-- a record that was refused changes nothing, except that a commit in one phase rolls its branch back
abbrev pub EachRefused : Type 0
EachRefused =
    let refused = detailed XAER_RMERR detail.Device in
    Takes (preparing idle) (Appended Refused) refused idle
    × Takes (committing_at_once idle) (Appended Refused) refused without_branch
    × Takes (committing in_doubt) (Appended Refused) (detailed XA_RETRY detail.Device) in_doubt
    × Takes (rolling_back in_doubt) (Appended Refused) refused in_doubt
    × Takes (deciding in_doubt direction.Rollback) (Appended Refused) refused in_doubt
    × Takes (forgetting decided) (Appended Refused) refused decided

-- if one was lost, its fate is unknown: the manager is down, and nothing else changes
abbrev pub down_with : State → Record → State
down_with s r = record s { standing = Down; open_records = r ∷ [] }

abbrev pub EachLost : Type 0
EachLost =
    Takes (preparing idle) (Appended Lost) no_device (down_with idle prepared_1)
    × Takes (committing_at_once idle) (Appended Lost) no_device
    (down_with idle (logged.Committed xid_1 4294967297 put_1))
    × Takes (committing in_doubt) (Appended Lost) no_device
    (down_with in_doubt (logged.Completed xid_1 direction.Commit))
    × Takes (rolling_back in_doubt) (Appended Lost) no_device
    (down_with in_doubt (logged.Completed xid_1 direction.Rollback))
    × Takes (deciding in_doubt direction.Rollback) (Appended Lost) no_device
    (down_with in_doubt (logged.Decided xid_1 direction.Rollback))
    × Takes (forgetting decided) (Appended Lost) no_device (down_with decided (logged.Forgotten xid_1))

-- a restart whose look at the log failed, or whose new boot was refused, leaves the manager down
abbrev pub RestartRefused : Type 0
RestartRefused =
    Takes (restarting in_doubt) Failed no_device (record in_doubt { standing = Down })
    × Takes (restarting in_doubt) (Reread 0 (Some Refused)) no_device (record in_doubt { standing = Down })
    × (taken (restarting in_doubt) Quiet ≡ None)
    × (taken (restarting in_doubt) (Appended Kept) ≡ None)

-- an opening when the boots are used up comes to nothing, and then only an opening may follow
abbrev pub OpeningRefused : Type 0
OpeningRefused =
    let ended = record in_doubt { sessions = []; standing = Ended } in
    let last = record in_doubt { logged_boot = 4294967295 } in
    Takes (reopening last 1073741824) (Reread 0 None) done (record ended { logged_boot = 4294967295 })
    × Takes (reopening in_doubt 1073741824) Failed done ended
    × Takes (reopening in_doubt 1073741824) (Reread 0 (Some Refused)) done ended
    × (taken (turn ended (Asked Connect)) Quiet ≡ None)
    × (taken (restarting ended) (Reread 0 (Some Kept)) ≡ None)
