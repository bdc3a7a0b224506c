-- Worked rows of groups: records that are appended together, and are kept, refused or lost together.
use Rattle.std.specs.Prelude.{◌≡◌, true, false, None, Some, List, [], ◌∷◌, ◌++◌}
use Rattle.xa_codes.specs.declared.codes.TheConstants.{XAER_RMERR, XAER_RMFAIL, XA_RETRY}
use Rattle.xa_codes.specs.declared.detail.Detail.TheVariants as detail
use Rattle.xa_codes.specs.declared.direction.Direction.TheVariants as direction
use Rattle.xa_codes.specs.declared.flags.TheConstants.{TMNOFLAGS}
use Rattle.xa_frame.specs.declared.request.Request.TheVariants as request
use Rattle.xa_record.specs.declared.record.Record.{Record}
use Rattle.xa_record.specs.declared.record.Record.TheVariants as logged
use Rattle.xa_model.specs.declared.outcome.Appending.{Appending}
use Rattle.xa_model.specs.declared.outcome.Appending.TheVariants.{Kept, Refused, Lost}
use Rattle.xa_model.specs.declared.outcome.Outcome.TheVariants.{Quiet, Joined, Reread}
use Rattle.xa_model.specs.ListedLaw.{AsksCompletion, HasPrepared}
use Rattle.xa_model.specs.State.{State, Branch, Wrote, Working, Down, new_work}
use Rattle.xa_model.specs.Answer.{plain, detailed}
use Rattle.xa_model.specs.Crash.{MayBeLeftIn}
use Rattle.xa_model.specs.Durable.{Durable}
use Rattle.xa_model.specs.History.{Entry, replay, HasGroups}
use Rattle.xa_model.specs.Laws.{happened}
use Rattle.xa_model.specs.Laws.Together.{has_room_for, has_room_after}
use Rattle.xa_model.specs.Logging.{applied, supposed}
use Rattle.xa_model.specs.Restarting.{fates, opening}
use Rattle.xa_model.specs.Trimming.{trim_turn}
use Rattle.xa_model.specs.Turn.{Turn, taken}
use Rattle.xa_model.specs.Worked.{xarm, byte, done, number}
use Rattle.xa_model.specs.Worked.Device.{down_with}
use Rattle.xa_model.specs.Worked.Log.{xid_1, xid_2, put_1, write}
use Rattle.xa_model.specs.Worked.Recovery.{lists}
use Rattle.xa_model.specs.Worked.Scripts.{Replied, new_manager, xid_a, xid_b, xid_c, time, found, not_there, kept}
use Rattle.xa_model.specs.Worked.Scripts.{refused, lost, with_outcome, session, begins, writes, prepares, commits}
use Rattle.xa_model.specs.Worked.Scripts.{completes, rolls_back, gets, restarts}
use Rattle.xa_model.specs.Worked.Turns.{Takes, asking, preparing, restarting, reopening}
use Rattle.xa_model.specs.Worked.Turns.{idle, in_doubt, held, nothing_held}
use Rattle.xa_model.specs.Worked.Turns.{prepared_1, record_of, no_device}

-- the record is appended with the one before, and kept, refused or lost with it
abbrev pub together : Appending → Entry → Entry
together appending e = with_outcome (Joined appending) e

-- 1:aa:, 1:bb: and 1:cc: each put at 6b, and are left
abbrev pub three : List Entry
three =
    session 1
    ++ writes 1 xid_a 1 0x61
    ++ writes 1 xid_b 2 0x62
    ++ writes 1 xid_c 3 0x63
    ++ []

-- Of three that are kept each is answered, and acts, as it would alone.
abbrev pub GroupKept : Type 0
GroupKept =
    Replied new_manager (
    three
    ++ kept (prepares 1 xid_a done)
    ∷ together Kept (prepares 1 xid_b done)
    ∷ together Kept (commits 1 xid_c done)
    ∷ lists (xid_a ∷ xid_b ∷ [])
    ∷ begins 1 xid_c (time 4)
    ∷ gets 1 (found 0x63)
    ∷ [])

-- So is each of three that are refused: a commit in one phase rolls its branch back, and the others may ask again.
abbrev pub GroupRefused : Type 0
GroupRefused =
    let failed = detailed XAER_RMERR detail.Device in
    Replied new_manager (
    three
    ++ refused (prepares 1 xid_a failed)
    ∷ together Refused (prepares 1 xid_b failed)
    ∷ together Refused (commits 1 xid_c failed)
    ∷ lists []
    ∷ kept (prepares 1 xid_b done)
    ∷ together Kept (prepares 1 xid_a done)
    ∷ lists (xid_a ∷ xid_b ∷ [])
    ∷ begins 1 xid_c (time 4)
    ∷ [])

-- Of completions that are refused the commit may be asked again, and all stay in doubt.
abbrev pub CompletionsRefused : Type 0
CompletionsRefused =
    Replied new_manager (
    three
    ++ kept (prepares 1 xid_a done)
    ∷ together Kept (prepares 1 xid_b done)
    ∷ refused (completes 1 xid_a (detailed XA_RETRY detail.Device))
    ∷ together Refused (rolls_back 1 xid_b (detailed XAER_RMERR detail.Device))
    ∷ lists (xid_a ∷ xid_b ∷ [])
    ∷ kept (completes 1 xid_a done)
    ∷ together Kept (rolls_back 1 xid_b done)
    ∷ lists []
    ∷ [])

-- Of three that are lost each is answered that its fate is unknown, and the manager is down.
abbrev pub lost_group : List Entry
lost_group =
    three
    ++ lost (prepares 1 xid_a no_device)
    ∷ together Lost (prepares 1 xid_b no_device)
    ∷ together Lost (commits 1 xid_c no_device)
    ∷ gets 1 (plain XAER_RMFAIL)
    ∷ []

-- A restart finds none of them, or the first, or the first two, or all, and no more than there are.
abbrev pub GroupLost : Type 0
GroupLost =
    let begins_next = begins 1 xid_c (number 8589934593) in
    Replied new_manager (lost_group ++ restarts 1 0 done ∷ lists [] ∷ begins_next ∷ gets 1 not_there ∷ [])
    × Replied new_manager (lost_group ++ restarts 1 1 done ∷ lists (xid_a ∷ []) ∷ begins_next ∷ [])
    × Replied new_manager (
    lost_group
    ++ restarts 1 2 done
    ∷ lists (xid_a ∷ xid_b ∷ [])
    ∷ begins_next
    ∷ gets 1 (detailed XA_RETRY detail.Busy)
    ∷ [])
    × Replied new_manager (
    lost_group ++ restarts 1 3 done ∷ lists (xid_a ∷ xid_b ∷ []) ∷ begins_next ∷ gets 1 (found 0x63) ∷ [])
    × (replay new_manager (happened (lost_group ++ restarts 1 4 done ∷ [])) ≡ None)

-- Two in doubt, of which one is committed, and the other rolled back, in a group with a third that is prepared. It is
-- cut between its records: the first is done, and those after it aren't.
abbrev pub GroupCut : Type 0
GroupCut =
    Replied new_manager (
    three
    ++ kept (prepares 1 xid_a done)
    ∷ together Kept (prepares 1 xid_b done)
    ∷ lost (completes 1 xid_a no_device)
    ∷ together Lost (prepares 1 xid_c no_device)
    ∷ together Lost (rolls_back 1 xid_b no_device)
    ∷ restarts 1 1 done
    ∷ lists (xid_b ∷ [])
    ∷ kept (rolls_back 1 xid_b done)
    ∷ begins 1 xid_c (number 8589934593)
    ∷ gets 1 (found 0x61)
    ∷ [])

-- A commit is lost with the prepare of another branch, which may be found without it.
abbrev pub CommitWithPrepare : Type 0
CommitWithPrepare =
    let lost_together =
    three
    ++ kept (prepares 1 xid_a done)
    ∷ lost (prepares 1 xid_b no_device)
    ∷ together Lost (completes 1 xid_a no_device)
    ∷ []
    in
    Replied new_manager (lost_together ++ restarts 1 1 done ∷ lists (xid_a ∷ xid_b ∷ []) ∷ [])
    × Replied new_manager (lost_together ++ restarts 1 2 done ∷ lists (xid_b ∷ []) ∷ [])

-- A manager that is down refuses what was not asked with the group, and stays as it is.
abbrev pub RefusedWhileDown : Type 0
RefusedWhileDown =
    Replied new_manager (
    three
    ++ lost (prepares 1 xid_a no_device)
    ∷ prepares 1 xid_b (plain XAER_RMFAIL)
    ∷ together Lost (prepares 1 xid_c no_device)
    ∷ prepares 1 xid_b (plain XAER_RMFAIL)
    ∷ restarts 1 2 done
    ∷ lists (xid_a ∷ xid_c ∷ [])
    ∷ [])

-- An entry joins one before it that appended, and became the same.
abbrev pub WhichJoin : Type 0
WhichJoin =
    let first = kept (prepares 1 xid_a done) in
    let next = together Kept (prepares 1 xid_b done) in
    HasGroups (first ∷ next ∷ next ∷ first ∷ next ∷ [])
    × (HasGroups (next ∷ []) → ⊥)
    × (HasGroups (first ∷ together Refused (prepares 1 xid_b done) ∷ []) → ⊥)
    × (HasGroups (first ∷ gets 1 not_there ∷ next ∷ []) → ⊥)

-- Turns

-- 1:aa:bb and 1:cc: are at work, each with a write of its own key
abbrev pub branch_2 : Branch
branch_2 = record {
  timestamp = 4294967298;
  operations = Wrote (byte 0x6c) (Some (byte 0x77)) ∷ [];
  phase = Working xid_2 (new_work 0 0);
}

abbrev pub two_idle : State
two_idle = record idle { given = 2; branches = branch_2 ∷ idle.branches }

abbrev pub prepared_2 : Record
prepared_2 = logged.Prepared xid_2 4294967298 (write 0x6c 0x77 ∷ [])

-- both records are lost
abbrev pub two_lost : State
two_lost = record (down_with two_idle prepared_1) { open_records = prepared_1 ∷ prepared_2 ∷ [] }

abbrev pub preparing_2 : State → Turn
preparing_2 s = asking s (request.Prepare TMNOFLAGS xid_2)

abbrev pub both_held : Durable
both_held = record held {
  prepared =
      record { xid = xid_1; timestamp = 4294967297; writes = put_1 }
      ∷ record { xid = xid_2; timestamp = 4294967298; writes = write 0x6c 0x77 ∷ [] }
      ∷ [];
}

-- One more record is open, after the one before. A crash leaves none of them, the first, or both.
abbrev pub FatesOfGroup : Type 0
FatesOfGroup =
    let first_lost = down_with two_idle prepared_1 in
    let both_lost = record first_lost { open_records = prepared_1 ∷ prepared_2 ∷ [] } in
    (record_of (preparing_2 first_lost) ≡ Some prepared_2)
    × Takes (preparing_2 first_lost) (Joined Lost) no_device both_lost
    × Takes (preparing_2 first_lost) Quiet (plain XAER_RMFAIL) first_lost
    × (fates both_lost ≡ nothing_held ∷ held ∷ both_held ∷ [])
    × (record_of (preparing_2 (supposed first_lost)) ≡ Some prepared_2)

-- A single append isn't lost with another, and of a group none is kept or refused once the first is lost. Nor is
-- one lost with it that would append nothing by then. What a manager that is up refuses joins nothing, nor does a trim
-- or a restart.
abbrev pub WhatJoins : Type 0
WhatJoins =
    let first_lost = down_with two_idle prepared_1 in
    Takes (preparing idle) (Joined Kept) done in_doubt
    × Takes (preparing idle) (Joined Refused) (detailed XAER_RMERR detail.Device) idle
    × (taken (preparing idle) (Joined Lost) ≡ None)
    × (taken (preparing_2 first_lost) (Joined Kept) ≡ None)
    × (taken (preparing_2 first_lost) (Joined Refused) ≡ None)
    × (taken (preparing first_lost) (Joined Lost) ≡ None)
    × (taken (preparing in_doubt) (Joined Kept) ≡ None)
    × (taken (trim_turn in_doubt) (Joined Kept) ≡ None)
    × (taken (restarting in_doubt) (Joined Kept) ≡ None)
    × (taken (restarting first_lost) (Joined Lost) ≡ None)

-- A boot's record that was lost is joined by none; nor is a manager that is down, and has lost nothing.
abbrev pub NoneJoinsBoot : Type 0
NoneJoinsBoot =
    let lost_boot = down_with idle (logged.Opened 2) in
    let down = record lost_boot { open_records = [] } in
    Takes (preparing lost_boot) Quiet (plain XAER_RMFAIL) lost_boot
    × (taken (preparing lost_boot) (Joined Lost) ≡ None)
    × Takes (preparing down) Quiet (plain XAER_RMFAIL) down
    × (taken (preparing down) (Joined Lost) ≡ None)

-- An opening finds the first of the open records too.
abbrev pub GroupReopened : Type 0
GroupReopened =
    let both_lost = record two_idle { standing = Down; open_records = prepared_1 ∷ prepared_2 ∷ [] } in
    let reopened = reopening both_lost 1073741824 in
    Takes reopened (Reread 0 (Some Kept)) done (opening nothing_held xarm 1073741824 2)
    × Takes reopened (Reread 1 (Some Kept)) done (opening held xarm 1073741824 2)
    × Takes reopened (Reread 2 (Some Kept)) done (opening both_held xarm 1073741824 2)
    × (taken reopened (Reread 3 (Some Kept)) ≡ None)

-- Of what is lost with a group a commit may be done, and a prepare isn't answered as prepared.
abbrev pub LostPromises : Type 0
LostPromises =
    AsksCompletion xid_a (together Lost (completes 1 xid_a no_device))
    × (HasPrepared xid_b (together Lost (prepares 1 xid_b no_device)) → ⊥)

-- The room of a prepare is judged as if a completion before it were kept and refused: 110 + 46 + 60 + 4 + 2 * 343. With
-- less it may have room if that is kept, and none if it is refused.
abbrev pub JudgedTogether : Type 0
JudgedTogether =
    let one_in_doubt = record in_doubt { given = 2; branches = branch_2 ∷ in_doubt.branches } in
    let completed_1 = logged.Completed xid_1 direction.Commit in
    (has_room_after (completed_1 ∷ []) (record one_in_doubt { log_bytes = 906 }) prepared_2 ≡ true)
    × (has_room_after (completed_1 ∷ []) (record one_in_doubt { log_bytes = 905 }) prepared_2 ≡ false)
    × (has_room_for (applied completed_1 (record one_in_doubt { log_bytes = 859 })) prepared_2 ≡ true)
    × (has_room_for (record one_in_doubt { log_bytes = 859 }) prepared_2 ≡ false)

-- While a group is on its way, whether it is finally kept or refused, a crash may leave none of it, its first record,
-- or all of it, and never the second record without the first.
abbrev pub second_held : Durable
second_held = record held {
  prepared = record { xid = xid_2; timestamp = 4294967298; writes = write 0x6c 0x77 ∷ [] } ∷ [];
}

abbrev pub LeavesFirstPart : List Entry → Type 0
LeavesFirstPart group =
    MayBeLeftIn two_idle group nothing_held
    × MayBeLeftIn two_idle group held
    × MayBeLeftIn two_idle group both_held
    × (MayBeLeftIn two_idle group second_held → ⊥)

abbrev pub GroupLeaves : Type 0
GroupLeaves =
    let failed = detailed XAER_RMERR detail.Device in
    LeavesFirstPart (kept (prepares 1 xid_1 done) ∷ together Kept (prepares 1 xid_2 done) ∷ [])
    × LeavesFirstPart (refused (prepares 1 xid_1 failed) ∷ together Refused (prepares 1 xid_2 failed) ∷ [])
