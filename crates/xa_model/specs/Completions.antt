-- The turns of the calls that prepare, complete and forget branches, with what they log.
use Rattle.std.specs.Prelude.{Option, [], ◌∷◌, not, Bool, true, false, if◌then◌else◌}
use Rattle.xa_codes.specs.declared.codes.TheConstants.{XAER_PROTO, XAER_NOTA, XAER_RMERR, XA_RDONLY, XA_RETRY}
use Rattle.xa_codes.specs.declared.direction.Direction.{Direction}
use Rattle.xa_codes.specs.declared.direction.Direction.TheVariants.{Commit, Rollback}
use Rattle.xa_xid.specs.Triple.{Triple}
use Rattle.xa_frame.specs.declared.reply.Reply.{Reply}
use Rattle.xa_record.specs.declared.record.Record.TheVariants as logged
use Rattle.xa_model.specs.State.{State, Known, InDoubt, Completed, known_as}
use Rattle.xa_model.specs.Answer.{plain, answer, ok, first}
use Rattle.xa_model.specs.Associations.{is_unknown, mark_in, timestamp_in}
use Rattle.xa_model.specs.Phases.{is_associated, unprepared_refusal, two_phase_refusal, rollback_refusal}
use Rattle.xa_model.specs.Phases.{heuristic_refusal, rolled_back, committed}
use Rattle.xa_model.specs.Fold.{is_empty}
use Rattle.xa_model.specs.Turn.{Turn, Now, unless_now, marked_now}
use Rattle.xa_model.specs.Logging.{logs, has_room, log_full, writes_in}

-- Prepare: a branch that is associated, prepared or completed isn't prepared, as it isn't committed in one phase. A
-- branch without writes counts as committed, and nothing is logged of it.
abbrev pub prepare_written : State → Triple → Turn
prepare_written s xid =
    let r = logged.Prepared xid (timestamp_in s xid) (writes_in s xid) in
    if has_room s r 1 then logs s r XAER_RMERR s else Now (log_full s xid)

abbrev pub prepare_turn : State → Triple → Turn
prepare_turn s xid =
    unless_now (unprepared_refusal (known_as s xid) (is_associated s xid)) s
    (marked_now (mark_in (known_as s xid)) (rolled_back s xid)
    (if is_empty (writes_in s xid) then Now (answer (plain XA_RDONLY) (committed s xid)) else prepare_written s xid))

-- Commit with TMONEPHASE: a branch whose record is refused is rolled back, and gone
abbrev pub commit_written : State → Triple → Turn
commit_written s xid =
    let r = logged.Committed xid (timestamp_in s xid) (writes_in s xid) in
    if has_room s r 0 then logs s r XAER_RMERR (rolled_back s xid) else Now (log_full s xid)

abbrev pub commit_one_phase_turn : State → Triple → Turn
commit_one_phase_turn s xid =
    unless_now (unprepared_refusal (known_as s xid) (is_associated s xid)) s
    (marked_now (mark_in (known_as s xid)) (rolled_back s xid)
    (if is_empty (writes_in s xid) then Now (ok (committed s xid)) else commit_written s xid))

-- Commit in two phases: the coordinator may ask again if the record is refused
abbrev pub commit_two_phase_turn : State → Triple → Turn
commit_two_phase_turn s xid =
    unless_now (two_phase_refusal (known_as s xid)) s
    (unless_now (heuristic_refusal (known_as s xid)) s (logs s (logged.Completed xid Commit) XA_RETRY s))

-- Rollback: only for a prepared branch anything is logged
abbrev pub roll_back_turn : State → Triple → Known → Turn
roll_back_turn s xid InDoubt = logs s (logged.Completed xid Rollback) XAER_RMERR s
roll_back_turn s xid known = marked_now (mark_in known) (rolled_back s xid) (Now (ok (rolled_back s xid)))

abbrev pub rollback_turn : State → Triple → Turn
rollback_turn s xid =
    unless_now (rollback_refusal (known_as s xid) (is_associated s xid)) s
    (unless_now (heuristic_refusal (known_as s xid)) s (roll_back_turn s xid (known_as s xid)))

-- Decide: the operator completes a prepared branch
abbrev pub is_doubtful : Known → Bool
is_doubtful InDoubt = true
is_doubtful _ = false

abbrev pub decide_refusal : Known → Option Reply
decide_refusal known = first ((is_unknown known, plain XAER_NOTA) ∷ (not (is_doubtful known), plain XAER_PROTO) ∷ [])

abbrev pub decide_turn : State → Direction → Triple → Turn
decide_turn s direction xid =
    unless_now (decide_refusal (known_as s xid)) s (logs s (logged.Decided xid direction) XAER_RMERR s)

-- Forget: of what the operator completed
abbrev pub is_completed : Known → Bool
is_completed (Completed direction) = true
is_completed _ = false

abbrev pub forget_refusal : Known → Option Reply
forget_refusal known = first ((is_unknown known, plain XAER_NOTA) ∷ (not (is_completed known), plain XAER_PROTO) ∷ [])

abbrev pub forget_turn : State → Triple → Turn
forget_turn s xid = unless_now (forget_refusal (known_as s xid)) s (logs s (logged.Forgotten xid) XAER_RMERR s)
