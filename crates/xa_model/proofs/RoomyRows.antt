-- Rows leave a log's size as it is, and log a branch's writes only where there is room.
use Rattle.std.proofs.Common.{◌≡◌, ℕ, ℤ, Bool, true, false, cond, List, Option, Some, None, refl}
use Rattle.std.specs.List.{list_any}
use Rattle.xa_codes.specs.Flags.{has}
use Rattle.xa_codes.specs.declared.codes.TheConstants.{XAER_RMERR, XA_RETRY, XA_RDONLY}
use Rattle.xa_codes.specs.declared.direction.Direction.TheVariants as direction
use Rattle.xa_codes.specs.declared.flags.TheConstants.{TMONEPHASE}
use Rattle.xa_frame.specs.declared.reply.Reply.{Reply}
use Rattle.xa_frame.specs.declared.request.Request.{Request}
use Rattle.xa_frame.specs.declared.request.Request.TheVariants.{Open, Close, Start, End, Prepare, Commit, Rollback, Forget, Recover, Get, Put, Delete, Decide, Doom, Restart, Timeout, Tick, Trim, Branches}
use Rattle.xa_record.specs.declared.record.Record.TheVariants as logged
use Rattle.xa_xid.specs.Triple.{Triple}
use Rattle.xa_model.specs.declared.event.Event.{Event}
use Rattle.xa_model.specs.declared.event.Event.TheVariants as event
use Rattle.xa_model.specs.declared.outcome.Appending.TheVariants.{Refused}
use Rattle.xa_model.specs.State.{State, Branch, Known, Unknown, AtWork, InDoubt, Completed, known_as, own_branch}
use Rattle.xa_model.specs.Answer.{Answer, plain, answer, ok}
use Rattle.xa_model.specs.Early.{early_refusal}
use Rattle.xa_model.specs.Associations.{connect_refusal, connected, close_refusal, is_of_session, start_by, end_by, mark_in, timestamp_in}
use Rattle.xa_model.specs.Phases.{rolled_back, committed, unprepared_refusal, two_phase_refusal, rollback_refusal, heuristic_refusal, doom_refusal, doomed, is_associated}
use Rattle.xa_model.specs.Data.{get_by, put_by}
use Rattle.xa_model.specs.Recovering.{recovered_from, scan_from, scan_of}
use Rattle.xa_model.specs.Step.{row, respond, context_of}
use Rattle.xa_model.specs.Turn.{Turn, Now, Appends, unless_now, marked_now}
use Rattle.xa_model.specs.Logging.{logs, has_room, log_full, writes_in}
use Rattle.xa_model.specs.Completions.{prepare_turn, prepare_written, commit_one_phase_turn, commit_two_phase_turn, commit_written, rollback_turn, roll_back_turn, decide_refusal, forget_refusal}
use Rattle.xa_model.specs.Fold.{is_empty}
use Rattle.xa_model.specs.Events.{asks_boot, begins_boot}
use Rattle.xa_model.proofs.Rooms.{HasRoomFor}
use Rattle.xa_model.proofs.OfAnswers.{unless_after}
use Rattle.xa_model.proofs.OfRows.{start_after, end_after, get_after, put_after}

-- what is answered at once, and what a refused record leaves, has a log of as many bytes
abbrev pub AsksRoom : State → Turn → Type 0
AsksRoom s (Now a) = a.after.log_bytes ≡ s.log_bytes
AsksRoom s (Appends r after) = HasRoomFor s r × ((after Refused).after.log_bytes ≡ s.log_bytes)
AsksRoom s _ = ⊥

abbrev HasBytesOf : State → State → Type 0
HasBytesOf s t = t.log_bytes ≡ s.log_bytes

abbrev Same : State → Answer → Type 0
Same s a = HasBytesOf s a.after

-- the association table

start_same : (s : State) (n flags : ℕ) (xid : Triple) → Same s (start_by s n flags xid)
start_same s n flags xid = start_after (HasBytesOf s) s refl n flags xid refl refl refl (λ none. refl)

end_same : (s : State) (n flags : ℕ) (xid : Triple) → Same s (end_by s n flags xid)
end_same s n flags xid = end_after (HasBytesOf s) s refl n flags xid refl (λ migrates none. refl) refl refl

-- recoveries, gets and puts

recovered_same : (s : State) (n flags count : ℕ) (scan : Option (Option Triple)) → Same s (recovered_from s n flags count scan)
recovered_same s n flags count None = refl
recovered_same s n flags count (Some cursor) = refl

get_same : (s : State) (key : List ℕ) (o : Option (Triple × Branch)) → Same s (get_by s key o)
get_same s key None = refl
get_same s key (Some (xid, b)) = get_after (HasBytesOf s) s refl key xid b (λ none. refl)

put_same : (s : State) (key : List ℕ) (value : Option (List ℕ)) (o : Option (Triple × Branch)) → Same s (put_by s key value o)
put_same s key value None = refl
put_same s key value (Some (xid, b)) = put_after (HasBytesOf s) s refl key value xid b refl (λ none timely. refl)

-- the calls that log

unless_asks : (o : Option Reply) (s : State) (t : Turn) → AsksRoom s t → AsksRoom s (unless_now o s t)
unless_asks None s t h = h
unless_asks (Some reply) s t h = refl

marked_asks : (o : Option ℤ) (s left : State) (t : Turn) → left.log_bytes ≡ s.log_bytes → AsksRoom s t → AsksRoom s (marked_now o left t)
marked_asks None s left t h k = k
marked_asks (Some code) s left t h k = h

cond_asks : (c : Bool) (s : State) (t u : Turn) → (c ≡ true → AsksRoom s t) → AsksRoom s u → AsksRoom s (cond c t u)
cond_asks true s t u h k = h refl
cond_asks false s t u h k = k

prepare_asks : (s : State) (xid : Triple) → AsksRoom s (prepare_turn s xid)
prepare_asks s xid =
    let r = logged.Prepared xid (timestamp_in s xid) (writes_in s xid) in
    unless_asks (unprepared_refusal (known_as s xid) (is_associated s xid)) s _
    (marked_asks (mark_in (known_as s xid)) s (rolled_back s xid) _ refl
    (cond_asks (is_empty (writes_in s xid)) s (Now (answer (plain XA_RDONLY) (committed s xid))) (prepare_written s xid) (λ empty. refl)
    (cond_asks (has_room s r 1) s (logs s r XAER_RMERR s) (Now (log_full s xid)) (λ room. (room, refl)) refl)))

one_phase_asks : (s : State) (xid : Triple) → AsksRoom s (commit_one_phase_turn s xid)
one_phase_asks s xid =
    let r = logged.Committed xid (timestamp_in s xid) (writes_in s xid) in
    unless_asks (unprepared_refusal (known_as s xid) (is_associated s xid)) s _
    (marked_asks (mark_in (known_as s xid)) s (rolled_back s xid) _ refl
    (cond_asks (is_empty (writes_in s xid)) s (Now (ok (committed s xid))) (commit_written s xid) (λ empty. refl)
    (cond_asks (has_room s r 0) s (logs s r XAER_RMERR (rolled_back s xid)) (Now (log_full s xid)) (λ room. (room, refl)) refl)))

two_phase_asks : (s : State) (xid : Triple) → AsksRoom s (commit_two_phase_turn s xid)
two_phase_asks s xid =
    unless_asks (two_phase_refusal (known_as s xid)) s _
    (unless_asks (heuristic_refusal (known_as s xid)) s (logs s (logged.Completed xid direction.Commit) XA_RETRY s) (tt, refl))

roll_back_asks : (s : State) (xid : Triple) (k : Known) → AsksRoom s (roll_back_turn s xid k)
roll_back_asks s xid InDoubt = (tt, refl)
roll_back_asks s xid Unknown = refl
roll_back_asks s xid (AtWork mark) = marked_asks mark s (rolled_back s xid) (Now (ok (rolled_back s xid))) refl refl
roll_back_asks s xid (Completed direction) = refl

rollback_asks : (s : State) (xid : Triple) → AsksRoom s (rollback_turn s xid)
rollback_asks s xid =
    unless_asks (rollback_refusal (known_as s xid) (is_associated s xid)) s _
    (unless_asks (heuristic_refusal (known_as s xid)) s (roll_back_turn s xid (known_as s xid)) (roll_back_asks s xid (known_as s xid)))

-- all rows

row_asks : (s : State) (n : ℕ) (request : Request) → asks_boot request ≡ false → AsksRoom s (row s n request)
row_asks s n (Open flags info) e = refl
row_asks s n (Close flags) e = unless_after (HasBytesOf s) (close_refusal (list_any (is_of_session n) s.associations)) s _ refl (λ none. refl)
row_asks s n (Start flags xid) e = start_same s n flags xid
row_asks s n (End flags xid) e = end_same s n flags xid
row_asks s n (Prepare flags xid) e = prepare_asks s xid
row_asks s n (Commit flags xid) e =
    cond_asks (has flags TMONEPHASE) s (commit_one_phase_turn s xid) (commit_two_phase_turn s xid) (λ one. one_phase_asks s xid)
    (two_phase_asks s xid)
row_asks s n (Rollback flags xid) e = rollback_asks s xid
row_asks s n (Forget flags xid) e =
    unless_asks (forget_refusal (known_as s xid)) s (logs s (logged.Forgotten xid) XAER_RMERR s) (tt, refl)
row_asks s n (Recover flags count) e = recovered_same s n flags count (scan_from flags (scan_of s.sessions n))
row_asks s n (Get key) e = get_same s key (own_branch s n)
row_asks s n (Put key value) e = put_same s key (Some value) (own_branch s n)
row_asks s n (Delete key) e = put_same s key None (own_branch s n)
row_asks s n (Decide direction xid) e =
    unless_asks (decide_refusal (known_as s xid)) s (logs s (logged.Decided xid direction) XAER_RMERR s) (tt, refl)
row_asks s n (Doom xid) e = unless_after (HasBytesOf s) (doom_refusal (known_as s xid)) s (ok (doomed s xid)) refl (λ none. refl)
row_asks s n Restart e = absurd (cc e)
row_asks s n (Timeout seconds) e = refl
row_asks s n (Tick moment) e = refl
row_asks s n Trim e = absurd (cc e)
row_asks s n (Branches count after) e = refl

pub events_ask_room : (s : State) (e : Event) → begins_boot e ≡ false → AsksRoom s (respond s e)
events_ask_room s event.Connect e = unless_after (HasBytesOf s) (connect_refusal _) s (connected s) refl (λ none. refl)
events_ask_room s (event.Hangup n) e = refl
events_ask_room s (event.Call n request) e =
    unless_asks (early_refusal (context_of s n) request) s (row s n request) (row_asks s n request e)
