-- Every row is a move of timestamps, reads and writes, whatever becomes of its record: flags, marks, associations and outcomes
-- choose among moves, and no more.
use Rattle.std.proofs.Common.{◌≡◌, ℕ, ℤ, ◌+◌, ◌≤◌, Bool, true, false, cond, List, [], ◌∷◌, Option, Some, None, refl, sym, ◌∙◌, ap, subst, arith}
use Rattle.std.specs.Prelude.{map, find, option_map, option_and_then}
use Rattle.std.specs.List.{list_any}
use Rattle.xa_codes.specs.Flags.{has}
use Rattle.xa_codes.specs.declared.codes.TheConstants.{XA_OK, XAER_RMERR, XA_RETRY, XA_RDONLY, XA_RBTRANSIENT, XA_RBOTHER, XA_RBROLLBACK, XA_RBCOMMFAIL, XA_RBTIMEOUT}
use Rattle.xa_codes.specs.declared.direction.Direction.TheVariants as direction
use Rattle.xa_codes.specs.declared.flags.TheConstants.{TMONEPHASE}
use Rattle.xa_frame.specs.declared.reply.Reply.{Reply}
use Rattle.xa_frame.specs.declared.request.Request.{Request}
use Rattle.xa_frame.specs.declared.request.Request.TheVariants.{Open, Close, Start, End, Prepare, Commit, Rollback, Forget, Recover, Get, Put, Delete, Decide, Doom, Restart, Timeout, Tick, Trim, Branches}
use Rattle.xa_record.specs.declared.record.Record.{Record}
use Rattle.xa_record.specs.declared.record.Record.TheVariants as logged
use Rattle.xa_xid.specs.Triple.{Triple, xid_eq}
use Rattle.xa_xid.proofs.Same.{xid_eq_itself}
use Rattle.xa_model.specs.declared.event.Event.{Event}
use Rattle.xa_model.specs.declared.event.Event.TheVariants as event
use Rattle.xa_model.specs.State.{State, Association, Branch, Phase, Working, Prepared, Committed, Known, Unknown, AtWork, InDoubt, Completed, count, known_as, known_of, is_known_as, is_committed, active_of, is_active, branch_with, own_branch, mark_of, change, without, holders_of, limit_of, is_working, is_at_work}
use Rattle.xa_model.specs.Answer.{Answer, plain, answer, ok}
use Rattle.xa_model.specs.Early.{early_refusal}
use Rattle.xa_model.specs.Associations.{connect_refusal, connected, close_refusal, is_of_session, with_mark, marked_phase, or_mark, left_behind, is_worked_by, start_by, end_by, mark_in, timestamp_in}
use Rattle.xa_model.specs.Phases.{rolled_back, committed, as_committed, as_prepared, prepared_phase, unprepared_refusal, two_phase_refusal, rollback_refusal, heuristic_refusal, doom_refusal, doomed, is_associated}
use Rattle.xa_model.specs.Data.{get_by, put_by}
use Rattle.xa_model.specs.TimeLimits.{runs_out, timed_out}
use Rattle.xa_model.specs.Recovering.{recovered_from, scan_from, scan_of}
use Rattle.xa_model.specs.Step.{row, respond, context_of}
use Rattle.xa_model.specs.Turn.{Turn, Now, unless_now}
use Rattle.xa_model.specs.Logging.{logs, has_room, log_full, writes_in, applied, append_became}
use Rattle.xa_model.specs.Completions.{prepare_turn, prepare_written, commit_one_phase_turn, commit_two_phase_turn, commit_written, rollback_turn, roll_back_turn, decide_refusal, forget_refusal}
use Rattle.xa_model.specs.Invariants.Sound.{IsSound}
use Rattle.xa_model.specs.Fold.{is_empty}
use Rattle.xa_model.specs.Invariants.Loggable.{IsRecoverable}
use Rattle.xa_model.specs.Events.{begins_boot}
use Rattle.xa_model.proofs.Rows.{passed}
use Rattle.xa_model.proofs.Replies.{AllOf, unless_all, marked_all, cond_all, each_fate}
use Rattle.xa_model.proofs.AppliedAll.{applied_changes}
use Rattle.xa_model.proofs.Moves.{core, GoesOn, Remain, Moves, remains, begins, gets, puts, as_it_is, all_remain, changed_remain, mapped_remain, left_remain}
use Rattle.xa_model.proofs.OfAnswers.{unless_after}
use Rattle.xa_model.proofs.OfRows.{start_after, end_after, get_after, put_after}

-- the state after the answer is a move away
abbrev MovesTo : State → State → Type 0
MovesTo s t = Moves (core s) (core t)

abbrev pub Moved : State → Answer → Type 0
Moved s a = MovesTo s a.after

pub itself : (s : State) → Moves (core s) (core s)
itself s = remains s.branches (all_remain s.branches)

-- branches that change, or leave

marked_committed : (code : ℤ) (p : Phase) → is_committed p ≡ true → is_committed (marked_phase code p) ≡ true
marked_committed code (Working xid work) e = absurd (cc e)
marked_committed code (Prepared xid) e = e
marked_committed code Committed e = e

or_mark_ok : (code : ℤ) (mark : Option ℤ) → (code ≡ XA_OK → ⊥) → or_mark mark code ≡ Some XA_OK → mark ≡ Some XA_OK
or_mark_ok code (Some other) bad e = e
or_mark_ok code None bad e = absurd (bad (cc e))

marked_ok : (code : ℤ) (p : Phase) → (code ≡ XA_OK → ⊥) → mark_of (marked_phase code p) ≡ Some XA_OK → mark_of p ≡ Some XA_OK
marked_ok code (Working xid work) bad e = or_mark_ok code work.mark bad e
marked_ok code (Prepared xid) bad e = e
marked_ok code Committed bad e = e

marked_works : (code : ℤ) (p : Phase) → is_working (marked_phase code p) ≡ true → is_working p ≡ true
marked_works code (Working xid work) e = refl
marked_works code (Prepared xid) e = e
marked_works code Committed e = e

mark_goes : (code : ℤ) → (code ≡ XA_OK → ⊥) → (b : Branch) → GoesOn b (with_mark code b)
mark_goes code bad b = record {
  timestamp = refl;
  operations = refl;
  committed = marked_committed code b.phase;
  works = marked_works code b.phase;
  mark = marked_ok code b.phase bad;
}

maybe_goes : (code : ℤ) → (code ≡ XA_OK → ⊥) → (b : Branch) (c : Bool) → GoesOn b (cond c (with_mark code b) b)
maybe_goes code bad b true = mark_goes code bad b
maybe_goes code bad b false = as_it_is b

left_goes : (held : List Association) (n : ℕ) (b : Branch) → GoesOn b (left_behind held n b)
left_goes held n b = maybe_goes XA_RBCOMMFAIL (λ e. cc e) b (is_worked_by held n b.phase)

timed_goes : (moment : ℕ) (b : Branch) → GoesOn b (timed_out moment b)
timed_goes moment b = maybe_goes XA_RBTIMEOUT (λ e. cc e) b (runs_out moment b)

committed_goes : (b : Branch) → GoesOn b (as_committed b)
committed_goes b = record {
  timestamp = refl;
  operations = refl;
  committed = λ e. refl;
  works = λ e. absurd (cc e);
  mark = λ e. absurd (cc e);
}

prepared_committed : (p : Phase) → is_committed p ≡ true → is_committed (prepared_phase p) ≡ true
prepared_committed (Working xid work) e = absurd (cc e)
prepared_committed (Prepared xid) e = e
prepared_committed Committed e = e

pub prepared_idle : (p : Phase) → is_working (prepared_phase p) ≡ true → ⊥
prepared_idle (Working xid work) e = cc e
prepared_idle (Prepared xid) e = cc e
prepared_idle Committed e = cc e

prepared_ok : (p : Phase) → mark_of (prepared_phase p) ≡ Some XA_OK → mark_of p ≡ Some XA_OK
prepared_ok (Working xid work) e = absurd (cc e)
prepared_ok (Prepared xid) e = e
prepared_ok Committed e = e

prepared_goes : (b : Branch) → GoesOn b (as_prepared b)
prepared_goes b = record {
  timestamp = refl;
  operations = refl;
  committed = prepared_committed b.phase;
  works = λ e. absurd (prepared_idle b.phase e);
  mark = prepared_ok b.phase;
}

pub gone : (s : State) (xid : Triple) → Moves (core s) (core (rolled_back s xid))
gone s xid = remains (without (is_known_as xid) s.branches) (left_remain xid s.branches)

pub commits : (s : State) (xid : Triple) → Moves (core s) (core (committed s xid))
commits s xid = remains (change (is_known_as xid) as_committed s.branches) (changed_remain (is_known_as xid) as_committed committed_goes s.branches)

marks : (s : State) (code : ℤ) (xid : Triple) → (code ≡ XA_OK → ⊥) → Moves (core s)
    (record (core s) { branches = change (is_known_as xid) (with_mark code) s.branches })
marks s code xid bad =
    remains (change (is_known_as xid) (with_mark code) s.branches)
    (changed_remain (is_known_as xid) (with_mark code) (mark_goes code bad) s.branches)

-- what a record does
pub applied_remain : (s : State) (r : Record) → Remain s.branches (applied r s).branches
applied_remain s (logged.Opened boot) = all_remain s.branches
applied_remain s (logged.Prepared xid t ws) = changed_remain (is_known_as xid) as_prepared prepared_goes s.branches
applied_remain s (logged.Committed xid t ws) = changed_remain (is_known_as xid) as_committed committed_goes s.branches
applied_remain s (logged.Completed xid direction.Commit) = changed_remain (is_known_as xid) as_committed committed_goes s.branches
applied_remain s (logged.Completed xid direction.Rollback) = left_remain xid s.branches
applied_remain s (logged.Decided xid direction.Commit) = changed_remain (is_known_as xid) as_committed committed_goes s.branches
applied_remain s (logged.Decided xid direction.Rollback) = left_remain xid s.branches
applied_remain s (logged.Forgotten xid) = all_remain s.branches
applied_remain s (logged.Base t ws) = all_remain s.branches
applied_remain s (logged.Held xid t ws) = all_remain s.branches
applied_remain s (logged.Known xid direction) = all_remain s.branches

pub applied_core : (s : State) (r : Record) → core (applied r s) ≡ record (core s) { branches = (applied r s).branches }
applied_core s r = ap core (applied_changes s r)

applies : (s : State) (r : Record) → Moves (core s) (core (applied r s))
applies s r = subst (Moves (core s)) (sym (applied_core s r)) (remains (applied r s).branches (applied_remain s r))

-- turns

logs_moved : (s : State) (r : Record) (code : ℤ) (left : State) → Moves (core s) (core left) → AllOf (Moved s) (logs s r code left)
logs_moved s r code left h = each_fate (λ x. Moved s (append_became s r code left x)) (applies s r) h (itself s)

unless_turns : (o : Option Reply) (s : State) (t : Turn) → AllOf (Moved s) t → AllOf (Moved s) (unless_now o s t)
unless_turns o s t h = unless_all (Moved s) o s t (λ reply e. itself s) h

-- the association table

start_moved : (s : State) (n flags : ℕ) (xid : Triple) → Moved s (start_by s n flags xid)
start_moved s n flags xid = start_after (MovesTo s) s (itself s) n flags xid (itself s) (itself s) (itself s) (λ none. begins xid s.moment (limit_of s n))

end_moved : (s : State) (n flags : ℕ) (xid : Triple) → Moved s (end_by s n flags xid)
end_moved s n flags xid = end_after (MovesTo s) s (itself s) n flags xid (itself s) (λ migrates none. itself s) (itself s) (marks s XA_RBROLLBACK xid (λ e. cc e))

-- gets and puts, by the branch that the session works for

pub record IsOwn (s : State) (n : ℕ) (xid : Triple) (b : Branch) : Type 0 where
  pub active : active_of s.associations n ≡ Some xid
  pub found : known_of s.branches xid ≡ Some b

known_by : (s : State) (n : ℕ) (x xid : Triple) (b : Branch) (o : Option Branch) → active_of s.associations n ≡ Some x → known_of s.branches x ≡ o
    → option_map {U = Triple × Branch} (λ (c : Branch). (x, c)) o ≡ Some (xid, b) → IsOwn s n xid b
known_by s n x xid b None active found e = absurd (cc e)
known_by s n x xid b (Some c) active found e =
    let pair : (x, c) ≡ (xid, b) = cc e in
    subst (λ (q : Triple × Branch). IsOwn s n q.0 q.1) pair (record { active = active; found = found })

own_by : (s : State) (n : ℕ) (xid : Triple) (b : Branch) (o : Option Triple) → active_of s.associations n ≡ o
    → option_and_then (branch_with s.branches) o ≡ Some (xid, b)
    → IsOwn s n xid b
own_by s n xid b None active e = absurd (cc e)
own_by s n xid b (Some x) active e = known_by s n x xid b (known_of s.branches x) active refl e

pub own : (s : State) (n : ℕ) (xid : Triple) (b : Branch) → own_branch s n ≡ Some (xid, b) → IsOwn s n xid b
own s n xid b e = own_by s n xid b (active_of s.associations n) refl e

counted_by : (p : Association → Bool) (x : Association) (xid : Triple) (held : List Association) (c : Bool)
    → option_map (λ a. a.xid) (cond c (Some x) (find p held)) ≡ Some xid
    → (option_map (λ a. a.xid) (find p held) ≡ Some xid → 1 ≤ holders_of held xid) → 1 ≤ cond (xid_eq x.xid xid) 1 0 + holders_of held xid
counted_by p x xid held true e rest =
    let same : x.xid ≡ xid = cc e in
    let here : xid_eq x.xid xid ≡ true = subst (λ (y : Triple). xid_eq y xid ≡ true) (sym same) (xid_eq_itself xid) in
    rw here (omega arith)
counted_by p x xid held false e rest = omega (arith, rest e)

pub counted : (p : Association → Bool) (xid : Triple) (held : List Association) → option_map (λ a. a.xid) (find p held) ≡ Some xid
    → 1 ≤ holders_of held xid
counted p xid [] e = absurd (cc e)
counted p xid (x ∷ held) e = counted_by p x xid held (p x) e (counted p xid held)

works_by : (s : State) (xid : Triple) (b : Branch) (c : Bool) → is_at_work (known_of s.branches xid) ≡ c → IsSound s
    → 1 ≤ holders_of s.associations xid
    → known_of s.branches xid ≡ Some b → is_working b.phase ≡ true
works_by s xid b true e h held found = sym (ap is_at_work found) ∙ e
works_by s xid b false e h held found = absurd (omega (arith, held, h.bound xid e))

-- who is associated with it works for it
pub own_works : (s : State) (n : ℕ) (xid : Triple) (b : Branch) → IsSound s → IsOwn s n xid b → is_working b.phase ≡ true
own_works s n xid b h o =
    works_by s xid b (is_at_work (known_of s.branches xid)) refl h
    (counted (λ a. is_active n a.holder) xid s.associations o.active) o.found

get_moved : (s : State) (n : ℕ) (key : List ℕ) (o : Option (Triple × Branch)) → own_branch s n ≡ o → Moved s (get_by s key o)
get_moved s n key None e = itself s
get_moved s n key (Some (xid, b)) e = get_after (MovesTo s) s (itself s) key xid b (λ none. gets key xid b (own s n xid b e).found (passed _ _ _ none).0)

put_moved : (s : State) (n : ℕ) (key : List ℕ) (value : Option (List ℕ)) (o : Option (Triple × Branch)) → own_branch s n ≡ o → IsRecoverable s
    → Moved s (put_by s key value o)
put_moved s n key value None e h = itself s
put_moved s n key value (Some (xid, b)) e h =
    put_after (MovesTo s) s (itself s) key value xid b (marks s XA_RBTRANSIENT xid (λ e. cc e))
    (λ none on_time. puts key value xid b (own s n xid b e).found (own_works s n xid b h.sound (own s n xid b e)) on_time)

-- the calls that log

prepare_moved : (s : State) (xid : Triple) → AllOf (Moved s) (prepare_turn s xid)
prepare_moved s xid =
    let r = logged.Prepared xid (timestamp_in s xid) (writes_in s xid) in
    unless_turns (unprepared_refusal (known_as s xid) (is_associated s xid)) s _
    (marked_all (Moved s) (mark_in (known_as s xid)) (rolled_back s xid) _ (λ code e. gone s xid)
    (cond_all (Moved s) (is_empty (writes_in s xid)) (Now (answer (plain XA_RDONLY) (committed s xid))) (prepare_written s xid) (commits s xid)
    (cond_all (Moved s) (has_room s r 1) (logs s r XAER_RMERR s) (Now (log_full s xid)) (logs_moved s r XAER_RMERR s (itself s)) (gone s xid))))

one_phase_moved : (s : State) (xid : Triple) → AllOf (Moved s) (commit_one_phase_turn s xid)
one_phase_moved s xid =
    let r = logged.Committed xid (timestamp_in s xid) (writes_in s xid) in
    unless_turns (unprepared_refusal (known_as s xid) (is_associated s xid)) s _
    (marked_all (Moved s) (mark_in (known_as s xid)) (rolled_back s xid) _ (λ code e. gone s xid)
    (cond_all (Moved s) (is_empty (writes_in s xid)) (Now (ok (committed s xid))) (commit_written s xid) (commits s xid)
    (cond_all (Moved s) (has_room s r 0) (logs s r XAER_RMERR (rolled_back s xid)) (Now (log_full s xid))
    (logs_moved s r XAER_RMERR (rolled_back s xid) (gone s xid)) (gone s xid))))

two_phase_moved : (s : State) (xid : Triple) → AllOf (Moved s) (commit_two_phase_turn s xid)
two_phase_moved s xid =
    unless_turns (two_phase_refusal (known_as s xid)) s _
    (unless_turns (heuristic_refusal (known_as s xid)) s (logs s (logged.Completed xid direction.Commit) XA_RETRY s)
    (logs_moved s (logged.Completed xid direction.Commit) XA_RETRY s (itself s)))

roll_back_moved : (s : State) (xid : Triple) (k : Known) → AllOf (Moved s) (roll_back_turn s xid k)
roll_back_moved s xid InDoubt = logs_moved s (logged.Completed xid direction.Rollback) XAER_RMERR s (itself s)
roll_back_moved s xid Unknown = gone s xid
roll_back_moved s xid (AtWork mark) =
    marked_all (Moved s) mark (rolled_back s xid) (Now (ok (rolled_back s xid))) (λ code e. gone s xid) (gone s xid)
roll_back_moved s xid (Completed way) = gone s xid

rollback_moved : (s : State) (xid : Triple) → AllOf (Moved s) (rollback_turn s xid)
rollback_moved s xid =
    unless_turns (rollback_refusal (known_as s xid) (is_associated s xid)) s _
    (unless_turns (heuristic_refusal (known_as s xid)) s (roll_back_turn s xid (known_as s xid)) (roll_back_moved s xid (known_as s xid)))

recovered_moved : (s : State) (n flags count : ℕ) (scan : Option (Option Triple)) → Moved s (recovered_from s n flags count scan)
recovered_moved s n flags count None = itself s
recovered_moved s n flags count (Some cursor) = itself s

row_moved : (s : State) (n : ℕ) (request : Request) → IsRecoverable s → begins_boot (event.Call n request) ≡ false
    → AllOf (Moved s) (row s n request)
row_moved s n (Open flags info) h e = itself s
row_moved s n (Close flags) h e = unless_after (MovesTo s) (close_refusal (list_any (is_of_session n) s.associations)) s _ (itself s) (λ none. itself s)
row_moved s n (Start flags xid) h e = start_moved s n flags xid
row_moved s n (End flags xid) h e = end_moved s n flags xid
row_moved s n (Prepare flags xid) h e = prepare_moved s xid
row_moved s n (Commit flags xid) h e =
    cond_all (Moved s) (has flags TMONEPHASE) (commit_one_phase_turn s xid) (commit_two_phase_turn s xid) (one_phase_moved s xid)
    (two_phase_moved s xid)
row_moved s n (Rollback flags xid) h e = rollback_moved s xid
row_moved s n (Forget flags xid) h e =
    unless_turns (forget_refusal (known_as s xid)) s (logs s (logged.Forgotten xid) XAER_RMERR s)
    (logs_moved s (logged.Forgotten xid) XAER_RMERR s (itself s))
row_moved s n (Recover flags count) h e = recovered_moved s n flags count (scan_from flags (scan_of s.sessions n))
row_moved s n (Get key) h e = get_moved s n key (own_branch s n) refl
row_moved s n (Put key value) h e = put_moved s n key (Some value) (own_branch s n) refl h
row_moved s n (Delete key) h e = put_moved s n key None (own_branch s n) refl h
row_moved s n (Decide way xid) h e =
    unless_turns (decide_refusal (known_as s xid)) s (logs s (logged.Decided xid way) XAER_RMERR s)
    (logs_moved s (logged.Decided xid way) XAER_RMERR s (itself s))
row_moved s n (Doom xid) h e = unless_after (MovesTo s) (doom_refusal (known_as s xid)) s (ok (doomed s xid)) (itself s) (λ none. marks s XA_RBOTHER xid (λ e. cc e))
row_moved s n Restart h e = absurd (cc e)
row_moved s n (Timeout seconds) h e = itself s
row_moved s n (Tick moment) h e = remains (map (timed_out moment) s.branches) (mapped_remain (timed_out moment) (timed_goes moment) s.branches)
row_moved s n Trim h e = absurd (cc e)
row_moved s n (Branches count after) h e = itself s

pub event_moved : (s : State) (e : Event) → IsRecoverable s → begins_boot e ≡ false → AllOf (Moved s) (respond s e)
event_moved s event.Connect h e = unless_after (MovesTo s) (connect_refusal _) s (connected s) (itself s) (λ none. itself s)
event_moved s (event.Hangup n) h e =
    remains (map (left_behind s.associations n) s.branches) (mapped_remain (left_behind s.associations n) (left_goes s.associations n) s.branches)
event_moved s (event.Call n request) h e =
    unless_turns (early_refusal (context_of s n) request) s (row s n request) (row_moved s n request h e)
