-- What the rows leave of timestamps: those of branches at work are new to the log.
use Rattle.std.proofs.Common.{◌≡◌, ℕ, ℤ, ◌+◌, ◌<◌, ◌≤◌, ◌==◌, Bool, true, false, cond, List, [], ◌∷◌, Option, Some, None, refl, subst, sym, arith}
use Rattle.std.specs.Prelude.{map}
use Rattle.std.specs.List.{list_any, AllByRecursion}
use Rattle.std.proofs.lemmas.Bool.Decides.{nat_tests}
use Rattle.xa_codes.specs.Flags.{has}
use Rattle.xa_codes.specs.declared.codes.TheConstants.{XAER_RMERR, XA_RETRY, XA_RDONLY, XA_RBTRANSIENT, XA_RBOTHER, XA_RBROLLBACK, XA_RBCOMMFAIL, XA_RBTIMEOUT}
use Rattle.xa_codes.specs.declared.direction.Direction.TheVariants as direction
use Rattle.xa_codes.specs.declared.flags.TheConstants.{TMONEPHASE}
use Rattle.xa_frame.specs.declared.reply.Reply.{Reply}
use Rattle.xa_frame.specs.declared.request.Request.{Request}
use Rattle.xa_frame.specs.declared.request.Request.TheVariants.{Open, Close, Start, End, Prepare, Commit, Rollback, Forget, Recover, Get, Put, Delete, Decide, Doom, Restart, Timeout, Tick, Trim, Branches}
use Rattle.xa_record.specs.declared.record.Record.TheVariants as logged
use Rattle.xa_xid.specs.Triple.{Triple}
use Rattle.xa_model.specs.declared.event.Event.{Event}
use Rattle.xa_model.specs.declared.event.Event.TheVariants as event
use Rattle.xa_model.specs.declared.outcome.Appending.TheVariants.{Refused}
use Rattle.xa_model.specs.State.{State, Session, Association, Read, Branch, Operation, Got, Wrote, Phase, Working, Prepared, Committed, Known, Unknown, AtWork, InDoubt, Completed, known_as, is_known_as, own_branch, change, without, timestamp_of, is_working}
use Rattle.xa_model.specs.Source.{source}
use Rattle.xa_model.specs.Answer.{plain, answer, ok}
use Rattle.xa_model.specs.Early.{early_refusal}
use Rattle.xa_model.specs.Associations.{connect_refusal, connected, close_refusal, is_of_session, with_mark, marked_phase, left_behind, is_worked_by, begun, start_by, failed, end_by, mark_in, timestamp_in}
use Rattle.xa_model.specs.Phases.{rolled_back, committed, as_committed, unprepared_refusal, two_phase_refusal, rollback_refusal, heuristic_refusal, doom_refusal, doomed, is_associated}
use Rattle.xa_model.specs.Data.{having_done, get_by, put_by}
use Rattle.xa_model.specs.TimeLimits.{runs_out, timed_out, ticked}
use Rattle.xa_model.specs.Recovering.{recovered_from, scan_from, scan_of}
use Rattle.xa_model.specs.Step.{row, respond, context_of}
use Rattle.xa_model.specs.Turn.{Turn, Nobody, Now, Appends, Checkpoints, Rereads, Joins, unless_now, marked_now}
use Rattle.xa_model.specs.Logging.{logs, has_room, log_full, writes_in}
use Rattle.xa_model.specs.Completions.{prepare_turn, prepare_written, commit_one_phase_turn, commit_two_phase_turn, commit_written, rollback_turn, roll_back_turn, decide_refusal, forget_refusal}
use Rattle.xa_model.specs.Fold.{is_empty, is_used}
use Rattle.xa_model.specs.Events.{begins_boot}
use Rattle.xa_model.proofs.Lists.{change_all, without_all}
use Rattle.xa_model.proofs.OfAnswers.{unless_after}
use Rattle.xa_model.proofs.OfRows.{start_after, end_after, get_after, put_after}

-- no branch at work has one of the timestamps
abbrev pub AreUnused : List ℕ → List Branch → Type 0
AreUnused ts bs = AllByRecursion (λ (b : Branch). is_working b.phase ≡ true → is_used b.timestamp ts ≡ false) bs

abbrev pub AreGiven : State → List ℕ → Type 0
AreGiven s ts = AllByRecursion (λ t. t ≤ timestamp_of s.boot s.given) ts

-- timestamps that are new to a state are new to the next
pub record IsNewer (s t : State) : Type 0 where
  pub given : s.given ≤ t.given
  pub unused : (ts : List ℕ) → AreGiven s ts → AreUnused ts s.branches → AreUnused ts t.branches

-- so it is at once, and where a record is refused
abbrev pub Continues : State → Turn → Type 0
Continues s (Now a) = IsNewer s a.after
Continues s (Appends r after) = IsNewer s (after Refused).after
Continues s Nobody = ⊥
Continues s (Checkpoints r after) = ⊥
Continues s (Rereads failed found) = ⊥
Continues s (Joins refused r lost) = ⊥

-- branches that stay, change, or leave

abbrev with_all : State → List Session → List Association → List Branch → List Read → State
with_all s sessions held bs reads = record s { sessions = sessions; associations = held; branches = bs; reads = reads }

moved : (s : State) (sessions : List Session) (held : List Association) (bs : List Branch) (reads : List Read)
    → ((ts : List ℕ) → AreUnused ts s.branches → AreUnused ts bs)
    → IsNewer s (with_all s sessions held bs reads)
moved s sessions held bs reads f = record { given = omega arith; unused = λ ts given h. f ts h }

alike : (s : State) (sessions : List Session) (held : List Association) (reads : List Read) → IsNewer s (with_all s sessions held s.branches reads)
alike s sessions held reads = moved s sessions held s.branches reads (λ ts h. h)

itself : (s : State) → IsNewer s s
itself s = record { given = omega arith; unused = λ ts given h. h }

pub record IsStill (f : Branch → Branch) : Type 0 where
  pub time : (b : Branch) → (f b).timestamp ≡ b.timestamp
  pub work : (b : Branch) → is_working (f b).phase ≡ true → is_working b.phase ≡ true

still_unused : (f : Branch → Branch) → IsStill f → (ts : List ℕ) (b : Branch) → (is_working b.phase ≡ true → is_used b.timestamp ts ≡ false)
    → is_working (f b).phase ≡ true → is_used (f b).timestamp ts ≡ false
still_unused f k ts b h works = subst (λ t. is_used t ts ≡ false) (sym (k.time b)) (h (k.work b works))

pub changed_unused : (xid : Triple) (f : Branch → Branch) → IsStill f → (ts : List ℕ) (bs : List Branch) → AreUnused ts bs
    → AreUnused ts (change (is_known_as xid) f bs)
changed_unused xid f k ts bs h =
    change_all (λ (b : Branch). is_working b.phase ≡ true → is_used b.timestamp ts ≡ false) (is_known_as xid) f (still_unused f k ts) bs h

mapped_unused : (f : Branch → Branch) → IsStill f → (ts : List ℕ) (bs : List Branch) → AreUnused ts bs → AreUnused ts (map f bs)
mapped_unused f k ts [] h = tt
mapped_unused f k ts (b ∷ bs) h = (still_unused f k ts b h.0, mapped_unused f k ts bs h.1)

pub left_unused : (xid : Triple) (ts : List ℕ) (bs : List Branch) → AreUnused ts bs → AreUnused ts (without (is_known_as xid) bs)
left_unused xid ts bs h = without_all (λ (b : Branch). is_working b.phase ≡ true → is_used b.timestamp ts ≡ false) (is_known_as xid) bs h

mark_works : (code : ℤ) (p : Phase) → is_working (marked_phase code p) ≡ true → is_working p ≡ true
mark_works code (Working xid work) e = refl
mark_works code (Prepared xid) e = e
mark_works code Committed e = e

mark_still : (code : ℤ) → IsStill (with_mark code)
mark_still code = record { time = λ b. refl; work = λ b e. mark_works code b.phase e }

-- a branch that may be marked

time_by : (code : ℤ) (b : Branch) (c : Bool) → (cond c (with_mark code b) b).timestamp ≡ b.timestamp
time_by code b true = refl
time_by code b false = refl

work_by : (code : ℤ) (b : Branch) (c : Bool) → is_working (cond c (with_mark code b) b).phase ≡ true → is_working b.phase ≡ true
work_by code b true e = mark_works code b.phase e
work_by code b false e = e

behind_still : (held : List Association) (n : ℕ) → IsStill (left_behind held n)
behind_still held n = record { time = λ b. time_by XA_RBCOMMFAIL b (is_worked_by held n b.phase); work = λ b e. work_by XA_RBCOMMFAIL b (is_worked_by held n b.phase) e }

timed_still : (moment : ℕ) → IsStill (timed_out moment)
timed_still moment = record { time = λ b. time_by XA_RBTIMEOUT b (runs_out moment b); work = λ b e. work_by XA_RBTIMEOUT b (runs_out moment b) e }

done_still : (op : Operation) → IsStill (having_done op)
done_still op = record { time = λ b. refl; work = λ b e. e }

pub committed_still : IsStill as_committed
committed_still = record { time = λ b. refl; work = λ b e. absurd (cc e) }

gone : (s : State) (xid : Triple) → IsNewer s (rolled_back s xid)
gone s xid = moved s s.sessions s.associations _ s.reads (λ ts h. left_unused xid ts s.branches h)

stays : (s : State) (xid : Triple) → IsNewer s (committed s xid)
stays s xid = moved s s.sessions s.associations _ s.reads (λ ts h. changed_unused xid as_committed committed_still ts s.branches h)

with_mark_newer : (s : State) (sessions : List Session) (held : List Association) (code : ℤ) (xid : Triple) (reads : List Read)
    → IsNewer s (with_all s sessions held (change (is_known_as xid) (with_mark code) s.branches) reads)
with_mark_newer s sessions held code xid reads =
    moved s sessions held _ reads (λ ts h. changed_unused xid (with_mark code) (mark_still code) ts s.branches h)

ticked_newer : (s : State) (moment : ℕ) → IsNewer s (ticked s moment)
ticked_newer s moment = record {
  given = omega arith;
  unused = λ ts given h. mapped_unused (timed_out moment) (timed_still moment) ts s.branches h;
}

-- a timestamp above all that were given is none of them
pub unused_above : (limit t : ℕ) (ts : List ℕ) → limit < t → AllByRecursion (λ u. u ≤ limit) ts → is_used t ts ≡ false
unused_above limit t [] less h = refl
unused_above limit t (u ∷ ts) less h =
    let apart : (u == t) ≡ false = other u limit t h.0 less in
    let rest : is_used t ts ≡ false = unused_above limit t ts less h.1 in
    rw (apart, rest) refl
  where
    other : (u limit t : ℕ) → u ≤ limit → limit < t → (u == t) ≡ false
    other u limit t h less = grind (arith, nat_tests)

begun_newer : (s : State) (n : ℕ) (xid : Triple) → IsNewer s (begun s n xid).after
begun_newer s n xid = record {
  given = omega arith;
  unused = λ ts given h. ((λ works. unused_above (timestamp_of s.boot s.given) (timestamp_of s.boot (s.given + 1)) ts (omega arith) given), h);
}

-- the association table

start_newer : (s : State) (n flags : ℕ) (xid : Triple) → IsNewer s (start_by s n flags xid).after
start_newer s n flags xid = start_after (IsNewer s) s (itself s) n flags xid (alike s s.sessions _ s.reads) (alike s s.sessions _ s.reads) (alike s s.sessions _ s.reads) (λ none. begun_newer s n xid)

end_newer : (s : State) (n flags : ℕ) (xid : Triple) → IsNewer s (end_by s n flags xid).after
end_newer s n flags xid =
    end_after (IsNewer s) s (itself s) n flags xid (alike s s.sessions _ s.reads) (λ migrates none. alike s s.sessions _ s.reads) (alike s s.sessions _ s.reads) (with_mark_newer s s.sessions _ XA_RBROLLBACK xid s.reads)

-- gets and puts

get_newer : (s : State) (key : List ℕ) (o : Option (Triple × Branch)) → IsNewer s (get_by s key o).after
get_newer s key None = itself s
get_newer s key (Some (xid, b)) =
    let v = source key b.timestamp s.branches in
    get_after (IsNewer s) s (itself s) key xid b
    (λ none. moved s s.sessions s.associations _ _
    (λ ts h. changed_unused xid (having_done (Got key v.value v.timestamp)) (done_still (Got key v.value v.timestamp)) ts s.branches h))

put_newer : (s : State) (key : List ℕ) (value : Option (List ℕ)) (o : Option (Triple × Branch)) → IsNewer s (put_by s key value o).after
put_newer s key value None = itself s
put_newer s key value (Some (xid, b)) =
    put_after (IsNewer s) s (itself s) key value xid b (with_mark_newer s s.sessions s.associations XA_RBTRANSIENT xid s.reads)
    (λ none timely. moved s s.sessions s.associations _ s.reads
    (λ ts h. changed_unused xid (having_done (Wrote key value)) (done_still (Wrote key value)) ts s.branches h))

-- the calls that log

unless_continues : (o : Option Reply) (s : State) (t : Turn) → Continues s t → Continues s (unless_now o s t)
unless_continues None s t h = h
unless_continues (Some reply) s t h = itself s

marked_continues : (o : Option ℤ) (s left : State) (t : Turn) → IsNewer s left → Continues s t → Continues s (marked_now o left t)
marked_continues None s left t h k = k
marked_continues (Some code) s left t h k = h

cond_continues : (c : Bool) (s : State) (t u : Turn) → Continues s t → Continues s u → Continues s (cond c t u)
cond_continues true s t u h k = h
cond_continues false s t u h k = k

prepare_continues : (s : State) (xid : Triple) → Continues s (prepare_turn s xid)
prepare_continues s xid =
    let r = logged.Prepared xid (timestamp_in s xid) (writes_in s xid) in
    unless_continues (unprepared_refusal (known_as s xid) (is_associated s xid)) s _
    (marked_continues (mark_in (known_as s xid)) s (rolled_back s xid) _ (gone s xid)
    (cond_continues (is_empty (writes_in s xid)) s (Now (answer (plain XA_RDONLY) (committed s xid))) (prepare_written s xid) (stays s xid)
    (cond_continues (has_room s r 1) s (logs s r XAER_RMERR s) (Now (log_full s xid)) (itself s) (gone s xid))))

one_phase_continues : (s : State) (xid : Triple) → Continues s (commit_one_phase_turn s xid)
one_phase_continues s xid =
    let r = logged.Committed xid (timestamp_in s xid) (writes_in s xid) in
    unless_continues (unprepared_refusal (known_as s xid) (is_associated s xid)) s _
    (marked_continues (mark_in (known_as s xid)) s (rolled_back s xid) _ (gone s xid)
    (cond_continues (is_empty (writes_in s xid)) s (Now (ok (committed s xid))) (commit_written s xid) (stays s xid)
    (cond_continues (has_room s r 0) s (logs s r XAER_RMERR (rolled_back s xid)) (Now (log_full s xid)) (gone s xid) (gone s xid))))

two_phase_continues : (s : State) (xid : Triple) → Continues s (commit_two_phase_turn s xid)
two_phase_continues s xid =
    unless_continues (two_phase_refusal (known_as s xid)) s _
    (unless_continues (heuristic_refusal (known_as s xid)) s (logs s (logged.Completed xid direction.Commit) XA_RETRY s) (itself s))

roll_back_continues : (s : State) (xid : Triple) (k : Known) → Continues s (roll_back_turn s xid k)
roll_back_continues s xid InDoubt = itself s
roll_back_continues s xid Unknown = gone s xid
roll_back_continues s xid (AtWork mark) = marked_continues mark s (rolled_back s xid) (Now (ok (rolled_back s xid))) (gone s xid) (gone s xid)
roll_back_continues s xid (Completed direction) = gone s xid

rollback_continues : (s : State) (xid : Triple) → Continues s (rollback_turn s xid)
rollback_continues s xid =
    unless_continues (rollback_refusal (known_as s xid) (is_associated s xid)) s _
    (unless_continues (heuristic_refusal (known_as s xid)) s (roll_back_turn s xid (known_as s xid)) (roll_back_continues s xid (known_as s xid)))

recovered_newer : (s : State) (n flags count : ℕ) (scan : Option (Option Triple)) → IsNewer s (recovered_from s n flags count scan).after
recovered_newer s n flags count None = itself s
recovered_newer s n flags count (Some cursor) = alike s _ s.associations s.reads

row_continues : (s : State) (n : ℕ) (request : Request) → begins_boot (event.Call n request) ≡ false → Continues s (row s n request)
row_continues s n (Open flags info) e = alike s _ s.associations s.reads
row_continues s n (Close flags) e = unless_after (IsNewer s) (close_refusal (list_any (is_of_session n) s.associations)) s _ (itself s) (λ none. alike s _ s.associations s.reads)
row_continues s n (Start flags xid) e = start_newer s n flags xid
row_continues s n (End flags xid) e = end_newer s n flags xid
row_continues s n (Prepare flags xid) e = prepare_continues s xid
row_continues s n (Commit flags xid) e =
    cond_continues (has flags TMONEPHASE) s (commit_one_phase_turn s xid) (commit_two_phase_turn s xid) (one_phase_continues s xid)
    (two_phase_continues s xid)
row_continues s n (Rollback flags xid) e = rollback_continues s xid
row_continues s n (Forget flags xid) e = unless_continues (forget_refusal (known_as s xid)) s (logs s (logged.Forgotten xid) XAER_RMERR s) (itself s)
row_continues s n (Recover flags count) e = recovered_newer s n flags count (scan_from flags (scan_of s.sessions n))
row_continues s n (Get key) e = get_newer s key (own_branch s n)
row_continues s n (Put key value) e = put_newer s key (Some value) (own_branch s n)
row_continues s n (Delete key) e = put_newer s key None (own_branch s n)
row_continues s n (Decide way xid) e = unless_continues (decide_refusal (known_as s xid)) s (logs s (logged.Decided xid way) XAER_RMERR s) (itself s)
row_continues s n (Doom xid) e =
    unless_after (IsNewer s) (doom_refusal (known_as s xid)) s (ok (doomed s xid)) (itself s) (λ none. with_mark_newer s s.sessions s.associations XA_RBOTHER xid s.reads)
row_continues s n Restart e = absurd (cc e)
row_continues s n (Timeout seconds) e = alike s _ s.associations s.reads
row_continues s n (Tick moment) e = ticked_newer s moment
row_continues s n Trim e = absurd (cc e)
row_continues s n (Branches count after) e = itself s

pub event_continues : (s : State) (e : Event) → begins_boot e ≡ false → Continues s (respond s e)
event_continues s event.Connect e = unless_after (IsNewer s) (connect_refusal _) s (connected s) (itself s) (λ none. alike s _ s.associations s.reads)
event_continues s (event.Hangup n) e =
    moved s _ _ _ s.reads (λ ts h. mapped_unused (left_behind s.associations n) (behind_still s.associations n) ts s.branches h)
event_continues s (event.Call n request) e =
    unless_continues (early_refusal (context_of s n) request) s (row s n request) (row_continues s n request e)
