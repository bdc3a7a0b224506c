-- The moment: nothing that is asked puts it back, and an opening that succeeds begins at 0.
use Rattle.std.proofs.Common.{◌≡◌, ◌∙◌, ℕ, zero, suc, ℤ, ◌+◌, ◌≤◌, Bool, true, false, not, ◌&&◌, cond, List, [], ◌∷◌, Option, Some, None, refl, ap, arith, nat_lt}
use Rattle.std.specs.Prelude.{IfSome, is_none}
use Rattle.std.specs.List.{list_any}
use Rattle.std.proofs.lemmas.Bool.Decides.{nat_tests}
use Rattle.xa_codes.specs.Flags.{has}
use Rattle.xa_codes.specs.declared.call.Call.TheVariants as call
use Rattle.xa_codes.specs.declared.codes.TheConstants.{XAER_RMERR, XAER_RMFAIL, XAER_PROTO, XAER_ASYNC, XAER_INVAL, XA_RETRY, XA_RDONLY}
use Rattle.xa_codes.specs.declared.direction.Direction.TheVariants as direction
use Rattle.xa_codes.specs.declared.flags.TheConstants.{TMONEPHASE}
use Rattle.xa_frame.specs.declared.reply.Reply.{Reply}
use Rattle.xa_frame.specs.declared.request.Request.{Request}
use Rattle.xa_frame.specs.declared.request.Request.TheVariants.{Open, Close, Start, End, Prepare, Commit, Rollback, Forget, Recover, Get, Put, Delete, Decide, Doom, Restart, Timeout, Tick, Trim, Branches}
use Rattle.xa_limits.specs.declared.TheConstants.{MOST_BOOTS}
use Rattle.xa_record.specs.declared.record.Record.{Record}
use Rattle.xa_record.specs.declared.record.Record.TheVariants as logged
use Rattle.xa_xid.specs.Triple.{Triple}
use Rattle.xa_model.specs.declared.event.Event.{Event}
use Rattle.xa_model.specs.declared.event.Event.TheVariants as event
use Rattle.xa_model.specs.declared.outcome.Appending.{Appending}
use Rattle.xa_model.specs.declared.outcome.Appending.TheVariants.{Kept, Refused, Lost}
use Rattle.xa_model.specs.State.{State, Branch, Known, Unknown, AtWork, InDoubt, Completed, Up, known_as, own_branch}
use Rattle.xa_model.specs.Answer.{Answer, plain, answer, ok}
use Rattle.xa_model.specs.Early.{Context, early_refusal, passes_down, needs_open, is_opened, is_async, is_invalid}
use Rattle.xa_model.specs.Associations.{connect_refusal, connected, close_refusal, is_of_session, start_by, end_by, mark_in, timestamp_in}
use Rattle.xa_model.specs.Phases.{rolled_back, committed, unprepared_refusal, two_phase_refusal, rollback_refusal, heuristic_refusal, doom_refusal, doomed, is_associated}
use Rattle.xa_model.specs.Data.{get_by, put_by}
use Rattle.xa_model.specs.Recovering.{recovered_from, scan_from, scan_of}
use Rattle.xa_model.specs.Step.{row, respond, asked, turn, context_of, further_record}
use Rattle.xa_model.specs.Turn.{Asked, Reopened, Turn, Now, Stops, Opens, unless_now}
use Rattle.xa_model.specs.Logging.{logs, has_room, log_full, writes_in, applied, append_became}
use Rattle.xa_model.specs.Completions.{prepare_turn, prepare_written, commit_one_phase_turn, commit_two_phase_turn, commit_written, rollback_turn, roll_back_turn, decide_refusal, forget_refusal}
use Rattle.xa_model.specs.Restarting.{with_first, looked, survived, restarting, restart_turn, refused_opening, reopen_became, reopening, can_open}
use Rattle.xa_model.specs.Trimming.{trim_refusal, trim_became, trim_turn}
use Rattle.xa_model.specs.Fold.{is_empty}
use Rattle.xa_model.specs.Laws.Time.{MomentsRise, OpensAtZero}
use Rattle.xa_model.proofs.Rows.{passed}
use Rattle.xa_model.proofs.AppliedAll.{applied_changes, if_imply, if_mapped, if_some}
use Rattle.xa_model.proofs.Restarts.{found_boots}
use Rattle.xa_model.proofs.Replies.{AllOf, AllOfReading, taken_all, asked_all, joins_all, unless_all, marked_all, cond_all, each_fate, restarting_all}
use Rattle.xa_model.proofs.OfAnswers.{unless_after}
use Rattle.xa_model.proofs.OfRows.{start_after, end_after, get_after, put_after}

abbrev IsNoEarlier : State → State → Type 0
IsNoEarlier s t = s.moment ≤ t.moment

abbrev Rises : State → Answer → Type 0
Rises s a = IsNoEarlier s a.after

itself : (s : State) → s.moment ≤ s.moment
itself s = omega arith

-- turns

unless_turns : (o : Option Reply) (s : State) (t : Turn) → (o ≡ None → AllOf (Rises s) t) → AllOf (Rises s) (unless_now o s t)
unless_turns None s t h = h refl
unless_turns (Some reply) s t h = itself s

applied_moment : (s : State) (r : Record) → (applied r s).moment ≡ s.moment
applied_moment s r = ap (λ (t : State). t.moment) (applied_changes s r)

applied_rises : (s : State) (r : Record) → s.moment ≤ (applied r s).moment
applied_rises s r = let same = applied_moment s r in omega (arith, same)

logs_rises : (s : State) (r : Record) (code : ℤ) (left : State) → s.moment ≤ left.moment → AllOf (Rises s) (logs s r code left)
logs_rises s r code left h = each_fate (λ x. Rises s (append_became s r code left x)) (applied_rises s r) h (itself s)

-- the association table

start_rises : (s : State) (n flags : ℕ) (xid : Triple) → Rises s (start_by s n flags xid)
start_rises s n flags xid = start_after (IsNoEarlier s) s (itself s) n flags xid (itself s) (itself s) (itself s) (λ none. itself s)

end_rises : (s : State) (n flags : ℕ) (xid : Triple) → Rises s (end_by s n flags xid)
end_rises s n flags xid = end_after (IsNoEarlier s) s (itself s) n flags xid (itself s) (λ migrates none. itself s) (itself s) (itself s)

-- recoveries, gets and puts

recovered_rises : (s : State) (n flags count : ℕ) (scan : Option (Option Triple)) → Rises s (recovered_from s n flags count scan)
recovered_rises s n flags count None = itself s
recovered_rises s n flags count (Some cursor) = itself s

get_rises : (s : State) (key : List ℕ) (o : Option (Triple × Branch)) → Rises s (get_by s key o)
get_rises s key None = itself s
get_rises s key (Some (xid, b)) = get_after (IsNoEarlier s) s (itself s) key xid b (λ none. itself s)

put_rises : (s : State) (key : List ℕ) (value : Option (List ℕ)) (o : Option (Triple × Branch)) → Rises s (put_by s key value o)
put_rises s key value None = itself s
put_rises s key value (Some (xid, b)) = put_after (IsNoEarlier s) s (itself s) key value xid b (itself s) (λ none timely. itself s)

-- the calls that log

prepare_rises : (s : State) (xid : Triple) → AllOf (Rises s) (prepare_turn s xid)
prepare_rises s xid =
    let r = logged.Prepared xid (timestamp_in s xid) (writes_in s xid) in
    unless_turns (unprepared_refusal (known_as s xid) (is_associated s xid)) s _
    (λ none. marked_all (Rises s) (mark_in (known_as s xid)) (rolled_back s xid) _ (λ code e. itself s)
    (cond_all (Rises s) (is_empty (writes_in s xid)) (Now (answer (plain XA_RDONLY) (committed s xid))) (prepare_written s xid) (itself s)
    (cond_all (Rises s) (has_room s r 1) (logs s r XAER_RMERR s) (Now (log_full s xid)) (logs_rises s r XAER_RMERR s (itself s)) (itself s))))

one_phase_rises : (s : State) (xid : Triple) → AllOf (Rises s) (commit_one_phase_turn s xid)
one_phase_rises s xid =
    let r = logged.Committed xid (timestamp_in s xid) (writes_in s xid) in
    unless_turns (unprepared_refusal (known_as s xid) (is_associated s xid)) s _
    (λ none. marked_all (Rises s) (mark_in (known_as s xid)) (rolled_back s xid) _ (λ code e. itself s)
    (cond_all (Rises s) (is_empty (writes_in s xid)) (Now (ok (committed s xid))) (commit_written s xid) (itself s)
    (cond_all (Rises s) (has_room s r 0) (logs s r XAER_RMERR (rolled_back s xid)) (Now (log_full s xid))
    (logs_rises s r XAER_RMERR (rolled_back s xid) (itself s)) (itself s))))

two_phase_rises : (s : State) (xid : Triple) → AllOf (Rises s) (commit_two_phase_turn s xid)
two_phase_rises s xid =
    unless_turns (two_phase_refusal (known_as s xid)) s _
    (λ none. unless_turns (heuristic_refusal (known_as s xid)) s (logs s (logged.Completed xid direction.Commit) XA_RETRY s)
    (λ other. logs_rises s (logged.Completed xid direction.Commit) XA_RETRY s (itself s)))

roll_back_rises : (s : State) (xid : Triple) (k : Known) → AllOf (Rises s) (roll_back_turn s xid k)
roll_back_rises s xid InDoubt = logs_rises s (logged.Completed xid direction.Rollback) XAER_RMERR s (itself s)
roll_back_rises s xid Unknown = itself s
roll_back_rises s xid (AtWork mark) =
    marked_all (Rises s) mark (rolled_back s xid) (Now (ok (rolled_back s xid))) (λ code e. itself s) (itself s)
roll_back_rises s xid (Completed way) = itself s

rollback_rises : (s : State) (xid : Triple) → AllOf (Rises s) (rollback_turn s xid)
rollback_rises s xid =
    unless_turns (rollback_refusal (known_as s xid) (is_associated s xid)) s _
    (λ none. unless_turns (heuristic_refusal (known_as s xid)) s (roll_back_turn s xid (known_as s xid))
    (λ other. roll_back_rises s xid (known_as s xid)))

-- restarts

boots : (s x : State) → x.moment ≡ s.moment → AllOfReading (Rises s) (restarting x)
boots s x same = let later : IsNoEarlier s x = omega (arith, same) in restarting_all (Rises s) x later later later later

first_moment : (k : ℕ) (rs : List Record) (s : State) → IfSome (with_first k rs s) (λ t. t.moment ≡ s.moment)
first_moment zero rs s = refl
first_moment (suc k) [] s = tt
first_moment (suc k) (r ∷ rs) s =
    if_imply (λ (t : State). t.moment ≡ (applied r s).moment) (λ t. t.moment ≡ s.moment) (λ t e. e ∙ applied_moment s r) (with_first k rs (applied r s))
    (first_moment k rs (applied r s))

survived_moment : (s : State) (k : ℕ) → IfSome (survived s k) (λ t. t.moment ≡ s.moment)
survived_moment s k = if_mapped (λ (t : State). t.moment ≡ s.moment) looked (with_first k s.open_records s) (first_moment k s.open_records s)

restart_rises : (s : State) → AllOf (Rises s) (restart_turn s)
restart_rises s = (
  itself s,
  λ k. found_boots (λ (t : State). t.moment ≡ s.moment) (AllOfReading (Rises s)) s k restarting
      (boots s) (survived_moment s k),
)

trim_rises : (s : State) → AllOf (Rises s) (trim_turn s)
trim_rises s =
    unless_all (Rises s) (trim_refusal s) s _ (λ reply is. itself s)
    (each_fate (λ x. Rises s (trim_became s (s.logged_boot + 1) x)) (itself s) (itself s) (itself s))

-- a moment below the last one is refused

last_passed : (a b c d f : Bool) (p q r s t : Reply)
    → cond a (Some p) (cond b (Some q) (cond c (Some r) (cond d (Some s) (cond f (Some t) None)))) ≡ None → f ≡ false
last_passed a b c d f p q r s t e =
    (passed f t None (passed d s _ (passed c r _ (passed b q _ (passed a p _ e).1).1).1).1).0

not_before : (c : Context) (moment : ℕ) → early_refusal c (Tick moment) ≡ None → c.moment ≤ moment
not_before c moment e =
    let if_late : nat_lt moment c.moment ≡ false
    = last_passed (not c.up && not (passes_down call.Tick)) (is_none c.session) (needs_open call.Tick && not (is_opened c.session))
    (is_async call.Tick 0) (is_invalid c.name c.moment (Tick moment))
    (plain XAER_RMFAIL) (plain XAER_PROTO) (plain XAER_PROTO) (plain XAER_ASYNC) (plain XAER_INVAL) e in
    grind (arith, nat_tests, if_late)

-- all rows

row_rises : (s : State) (n : ℕ) (request : Request) → early_refusal (context_of s n) request ≡ None → AllOf (Rises s) (row s n request)
row_rises s n (Open flags info) e = itself s
row_rises s n (Close flags) e = unless_after (IsNoEarlier s) (close_refusal (list_any (is_of_session n) s.associations)) s _ (itself s) (λ none. itself s)
row_rises s n (Start flags xid) e = start_rises s n flags xid
row_rises s n (End flags xid) e = end_rises s n flags xid
row_rises s n (Prepare flags xid) e = prepare_rises s xid
row_rises s n (Commit flags xid) e =
    cond_all (Rises s) (has flags TMONEPHASE) (commit_one_phase_turn s xid) (commit_two_phase_turn s xid) (one_phase_rises s xid)
    (two_phase_rises s xid)
row_rises s n (Rollback flags xid) e = rollback_rises s xid
row_rises s n (Forget flags xid) e =
    unless_turns (forget_refusal (known_as s xid)) s (logs s (logged.Forgotten xid) XAER_RMERR s)
    (λ none. logs_rises s (logged.Forgotten xid) XAER_RMERR s (itself s))
row_rises s n (Recover flags count) e = recovered_rises s n flags count (scan_from flags (scan_of s.sessions n))
row_rises s n (Get key) e = get_rises s key (own_branch s n)
row_rises s n (Put key value) e = put_rises s key (Some value) (own_branch s n)
row_rises s n (Delete key) e = put_rises s key None (own_branch s n)
row_rises s n (Decide way xid) e =
    unless_turns (decide_refusal (known_as s xid)) s (logs s (logged.Decided xid way) XAER_RMERR s)
    (λ none. logs_rises s (logged.Decided xid way) XAER_RMERR s (itself s))
row_rises s n (Doom xid) e = unless_after (IsNoEarlier s) (doom_refusal (known_as s xid)) s (ok (doomed s xid)) (itself s) (λ none. itself s)
row_rises s n Restart e = restart_rises s
row_rises s n (Timeout seconds) e = itself s
row_rises s n (Tick moment) e = not_before (context_of s n) moment e
row_rises s n Trim e = trim_rises s
row_rises s n (Branches count after) e = itself s

respond_rises : (s : State) (e : Event) → AllOf (Rises s) (respond s e)
respond_rises s event.Connect = unless_after (IsNoEarlier s) (connect_refusal _) s (connected s) (itself s) (λ none. itself s)
respond_rises s (event.Hangup n) = itself s
respond_rises s (event.Call n request) =
    unless_turns (early_refusal (context_of s n) request) s (row s n request) (row_rises s n request)

pub moments_rise : MomentsRise
moments_rise s e outcome a steps =
    taken_all (Rises s) (turn s (Asked e)) outcome a
    (joins_all (Rises s) s (further_record s e) (asked s.standing (respond s e))
    (asked_all (Rises s) s.standing (respond s e) (respond_rises s e)) (λ r found. itself s)) steps

-- openings

abbrev BeginsAtZero : Answer → Type 0
BeginsAtZero a = a.after.standing ≡ Up → a.after.moment ≡ 0

opens_by : (x : State) (name : List ℕ) (log_bytes : ℕ) (c : Bool)
    → AllOfReading BeginsAtZero
    (cond c (Opens (logged.Opened (x.logged_boot + 1)) (reopen_became x name log_bytes (x.logged_boot + 1)))
    (Stops (ok (refused_opening x name log_bytes))))
opens_by x name log_bytes true = by_fate
  where
    by_fate : (a : Appending) → BeginsAtZero (reopen_became x name log_bytes (x.logged_boot + 1) a)
    by_fate Kept = λ up. refl
    by_fate Refused = λ up. absurd (cc up)
    by_fate Lost = λ up. absurd (cc up)
opens_by x name log_bytes false = λ up. absurd (cc up)

opens : (x : State) (name : List ℕ) (log_bytes : ℕ) → AllOfReading BeginsAtZero (reopening name log_bytes x)
opens x name log_bytes = opens_by x name log_bytes (nat_lt x.logged_boot MOST_BOOTS && can_open x log_bytes (x.logged_boot + 1))

pub opens_at_zero : OpensAtZero
opens_at_zero s name log_bytes outcome a steps =
    taken_all BeginsAtZero (turn s (Reopened name log_bytes)) outcome a (
      (λ up. absurd (cc up)),
      λ k. found_boots (λ (t : State). Unit {0}) (AllOfReading BeginsAtZero) s k (reopening name log_bytes)
          (λ t any. opens t name log_bytes) (if_some (λ (t : State). Unit {0}) (survived s k) (λ t e. tt)),
    ) steps
