-- Rows leave branches that may come into the log, and what they log is within a record's limits.
use Rattle.std.proofs.Common.{◌≡◌, ℕ, ℤ, ◌+◌, ◌<◌, ◌≤◌, ◌^◌, nat_lt, Bool, true, false, not, ◌||◌, cond, List, [], ◌∷◌, Option, Some, None, refl, ap, sym, ◌∙◌, subst, arith}
use Rattle.std.specs.Prelude.{find, map, length, is_some, option_map, option_and_then, IfSome}
use Rattle.std.specs.List.{list_any, AllByRecursion}
use Rattle.std.proofs.lemmas.Bool.{or_parts}
use Rattle.std.proofs.lemmas.Bool.Decides.{nat_tests}
use Rattle.xa_codes.specs.Flags.{has}
use Rattle.xa_codes.specs.declared.codes.TheConstants.{XAER_RMERR, XA_RETRY, XA_RDONLY, XA_RBTRANSIENT, XA_RBOTHER, XA_RBROLLBACK, XA_RBCOMMFAIL, XA_RBTIMEOUT}
use Rattle.xa_codes.specs.declared.detail.Detail.TheVariants as detail
use Rattle.xa_codes.specs.declared.direction.Direction.TheVariants as direction
use Rattle.xa_codes.specs.declared.flags.TheConstants.{TMONEPHASE}
use Rattle.xa_frame.specs.declared.reply.Reply.{Reply}
use Rattle.xa_frame.specs.declared.request.Request.{Request}
use Rattle.xa_frame.specs.declared.request.Request.TheVariants.{Open, Close, Start, End, Prepare, Commit, Rollback, Forget, Recover, Get, Put, Delete, Decide, Doom, Restart, Timeout, Tick, Trim, Branches}
use Rattle.xa_record.specs.Limits.{IsWrite, IsStamped, IsBranch, IsRecord}
use Rattle.xa_record.specs.declared.record.Record.{Record}
use Rattle.xa_record.specs.declared.record.Record.TheVariants as logged
use Rattle.xa_xid.specs.Triple.{Triple, IsWithinLimits}
use Rattle.xa_model.specs.declared.event.Event.{Event}
use Rattle.xa_model.specs.declared.event.Event.TheVariants as event
use Rattle.xa_model.specs.declared.outcome.Appending.TheVariants.{Refused}
use Rattle.xa_model.specs.State.{State, Association, Branch, Operation, Got, Wrote, Known, Unknown, AtWork, InDoubt, Completed, known_as, known_in, known_of, is_known_as, active_of, branch_with, own_branch, change, timestamp_of}
use Rattle.xa_model.specs.Source.{Version, source}
use Rattle.xa_model.specs.Answer.{plain, detailed, answer, ok}
use Rattle.xa_model.specs.Early.{early_refusal}
use Rattle.xa_model.specs.Associations.{connect_refusal, connected, close_refusal, is_of_session, with_mark, marked_phase, left_behind, is_worked_by, start_refusal, begun, is_taken, start_by, end_by, mark_in, timestamp_by, timestamp_in}
use Rattle.xa_limits.specs.declared.TheConstants.{MOST_BOOTS, MOST_BRANCHES, MOST_GIVEN}
use Rattle.xa_model.specs.Phases.{as_committed, rolled_back, committed, unprepared_refusal, two_phase_refusal, heuristic_refusal, rollback_refusal, doom_refusal, doomed, is_associated}
use Rattle.xa_model.specs.Data.{having_done, got, get_by, is_full, written, put_by}
use Rattle.xa_model.specs.TimeLimits.{runs_out, timed_out}
use Rattle.xa_model.specs.Recovering.{recovered_from, scan_from, scan_of}
use Rattle.xa_model.specs.Durable.{boot_of, is_past}
use Rattle.xa_model.specs.Fold.{is_empty}
use Rattle.xa_model.specs.Turn.{Turn, Now, Appends, unless_now, marked_now}
use Rattle.xa_model.specs.Step.{row, respond, commit_turn, context_of}
use Rattle.xa_model.specs.Logging.{logs, has_room, log_full, writes_by, writes_in}
use Rattle.xa_model.specs.Completions.{prepare_written, prepare_turn, commit_written, commit_one_phase_turn, commit_two_phase_turn, roll_back_turn, decide_refusal, forget_refusal}
use Rattle.xa_model.specs.Invariants.Loggable.{IsLoggable, is_boot}
use Rattle.xa_model.specs.Events.{IsAsked, IsEvent, asks_boot, begins_boot}
use Rattle.xa_model.proofs.Lists.{change_all, without_all, found_all}
use Rattle.xa_model.proofs.Rows.{passed, below}
use Rattle.xa_model.proofs.Recordable.{IsRecordable, AreRecordable, recordable, with_phase, committed_recordable}
use Rattle.xa_model.proofs.ShortWrites.{wrote_short, are_writes}
use Rattle.xa_model.proofs.OfAnswers.{unless_after}
use Rattle.xa_model.proofs.OfRows.{start_after, end_after, get_after, put_after}

-- what a turn leaves where its record isn't kept, and the record, which is no boot's
abbrev pub KeepsRecordable : State → Turn → Type 0
KeepsRecordable s (Now a) = AreRecordable s.logged_boot a.after.branches
KeepsRecordable s (Appends r after) = IsRecord r × (is_boot r ≡ false) × AreRecordable s.logged_boot (after Refused).after.branches
KeepsRecordable s _ = ⊥

abbrev Fits : State → State → Type 0
Fits s t = AreRecordable s.logged_boot t.branches

-- turns

unless_keeps : (o : Option Reply) (s : State) (t : Turn) → Fits s s → (o ≡ None → KeepsRecordable s t) → KeepsRecordable s (unless_now o s t)
unless_keeps None s t h k = k refl
unless_keeps (Some reply) s t h k = h

marked_keeps : (o : Option ℤ) (s left : State) (t : Turn) → Fits s left → KeepsRecordable s t → KeepsRecordable s (marked_now o left t)
marked_keeps None s left t h k = k
marked_keeps (Some code) s left t h k = h

cond_keeps : (c : Bool) (s : State) (t u : Turn) → (c ≡ true → KeepsRecordable s t) → (c ≡ false → KeepsRecordable s u) → KeepsRecordable s (cond c t u)
cond_keeps true s t u h k = h refl
cond_keeps false s t u h k = k refl

logs_keeps : (s : State) (r : Record) (code : ℤ) (left : State) → IsRecord r → is_boot r ≡ false → Fits s left → KeepsRecordable s (logs s r code left)
logs_keeps s r code left limits other h = (limits, other, h)

-- branches

marked_recordable : (code : ℤ) (logged_boot : ℕ) (b : Branch) → IsRecordable logged_boot b → IsRecordable logged_boot (with_mark code b)
marked_recordable code logged_boot b h = with_phase logged_boot b (marked_phase code b.phase) h

maybe_recordable : (code : ℤ) (logged_boot : ℕ) (b : Branch) (c : Bool) → IsRecordable logged_boot b → IsRecordable logged_boot (cond c (with_mark code b) b)
maybe_recordable code logged_boot b true h = marked_recordable code logged_boot b h
maybe_recordable code logged_boot b false h = h

left_recordable : (held : List Association) (n logged_boot : ℕ) (bs : List Branch) → AreRecordable logged_boot bs → AreRecordable logged_boot (map (left_behind held n) bs)
left_recordable held n logged_boot [] h = tt
left_recordable held n logged_boot (b ∷ bs) h = (maybe_recordable XA_RBCOMMFAIL logged_boot b (is_worked_by held n b.phase) h.0, left_recordable held n logged_boot bs h.1)

timed_recordable : (moment logged_boot : ℕ) (bs : List Branch) → AreRecordable logged_boot bs → AreRecordable logged_boot (map (timed_out moment) bs)
timed_recordable moment logged_boot [] h = tt
timed_recordable moment logged_boot (b ∷ bs) h = (maybe_recordable XA_RBTIMEOUT logged_boot b (runs_out moment b) h.0, timed_recordable moment logged_boot bs h.1)

mark_fits : (s : State) (xid : Triple) (code : ℤ) → Fits s s → AreRecordable s.logged_boot (change (is_known_as xid) (with_mark code) s.branches)
mark_fits s xid code h = change_all (IsRecordable s.logged_boot) (is_known_as xid) (with_mark code) (marked_recordable code s.logged_boot) s.branches h

gone_fits : (s : State) (xid : Triple) → Fits s s → Fits s (rolled_back s xid)
gone_fits s xid h = without_all (IsRecordable s.logged_boot) (is_known_as xid) s.branches h

committed_fits : (s : State) (xid : Triple) → Fits s s → Fits s (committed s xid)
committed_fits s xid h = change_all (IsRecordable s.logged_boot) (is_known_as xid) as_committed (committed_recordable s.logged_boot) s.branches h

-- a new branch

begun_past : (boot logged_boot n : ℕ) → 1 ≤ boot → boot ≤ logged_boot → 1 ≤ n → n ≤ 4294967295 → is_past (logged_boot + 1) (timestamp_of boot n) ≡ true
begun_past boot logged_boot n first boots some most = grind (arith, nat_tests)

begun_fits : (s : State) (n : ℕ) (xid : Triple) → IsLoggable s → s.given < MOST_GIVEN → Fits s (begun s n xid).after
begun_fits s n xid h room = (
  record {
    past = begun_past s.boot s.logged_boot (s.given + 1) h.first h.boots (omega arith) (omega (arith, room));
    written = record { few = omega arith; each = tt };
  },
  recordable s h,
)

-- the association table

room : (at_work taken : Bool) (known given : ℕ) → start_refusal at_work taken known given ≡ None → given < MOST_GIVEN
room true taken known given e = absurd (cc e)
room false true known given e = absurd (cc e)
room false false known given e =
    let fine = (passed (not (nat_lt known MOST_BRANCHES) || not (nat_lt given MOST_GIVEN)) (detailed XAER_RMERR detail.Limit) None e).0 in
    below given MOST_GIVEN (or_parts (not (nat_lt known MOST_BRANCHES)) (not (nat_lt given MOST_GIVEN)) fine).1

start_fits : (s : State) (n flags : ℕ) (xid : Triple) → IsLoggable s → Fits s (start_by s n flags xid).after
start_fits s n flags xid loggable =
    let h = recordable s loggable in
    start_after (Fits s) s h n flags xid h h h
    (λ allowed. begun_fits s n xid loggable (room (is_some (active_of s.associations n)) (is_taken (known_as s xid)) (known_in s) s.given allowed))

end_fits : (s : State) (n flags : ℕ) (xid : Triple) → Fits s s → Fits s (end_by s n flags xid).after
end_fits s n flags xid h = end_after (Fits s) s h n flags xid h (λ migrates none. h) h (mark_fits s xid XA_RBROLLBACK h)

-- recovery

recover_fits : (s : State) (n flags count : ℕ) (scan : Option (Option Triple)) → Fits s s → Fits s (recovered_from s n flags count scan).after
recover_fits s n flags count None h = h
recover_fits s n flags count (Some cursor) h = h

-- gets and puts

change_found_by : (P : Branch → Type 0) (p : Branch → Bool) (f : Branch → Branch) (b c : Branch) (bs : List Branch) (is : Bool) → cond is (Some c) (find p bs) ≡ Some b → (P b → P (f b))
    → AllByRecursion P (c ∷ bs) → (find p bs ≡ Some b → AllByRecursion P (change p f bs)) → AllByRecursion P (cond is (f c ∷ bs) (c ∷ change p f bs))
change_found_by P p f b c bs true found keeps h rest =
    let same : c ≡ b = cc found in (subst (λ (x : Branch). P (f x)) (sym same) (keeps (subst P same h.0)), h.1)
change_found_by P p f b c bs false found keeps h rest = (h.0, rest found)

change_found : (P : Branch → Type 0) (p : Branch → Bool) (f : Branch → Branch) (b : Branch) (bs : List Branch) → find p bs ≡ Some b → (P b → P (f b)) → AllByRecursion P bs → AllByRecursion P (change p f bs)
change_found P p f b [] found keeps h = tt
change_found P p f b (c ∷ bs) found keeps h = change_found_by P p f b c bs (p c) found keeps h (λ e. change_found P p f b bs e keeps h.1)

done_fits : (s : State) (xid : Triple) (b : Branch) (op : Operation) → known_of s.branches xid ≡ Some b
    → (IsRecordable s.logged_boot b → IsRecordable s.logged_boot (having_done op b)) → Fits s s → AreRecordable s.logged_boot (change (is_known_as xid) (having_done op) s.branches)
done_fits s xid b op found keeps h = change_found (IsRecordable s.logged_boot) (is_known_as xid) (having_done op) b s.branches found keeps h

own_by : (xid x : Triple) (b : Branch) (bs : List Branch) (o : Option Branch) → known_of bs x ≡ o → option_map {U = Triple × Branch} (λ (c : Branch). (x, c)) o ≡ Some (xid, b) → known_of bs xid ≡ Some b
own_by xid x b bs None found e = absurd (cc e)
own_by xid x b bs (Some c) found e =
    let pair : (x, c) ≡ (xid, b) = cc e in
    subst (λ (y : Triple). known_of bs y ≡ Some b) (ap (λ (q : Triple × Branch). q.0) pair) (found ∙ ap (λ (q : Triple × Branch). Some q.1) pair)

owned_by : (xid : Triple) (b : Branch) (bs : List Branch) (o : Option Triple) → option_and_then (branch_with bs) o ≡ Some (xid, b) → known_of bs xid ≡ Some b
owned_by xid b bs None e = absurd (cc e)
owned_by xid b bs (Some x) e = own_by xid x b bs (known_of bs x) refl e

got_fits : (s : State) (key : List ℕ) (xid : Triple) (b : Branch) (v : Version) → known_of s.branches xid ≡ Some b → Fits s s → Fits s (got s key xid b v).after
got_fits s key xid b v found h = done_fits s xid b (Got key v.value v.timestamp) found (λ k. record { past = k.past; written = k.written }) h

get_fits : (s : State) (n : ℕ) (key : List ℕ) (o : Option (Triple × Branch)) → own_branch s n ≡ o → Fits s s → Fits s (get_by s key o).after
get_fits s n key None e h = h
get_fits s n key (Some (xid, b)) e h =
    get_after (Fits s) s h key xid b (λ none. got_fits s key xid b (source key b.timestamp s.branches) (owned_by xid b s.branches (active_of s.associations n) e) h)

wrote_fits : (s : State) (key : List ℕ) (value : Option (List ℕ)) (xid : Triple) (b : Branch) → IsWrite (record { key = key; value = value }) → is_full key b.operations ≡ false
    → known_of s.branches xid ≡ Some b → Fits s s → Fits s (written s key value xid).after
wrote_fits s key value xid b limits room found h =
    done_fits s xid b (Wrote key value) found (λ k. record { past = k.past; written = wrote_short key value b.operations limits room k.written }) h

put_fits : (s : State) (n : ℕ) (key : List ℕ) (value : Option (List ℕ)) (o : Option (Triple × Branch)) → IsWrite (record { key = key; value = value }) → own_branch s n ≡ o → Fits s s
    → Fits s (put_by s key value o).after
put_fits s n key value None limits e h = h
put_fits s n key value (Some (xid, b)) limits e h =
    put_after (Fits s) s h key value xid b (mark_fits s xid XA_RBTRANSIENT h)
    (λ room timely. wrote_fits s key value xid b limits (passed _ _ _ room).0 (owned_by xid b s.branches (active_of s.associations n) e) h)

-- the calls that log

known_fits_by : (logged_boot : ℕ) (xid : Triple) (bs : List Branch) (o : Option Branch) → known_of bs xid ≡ o → AreRecordable logged_boot bs → IfSome o (IsRecordable logged_boot)
known_fits_by logged_boot xid bs None e h = tt
known_fits_by logged_boot xid bs (Some b) e h = found_all (IsRecordable logged_boot) (is_known_as xid) b bs h e

past_short : (logged_boot t : ℕ) → logged_boot ≤ MOST_BOOTS → is_past (logged_boot + 1) t ≡ true → t < 2 ^ 64
past_short logged_boot t last past = let boot : boot_of t < logged_boot + 1 = grind (arith, nat_tests) in omega (arith, boot, last)

stamped_by : (logged_boot : ℕ) (o : Option Branch) → logged_boot ≤ MOST_BOOTS → is_empty (writes_by o) ≡ false → IfSome o (IsRecordable logged_boot) → IsStamped (timestamp_by o) (writes_by o)
stamped_by logged_boot None last some h = absurd (cc some)
stamped_by logged_boot (Some b) last some h = record { stamp = past_short logged_boot b.timestamp last h.past; writes = are_writes b.operations some h.written }

branch_limits : (s : State) (xid : Triple) → IsLoggable s → IsWithinLimits xid → is_empty (writes_in s xid) ≡ false → IsBranch xid (timestamp_in s xid) (writes_in s xid)
branch_limits s xid h name some = record {
  name = name;
  stamped = stamped_by s.logged_boot (known_of s.branches xid) h.last some (known_fits_by s.logged_boot xid s.branches (known_of s.branches xid) refl (recordable s h));
}

-- a branch is logged where there is room, and else rolled back
written_keeps : (s : State) (xid : Triple) (r : Record) (more : ℕ) (left : State) → IsRecord r → is_boot r ≡ false → Fits s left
    → Fits s s → KeepsRecordable s (cond (has_room s r more) (logs s r XAER_RMERR left) (Now (log_full s xid)))
written_keeps s xid r more left is other fits h =
    cond_keeps (has_room s r more) s (logs s r XAER_RMERR left) (Now (log_full s xid))
    (λ room. logs_keeps s r XAER_RMERR left is other fits) (λ full. gone_fits s xid h)

prepare_keeps : (s : State) (xid : Triple) → IsLoggable s → IsWithinLimits xid → KeepsRecordable s (prepare_turn s xid)
prepare_keeps s xid loggable name =
    let h = recordable s loggable in
    let r = logged.Prepared xid (timestamp_in s xid) (writes_in s xid) in
    unless_keeps (unprepared_refusal (known_as s xid) (is_associated s xid)) s _ h
    (λ allowed. marked_keeps (mark_in (known_as s xid)) s (rolled_back s xid) _ (gone_fits s xid h)
    (cond_keeps (is_empty (writes_in s xid)) s (Now (answer (plain XA_RDONLY) (committed s xid))) (prepare_written s xid) (λ empty. committed_fits s xid h)
    (λ some. written_keeps s xid r 1 s (branch_limits s xid loggable name some) refl h h)))

commit_one_keeps : (s : State) (xid : Triple) → IsLoggable s → IsWithinLimits xid → KeepsRecordable s (commit_one_phase_turn s xid)
commit_one_keeps s xid loggable name =
    let h = recordable s loggable in
    let r = logged.Committed xid (timestamp_in s xid) (writes_in s xid) in
    unless_keeps (unprepared_refusal (known_as s xid) (is_associated s xid)) s _ h
    (λ allowed. marked_keeps (mark_in (known_as s xid)) s (rolled_back s xid) _ (gone_fits s xid h)
    (cond_keeps (is_empty (writes_in s xid)) s (Now (ok (committed s xid))) (commit_written s xid) (λ empty. committed_fits s xid h)
    (λ some. written_keeps s xid r 0 (rolled_back s xid) (branch_limits s xid loggable name some) refl (gone_fits s xid h) h)))

commit_keeps : (s : State) (flags : ℕ) (xid : Triple) → IsLoggable s → IsWithinLimits xid → KeepsRecordable s (commit_turn s flags xid)
commit_keeps s flags xid loggable name =
    let h = recordable s loggable in
    cond_keeps (has flags TMONEPHASE) s (commit_one_phase_turn s xid) (commit_two_phase_turn s xid) (λ one. commit_one_keeps s xid loggable name)
    (λ two. unless_keeps (two_phase_refusal (known_as s xid)) s _ h
    (λ allowed. unless_keeps (heuristic_refusal (known_as s xid)) s _ h (λ none. logs_keeps s (logged.Completed xid direction.Commit) XA_RETRY s name refl h)))

roll_back_keeps : (s : State) (xid : Triple) (k : Known) → IsWithinLimits xid → Fits s s → KeepsRecordable s (roll_back_turn s xid k)
roll_back_keeps s xid Unknown name h = gone_fits s xid h
roll_back_keeps s xid (AtWork mark) name h = marked_keeps mark s (rolled_back s xid) (Now (ok (rolled_back s xid))) (gone_fits s xid h) (gone_fits s xid h)
roll_back_keeps s xid InDoubt name h = logs_keeps s (logged.Completed xid direction.Rollback) XAER_RMERR s name refl h
roll_back_keeps s xid (Completed direction) name h = gone_fits s xid h

-- all rows

row_keeps : (s : State) (n : ℕ) (request : Request) → IsAsked request → IsLoggable s → asks_boot request ≡ false → KeepsRecordable s (row s n request)
row_keeps s n (Open flags info) is h other = recordable s h
row_keeps s n (Close flags) is h other = unless_after (Fits s) (close_refusal (list_any (is_of_session n) s.associations)) s _ (recordable s h) (λ none. recordable s h)
row_keeps s n (Start flags xid) is h other = start_fits s n flags xid h
row_keeps s n (End flags xid) is h other = end_fits s n flags xid (recordable s h)
row_keeps s n (Prepare flags xid) is h other = prepare_keeps s xid h is.held.1
row_keeps s n (Commit flags xid) is h other = commit_keeps s flags xid h is.held.1
row_keeps s n (Rollback flags xid) is h other =
    unless_keeps (rollback_refusal (known_as s xid) (is_associated s xid)) s _ (recordable s h)
    (λ allowed. unless_keeps (heuristic_refusal (known_as s xid)) s _ (recordable s h) (λ none. roll_back_keeps s xid (known_as s xid) is.held.1 (recordable s h)))
row_keeps s n (Forget flags xid) is h other =
    unless_keeps (forget_refusal (known_as s xid)) s _ (recordable s h) (λ allowed. logs_keeps s (logged.Forgotten xid) XAER_RMERR s is.held.1 refl (recordable s h))
row_keeps s n (Recover flags count) is h other = recover_fits s n flags count (scan_from flags (scan_of s.sessions n)) (recordable s h)
row_keeps s n (Get key) is h other = get_fits s n key (own_branch s n) refl (recordable s h)
row_keeps s n (Put key value) is h other =
    put_fits s n key (Some value) (own_branch s n) (record { some = is.limits.0.0; short = is.limits.0.1; value = is.limits.1 }) refl (recordable s h)
row_keeps s n (Delete key) is h other = put_fits s n key None (own_branch s n) (record { some = is.limits.0; short = is.limits.1; value = tt }) refl (recordable s h)
row_keeps s n (Decide direction xid) is h other =
    unless_keeps (decide_refusal (known_as s xid)) s _ (recordable s h) (λ allowed. logs_keeps s (logged.Decided xid direction) XAER_RMERR s is.held refl (recordable s h))
row_keeps s n (Doom xid) is h other = unless_after (Fits s) (doom_refusal (known_as s xid)) s (ok (doomed s xid)) (recordable s h) (λ none. mark_fits s xid XA_RBOTHER (recordable s h))
row_keeps s n Restart is h other = absurd (cc other)
row_keeps s n (Timeout seconds) is h other = recordable s h
row_keeps s n (Tick moment) is h other = timed_recordable moment s.logged_boot s.branches (recordable s h)
row_keeps s n Trim is h other = absurd (cc other)
row_keeps s n (Branches count after) is h other = recordable s h

pub events_keep_recordable : (s : State) (e : Event) → IsEvent e → IsLoggable s → begins_boot e ≡ false → KeepsRecordable s (respond s e)
events_keep_recordable s event.Connect is h other = unless_after (Fits s) (connect_refusal (length s.sessions)) s (connected s) (recordable s h) (λ none. recordable s h)
events_keep_recordable s (event.Hangup n) is h other = left_recordable s.associations n s.logged_boot s.branches (recordable s h)
events_keep_recordable s (event.Call n request) is h other =
    unless_keeps (early_refusal (context_of s n) request) s (row s n request) (recordable s h) (λ allowed. row_keeps s n request is h other)
