-- The rows that prepare a branch, or commit it in one phase, by what the tables said of it.
use Rattle.std.proofs.Common.{◌≡◌, ℕ, ℤ, ◌+◌, ◌≤◌, ◌<◌, ◌^◌, ◌||◌, Bool, true, false, cond, List, length, Option, Some, None, refl, ap, sym, ◌∙◌, subst, arith}
use Rattle.std.specs.Prelude.{IsSome}
use Rattle.std.proofs.lemmas.Bool.Decides.{nat_tests}
use Rattle.mv_chain.specs.Accesses.{IsUndecided}
use Rattle.mv_rules.specs.Accesses.{Accesses, IsWritesOf}
use Rattle.mv_rules.specs.Records.{StandsFor as RecordsStandFor}
use Rattle.mv_rules.specs.Ties.{history_of, writes_in as writes_among}
use Rattle.mv_rules.proofs.Undecided.{at_work as among}
use Rattle.xa_codes.specs.declared.codes.TheConstants.{XAER_NOTA, XAER_PROTO, XAER_RMERR}
use Rattle.xa_codes.specs.declared.write.Write.{Write}
use Rattle.xa_limits.specs.declared.TheConstants.{MOST_BODY}
use Rattle.xa_frame.specs.declared.reply.Reply.{Reply}
use Rattle.xa_xid.specs.Triple.{Triple, IsWithinLimits}
use Rattle.xa_record.specs.Limits.{IsBranch}
use Rattle.xa_record.specs.Spelling.{spelled}
use Rattle.xa_record.specs.declared.record.Record.{Record}
use Rattle.xa_record.specs.declared.record.Record.TheVariants as logged
use Rattle.xa_record.proofs.Sizes.{any}
use Rattle.xa_model.specs.State.{State, Branch, is_known_as, known_of, known_as, timestamp_of, is_at_work}
use Rattle.xa_model.specs.Answer.{Answer, plain, answer}
use Rattle.xa_model.specs.Associations.{is_unknown, is_lasting, mark_in, timestamp_in, timestamp_by}
use Rattle.xa_model.specs.Phases.{committed, rolled_back, unprepared_refusal, is_associated}
use Rattle.xa_model.specs.Durable.{writes_of}
use Rattle.xa_model.specs.Fold.{is_empty, size_of}
use Rattle.xa_model.specs.Invariants.Sound.{IsSound}
use Rattle.xa_model.specs.Logging.{logs, has_room, log_full, log_room, writes_by, writes_in, prepared_count}
use Rattle.xa_model.specs.Invariants.Loggable.{IsLoggable, AreShort}
use Rattle.xa_model.specs.Invariants.MayLog.{IsIdle, MayLog}
use Rattle.xa_model.specs.Turn.{Turn, Now, unless_now, marked_now}
use Rattle.xa_model.proofs.Lists.{found_all}
use Rattle.xa_model.proofs.LoggedTurns.{allowed_idle}
use Rattle.xa_model.proofs.Rows.{passed, neither, at_work}
use Rattle.xa_model.proofs.Times.{known_below}
use Rattle.xa_model.proofs.ShortWrites.{are_writes}
use Rattle.xa_manager.specs.View.{View}
use Rattle.xa_manager.specs.Stands.{StandsFor}
use Rattle.xa_manager.proofs.Finishing.{IsHere, here_by}
use Rattle.xa_manager.specs.Plans.{Appends}
use Rattle.xa_manager.specs.Rows.{more_of, record_of, row_turn, unwritten_code, written_left, written_record}
use Rattle.xa_manager.specs.declared.row.Row.TheVariants.{Writes}
use Rattle.xa_manager.specs.declared.row.Writing.{Writing}
use Rattle.xa_manager.specs.declared.row.Writing.TheVariants.{Prepare, CommitOnePhase}
use Rattle.xa_manager.proofs.Written.{listed_writes}

-- both rows
abbrev pub one_phase_turn : State → Triple → Answer → Turn → Turn
one_phase_turn s xid empty written =
    unless_now (unprepared_refusal (known_as s xid) (is_associated s xid)) s
    (marked_now (mark_in (known_as s xid)) (rolled_back s xid) (cond (is_empty (writes_in s xid)) (Now empty) written))

-- what refuses, and what doesn't, over plain variables

pub refused_turn : (o : Option Reply) (s : State) (t : Turn) (reply : Reply) → Some reply ≡ o → unless_now o s t ≡ Now (answer reply s)
refused_turn o s t reply e = ap (λ (x : Option Reply). unless_now x s t) (sym e)

pub passed_turn : (o : Option Reply) (s : State) (t : Turn) → None ≡ o → unless_now o s t ≡ t
passed_turn o s t e = ap (λ (x : Option Reply). unless_now x s t) (sym e)

pub marked_turn : (mark : Option ℤ) (left : State) (t : Turn) (code : ℤ) → mark ≡ Some code → marked_now mark left t ≡ Now (answer (plain code) left)
marked_turn mark left t code e = ap (λ (x : Option ℤ). marked_now x left t) e

pub unmarked_turn : (mark : Option ℤ) (left : State) (t : Turn) → mark ≡ None → marked_now mark left t ≡ t
unmarked_turn mark left t e = ap (λ (x : Option ℤ). marked_now x left t) e

pub first_turn : (b : Bool) (t u : Turn) → b ≡ true → cond b t u ≡ t
first_turn b t u e = rw e refl

pub second_turn : (b : Bool) (t u : Turn) → b ≡ false → cond b t u ≡ u
second_turn b t u e = rw e refl

pub turn_refused : (s : State) (xid : Triple) (empty : Answer) (written : Turn) (reply : Reply) → Some reply ≡ unprepared_refusal (known_as s xid) (is_associated s xid) → one_phase_turn s xid empty written ≡ Now (answer reply s)
turn_refused s xid empty written reply refused =
    refused_turn (unprepared_refusal (known_as s xid) (is_associated s xid)) s (marked_now (mark_in (known_as s xid)) (rolled_back s xid) (cond (is_empty (writes_in s xid)) (Now empty) written)) reply refused

pub turn_marked : (s : State) (xid : Triple) (empty : Answer) (written : Turn) (code : ℤ) → None ≡ unprepared_refusal (known_as s xid) (is_associated s xid) → mark_in (known_as s xid) ≡ Some code
    → one_phase_turn s xid empty written ≡ Now (answer (plain code) (rolled_back s xid))
turn_marked s xid empty written code free marked =
    passed_turn (unprepared_refusal (known_as s xid) (is_associated s xid)) s (marked_now (mark_in (known_as s xid)) (rolled_back s xid) (cond (is_empty (writes_in s xid)) (Now empty) written)) free
    ∙ marked_turn (mark_in (known_as s xid)) (rolled_back s xid) (cond (is_empty (writes_in s xid)) (Now empty) written) code marked

goes_on : (s : State) (xid : Triple) (empty : Answer) (written : Turn) → None ≡ unprepared_refusal (known_as s xid) (is_associated s xid) → mark_in (known_as s xid) ≡ None
    → one_phase_turn s xid empty written ≡ cond (is_empty (writes_in s xid)) (Now empty) written
goes_on s xid empty written free unmarked =
    passed_turn (unprepared_refusal (known_as s xid) (is_associated s xid)) s (marked_now (mark_in (known_as s xid)) (rolled_back s xid) (cond (is_empty (writes_in s xid)) (Now empty) written)) free
    ∙ unmarked_turn (mark_in (known_as s xid)) (rolled_back s xid) (cond (is_empty (writes_in s xid)) (Now empty) written) unmarked

pub turn_empty : (s : State) (xid : Triple) (empty : Answer) (written : Turn) → None ≡ unprepared_refusal (known_as s xid) (is_associated s xid) → mark_in (known_as s xid) ≡ None → is_empty (writes_in s xid) ≡ true
    → one_phase_turn s xid empty written ≡ Now empty
turn_empty s xid empty written free unmarked none = goes_on s xid empty written free unmarked ∙ first_turn (is_empty (writes_in s xid)) (Now empty) written none

pub goes_written : (s : State) (xid : Triple) (empty : Answer) (written : Turn) → None ≡ unprepared_refusal (known_as s xid) (is_associated s xid) → mark_in (known_as s xid) ≡ None → is_empty (writes_in s xid) ≡ false
    → one_phase_turn s xid empty written ≡ written
goes_written s xid empty written free unmarked some = goes_on s xid empty written free unmarked ∙ second_turn (is_empty (writes_in s xid)) (Now empty) written some

pub turn_full : (s : State) (xid : Triple) (empty : Answer) (room : Bool) (written : Turn) → None ≡ unprepared_refusal (known_as s xid) (is_associated s xid) → mark_in (known_as s xid) ≡ None
    → is_empty (writes_in s xid) ≡ false → room ≡ false → one_phase_turn s xid empty (cond room written (Now (log_full s xid))) ≡ Now (log_full s xid)
turn_full s xid empty room written free unmarked some none =
    goes_written s xid empty (cond room written (Now (log_full s xid))) free unmarked some ∙ second_turn room written (Now (log_full s xid)) none

-- a branch that isn't refused is at work

pub worked : (s : State) (xid : Triple) → None ≡ unprepared_refusal (known_as s xid) (is_associated s xid) → is_at_work (known_of s.branches xid) ≡ true
worked s xid free =
    let known = passed (is_unknown (known_as s xid)) (plain XAER_NOTA) _ (sym free) in
    let idle = passed (is_associated s xid || is_lasting (known_as s xid)) (plain XAER_PROTO) _ known.1 in
    at_work s xid known.0 (neither (is_associated s xid) (is_lasting (known_as s xid)) idle.0).1

pub known_by : (o : Option Branch) → is_at_work o ≡ true → IsSome o
known_by None h = absurd (cc h)
known_by (Some b) h = refl

pub worked_known : (s : State) (xid : Triple) → None ≡ unprepared_refusal (known_as s xid) (is_associated s xid) → IsSome (known_of s.branches xid)
worked_known s xid free = known_by (known_of s.branches xid) (worked s xid free)

pub known_some : (s : State) (xid : Triple) → is_unknown (known_as s xid) ≡ false → is_lasting (known_as s xid) ≡ false → IsSome (known_of s.branches xid)
known_some s xid known unsettled = known_by (known_of s.branches xid) (at_work s xid known unsettled)

-- its writes, as the records list them
pub told_writes : (m : View) (s : State) (xid : Triple) (t : ℕ) (ws : List Write) → StandsFor m s → IsSome (known_of s.branches xid) → t ≡ timestamp_in s xid
    → ((h : Accesses) → RecordsStandFor h m.records → IsUndecided t h.writes → IsWritesOf t h.writes ws) → ws ≡ writes_in s xid
told_writes m s xid t ws st known time told =
    let x : IsHere s xid = here_by s xid (known_of s.branches xid) refl known in
    let b = x.branch in
    let limit = timestamp_of s.boot s.given + 1 in
    let is : t ≡ b.timestamp = time ∙ ap timestamp_by x.at in
    let undecided : IsUndecided b.timestamp (writes_among s.branches) = (among xid b limit s.branches st.recoverable.sound.descends x.at x.undecided).all_undecided in
    let listed : IsWritesOf b.timestamp (writes_among s.branches) ws =
    subst (λ (u : ℕ). IsWritesOf u (writes_among s.branches) ws) is (told (history_of s) st.records (subst (λ (u : ℕ). IsUndecided u (writes_among s.branches)) (sym is) undecided)) in
    listed_writes xid b limit s.branches ws st.recoverable.sound.descends x.at listed ∙ ap writes_by (sym x.at)

-- timestamps have 64 bits
stamp_of : (s : State) (xid : Triple) (b : Branch) → IsSound s → IsLoggable s → known_of s.branches xid ≡ Some b → b.timestamp < 2 ^ 64
stamp_of s xid b sound loggable found =
    let below : b.timestamp < timestamp_of s.boot s.given + 1 = known_below xid b (timestamp_of s.boot s.given + 1) s.branches sound.descends found in
    let boots = loggable.boots in
    let last = loggable.last in
    let given = sound.given in
    omega arith

-- a record of them is within its limits
pub is_branch : (s : State) (xid : Triple) → IsSound s → IsLoggable s → IsWithinLimits xid → IsSome (known_of s.branches xid) → is_empty (writes_in s xid) ≡ false → IsBranch xid (timestamp_in s xid) (writes_in s xid)
is_branch s xid sound loggable name known some =
    let x : IsHere s xid = here_by s xid (known_of s.branches xid) refl known in
    let is : writes_in s xid ≡ writes_of x.branch.operations = ap writes_by x.at in
    let short : AreShort (writes_of x.branch.operations) = found_all (λ (b : Branch). AreShort (writes_of b.operations)) (is_known_as xid) x.branch s.branches loggable.written x.at in
    let stamp : timestamp_in s xid < 2 ^ 64 = subst (λ (u : ℕ). u < 2 ^ 64) (sym (ap timestamp_by x.at)) (stamp_of s xid x.branch sound loggable x.at) in
    record { name = name; stamped = record { stamp = stamp; writes = rw is (are_writes x.branch.operations (ap is_empty (sym is) ∙ some) short) } }

-- lists without writes, and with some

pub no_writes : (ws : List Write) → length ws ≡ 0 → is_empty ws ≡ true
no_writes ws e = grind (arith, nat_tests, e)

pub some_writes : (ws : List Write) → 1 ≤ length ws → is_empty ws ≡ false
some_writes ws e = grind (arith, nat_tests, e)

-- what the log's room says of a body

pub room_of : (s : State) (r : Record) (n more : ℕ) (room : Bool) → length (spelled r) ≡ n → room ≡ log_room s.log_bytes (s.end + (n + 36)) (prepared_count s + more) (length s.decided)
    → log_room s.log_bytes (s.end + size_of r) (prepared_count s + more) (length s.decided) ≡ room
room_of s r n more room e h = ap (λ (k : ℕ). log_room s.log_bytes (s.end + (k + 36)) (prepared_count s + more) (length s.decided)) e ∙ sym h

pub fits_by : (bytes end n kept decided : ℕ) → log_room bytes (end + (n + 36)) kept decided ≡ true → end + 40 + n ≤ bytes
fits_by bytes end n kept decided e = grind (arith, nat_tests, e)

-- a branch with writes, the record of them, and whether the log has room for it
pub record HasRecord (s : State) (xid : Triple) (r : Record) (more : ℕ) (body : List ℕ) (room : Bool) : Type 0 where
  pub free : None ≡ unprepared_refusal (known_as s xid) (is_associated s xid)
  pub unmarked : mark_in (known_as s xid) ≡ None
  pub some : is_empty (writes_in s xid) ≡ false
  pub body_is : spelled r ≡ body
  pub room_is : has_room s r more ≡ room

-- as the tables and the log told
pub record WasTold (m : View) (xid : Triple) (t : ℕ) (ws : List Write) : Type 0 where
  pub name : IsWithinLimits xid
  pub some : is_empty ws ≡ false
  pub free : (s : State) → StandsFor m s → None ≡ unprepared_refusal (known_as s xid) (is_associated s xid)
  pub unmarked : (s : State) → StandsFor m s → mark_in (known_as s xid) ≡ None
  pub time : (s : State) → StandsFor m s → t ≡ timestamp_in s xid
  pub writes : (h : Accesses) → RecordsStandFor h m.records → IsUndecided t h.writes → IsWritesOf t h.writes ws

abbrev IsRoom : State → ℕ → ℕ → Bool → Type 0
IsRoom s n more room = n ≤ MOST_BODY → room ≡ log_room s.log_bytes (s.end + (n + 36)) (prepared_count s + more) (length s.decided)

has_record : (m : View) (s : State) (xid : Triple) (t : ℕ) (ws : List Write) (record_of : Triple → ℕ → List Write → Record) (more n : ℕ) (body : List ℕ) (room : Bool) → StandsFor m s → WasTold m xid t ws
    → ((t : ℕ) (ws : List Write) → IsBranch xid t ws → length (spelled (record_of xid t ws)) ≤ MOST_BODY) → body ≡ spelled (record_of xid t ws) → n ≡ length body → IsRoom s n more room
    → HasRecord s xid (record_of xid (timestamp_in s xid) (writes_in s xid)) more body room
has_record m s xid t ws record_of more n body room st w short spells size is_room =
    let free = w.free s st in
    let known = worked_known s xid free in
    let time = w.time s st in
    let writes : ws ≡ writes_in s xid = told_writes m s xid t ws st known time w.writes in
    let some : is_empty (writes_in s xid) ≡ false = ap is_empty (sym writes) ∙ w.some in
    let branch = is_branch s xid st.recoverable.sound st.recoverable.loggable w.name known some in
    let e : spelled (record_of xid (timestamp_in s xid) (writes_in s xid)) ≡ body =
    ap (λ (u : ℕ). spelled (record_of xid u (writes_in s xid))) (sym time) ∙ ap (λ (us : List Write). spelled (record_of xid t us)) (sym writes) ∙ sym spells in
    let long : n ≤ MOST_BODY = subst (λ (k : ℕ). k ≤ MOST_BODY) (ap length e ∙ sym size) (short (timestamp_in s xid) (writes_in s xid) branch) in
    record {
      free = free;
      unmarked = w.unmarked s st;
      some = some;
      body_is = e;
      room_is = room_of s (record_of xid (timestamp_in s xid) (writes_in s xid)) n more room (ap length e ∙ sym size) (is_room long);
    }

written_short : (w : Writing) (xid : Triple) (t : ℕ) (ws : List Write) → IsBranch xid t ws → length (spelled (written_record w xid t ws)) ≤ MOST_BODY
written_short Prepare xid t ws h = (any (logged.Prepared xid t ws) h).1
written_short CommitOnePhase xid t ws h = (any (logged.Committed xid t ws) h).1

pub has_written : (m : View) (s : State) (w : Writing) (xid : Triple) (t : ℕ) (ws : List Write) (n : ℕ) (body : List ℕ) (room : Bool) → StandsFor m s → WasTold m xid t ws → body ≡ spelled (written_record w xid t ws) → n ≡ length body
    → IsRoom s n (more_of w) room → HasRecord s xid (record_of (Writes w) xid s) (more_of w) body room
has_written m s w xid t ws n body room st told spells size is_room =
    has_record m s xid t ws (λ x u us. written_record w x u us) (more_of w) n body room st told (written_short w xid) spells size is_room

-- both rows are one
abbrev pub unwritten : Writing → State → Triple → Answer
unwritten w s xid = answer (plain (unwritten_code w)) (committed s xid)

abbrev pub written : Writing → State → Triple → Turn
written w s xid =
    let r = record_of (Writes w) xid s in cond (has_room s r (more_of w)) (logs s r XAER_RMERR (written_left w xid s)) (Now (log_full s xid))

written_turn : (w : Writing) (s : State) (xid : Triple) → row_turn (Writes w) xid s ≡ one_phase_turn s xid (unwritten w s xid) (written w s xid)
written_turn Prepare s xid = refl
written_turn CommitOnePhase s xid = refl

pub of_row : (w : Writing) (s : State) (xid : Triple) (t : Turn) → one_phase_turn s xid (unwritten w s xid) (written w s xid) ≡ t → row_turn (Writes w) xid s ≡ t
of_row w s xid t h = written_turn w s xid ∙ h

written_may : (w : Writing) (s : State) (xid : Triple) (t : ℕ) (ws : List Write) → IsIdle s xid t ws → MayLog s (written_record w xid t ws)
written_may Prepare s xid t ws h = h
written_may CommitOnePhase s xid t ws h = h

-- Where there is room, the record is appended.
pub written_appends : (w : Writing) (s : State) (xid : Triple) (body : List ℕ) → HasRecord s xid (record_of (Writes w) xid s) (more_of w) body true → Appends (Writes w) xid body s
written_appends w s xid body h =
    let r = record_of (Writes w) xid s in
    let logs_ = logs s r XAER_RMERR (written_left w xid s) in
    record {
      turn_is = written_turn w s xid ∙ goes_written s xid (unwritten w s xid) (written w s xid) h.free h.unmarked h.some ∙ first_turn (has_room s r (more_of w)) logs_ (Now (log_full s xid)) h.room_is;
      may = written_may w s xid (timestamp_in s xid) (writes_in s xid) (allowed_idle s xid (sym h.free));
      body_is = h.body_is;
      fits = subst (λ (b : List ℕ). s.end + 40 + length b ≤ s.log_bytes) h.body_is (fits_by s.log_bytes s.end (length (spelled r)) (prepared_count s + more_of w) (length s.decided) h.room_is);
    }
