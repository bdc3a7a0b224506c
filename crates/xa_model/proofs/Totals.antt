-- Each happening has an answer with each outcome that fits its turn, and one fits.
use Rattle.std.proofs.Common.{◌≡◌, ◌∙◌, ℕ, zero, suc, ℤ, Bool, true, false, List, [], ◌∷◌, length, Option, Some, None, refl, sym, ap, arith}
use Rattle.std.specs.Prelude.{is_some, ◌||◌, ◌&&◌, ◌+◌, nat_lt, nat_le, option_map, option_and_then, if◌then◌else◌}
use Rattle.std.proofs.lemmas.Bool.Decides.{nat_tests}
use Rattle.xa_codes.specs.Flags.{has}
use Rattle.xa_codes.specs.declared.flags.TheConstants.{TMONEPHASE}
use Rattle.xa_codes.specs.declared.codes.TheConstants.{XAER_RMERR, XA_RDONLY}
use Rattle.xa_record.specs.declared.record.Record.{Record}
use Rattle.xa_record.specs.declared.record.Record.TheVariants as logged
use Rattle.xa_frame.specs.declared.reply.Reply.{Reply}
use Rattle.xa_frame.specs.declared.request.Request.{Request}
use Rattle.xa_frame.specs.declared.request.Request.TheVariants.{Open, Close, Start, End, Prepare, Commit, Rollback, Forget, Recover, Get, Put, Delete, Decide, Doom, Restart, Timeout, Tick, Trim, Branches}
use Rattle.xa_xid.specs.Triple.{Triple}
use Rattle.xa_model.specs.declared.event.Event.{Event}
use Rattle.xa_model.specs.declared.event.Event.TheVariants as event
use Rattle.xa_model.specs.declared.outcome.Outcome.{Outcome}
use Rattle.xa_model.specs.declared.outcome.Outcome.TheVariants.{Quiet, Appended, Joined, Failed, Reread}
use Rattle.xa_model.specs.declared.outcome.Appending.{Appending}
use Rattle.xa_model.specs.declared.outcome.Appending.TheVariants.{Kept, Refused, Lost}
use Rattle.xa_model.specs.State.{State, Standing, Up, Down, Ended, Known, Unknown, AtWork, InDoubt, Completed, known_as}
use Rattle.xa_model.specs.Answer.{Answer, answer, plain, ok}
use Rattle.xa_model.specs.Associations.{mark_in, timestamp_in}
use Rattle.xa_model.specs.Phases.{is_associated, unprepared_refusal, two_phase_refusal, rollback_refusal, heuristic_refusal, rolled_back, committed}
use Rattle.xa_model.specs.Completions.{prepare_turn, prepare_written, commit_one_phase_turn, commit_written, commit_two_phase_turn, rollback_turn, roll_back_turn, decide_refusal, forget_refusal}
use Rattle.xa_model.specs.Early.{early_refusal}
use Rattle.xa_model.specs.Fold.{is_empty}
use Rattle.xa_model.specs.Logging.{has_room, writes_in, append_became, log_full, applied, supposed, takes_more}
use Rattle.xa_model.specs.Turn.{Happening, Asked, Reopened, Turn, Nobody, Now, Appends, Checkpoints, Rereads, Joins, Rereading, Stops, Opens, taken, going_on, unless_now, marked_now}
use Rattle.xa_model.specs.Trimming.{trim_refusal}
use Rattle.xa_model.specs.Step.{turn, row, respond, asked, commit_turn, context_of, is_down, record_in, further_record, or_joins}
use Rattle.xa_model.specs.Restarting.{restarting, reopening, can_open, looked, with_first}
use Rattle.xa_limits.specs.declared.TheConstants.{MOST_BOOTS}
use Rattle.xa_model.proofs.Further.{joins_with}
use Rattle.xa_model.specs.Laws.Total.{fits, fits_rereading, StepIsTotal, is_over, NothingIsStuck, NobodyAnswers, RestartsLook, OpeningsLook}

going_fits : (r : Rereading) (x : Option Appending) → is_some (going_on x r) ≡ fits_rereading (Some r) x
going_fits (Stops a) None = refl
going_fits (Stops a) (Some x) = refl
going_fits (Opens appended after) None = refl
going_fits (Opens appended after) (Some x) = refl

found_fits : (o : Option Rereading) (x : Option Appending) → is_some (option_and_then (going_on x) o) ≡ fits_rereading o x
found_fits None x = refl
found_fits (Some r) x = going_fits r x

pub taken_fits : (t : Turn) (outcome : Outcome) → is_some (taken t outcome) ≡ fits t outcome
taken_fits Nobody outcome = refl
taken_fits (Now a) Quiet = refl
taken_fits (Now a) (Appended x) = refl
taken_fits (Now a) (Joined Kept) = refl
taken_fits (Now a) (Joined Refused) = refl
taken_fits (Now a) (Joined Lost) = refl
taken_fits (Now a) Failed = refl
taken_fits (Now a) (Reread k x) = refl
taken_fits (Appends r after) Quiet = refl
taken_fits (Appends r after) (Appended x) = refl
taken_fits (Appends r after) (Joined Kept) = refl
taken_fits (Appends r after) (Joined Refused) = refl
taken_fits (Appends r after) (Joined Lost) = refl
taken_fits (Appends r after) Failed = refl
taken_fits (Appends r after) (Reread k x) = refl
taken_fits (Checkpoints r after) Quiet = refl
taken_fits (Checkpoints r after) (Appended x) = refl
taken_fits (Checkpoints r after) (Joined Kept) = refl
taken_fits (Checkpoints r after) (Joined Refused) = refl
taken_fits (Checkpoints r after) (Joined Lost) = refl
taken_fits (Checkpoints r after) Failed = refl
taken_fits (Checkpoints r after) (Reread k x) = refl
taken_fits (Rereads failed found) Quiet = refl
taken_fits (Rereads failed found) (Appended x) = refl
taken_fits (Rereads failed found) (Joined Kept) = refl
taken_fits (Rereads failed found) (Joined Refused) = refl
taken_fits (Rereads failed found) (Joined Lost) = refl
taken_fits (Rereads failed found) Failed = refl
taken_fits (Rereads failed found) (Reread k x) = found_fits (found k) x
taken_fits (Joins refused r lost) Quiet = refl
taken_fits (Joins refused r lost) (Appended x) = refl
taken_fits (Joins refused r lost) (Joined Kept) = refl
taken_fits (Joins refused r lost) (Joined Refused) = refl
taken_fits (Joins refused r lost) (Joined Lost) = refl
taken_fits (Joins refused r lost) Failed = refl
taken_fits (Joins refused r lost) (Reread k x) = refl

pub step_is_total : StepIsTotal
step_is_total s h outcome = taken_fits (turn s h) outcome

-- Something fits

record IsTaken (t : Turn) : Type 0 where
  outcome : Outcome
  fitting : fits t outcome ≡ true

now_taken : (a : Answer) → IsTaken (Now a)
now_taken a = record { outcome = Quiet; fitting = refl }

appends_taken : (r : Record) (after : Appending → Answer) → IsTaken (Appends r after)
appends_taken r after = record { outcome = Appended Kept; fitting = refl }

checkpoints_taken : (r : Record) (after : Appending → Answer) → IsTaken (Checkpoints r after)
checkpoints_taken r after = record { outcome = Appended Kept; fitting = refl }

rereads_taken : (failed : Answer) (found : ℕ → Option Rereading) → IsTaken (Rereads failed found)
rereads_taken failed found = record { outcome = Failed; fitting = refl }

unless_taken : (o : Option Reply) (s : State) (t : Turn) → IsTaken t → IsTaken (unless_now o s t)
unless_taken None s t h = h
unless_taken (Some reply) s t h = now_taken _

marked_taken : (o : Option ℤ) (s : State) (t : Turn) → IsTaken t → IsTaken (marked_now o s t)
marked_taken None s t h = h
marked_taken (Some code) s t h = now_taken _

either_taken : (b : Bool) (t u : Turn) → IsTaken t → IsTaken u → IsTaken (if b then t else u)
either_taken true t u h k = h
either_taken false t u h k = k

written_taken : (b : Bool) (r : Record) (after : Appending → Answer) (a : Answer) → IsTaken (if b then Appends r after else Now a)
written_taken b r after a = either_taken b (Appends r after) (Now a) (appends_taken r after) (now_taken a)

prepare_taken : (s : State) (xid : Triple) → IsTaken (prepare_turn s xid)
prepare_taken s xid =
    let r = logged.Prepared xid (timestamp_in s xid) (writes_in s xid) in
    unless_taken (unprepared_refusal (known_as s xid) (is_associated s xid)) s _
    (marked_taken (mark_in (known_as s xid)) _ _
    (either_taken (is_empty (writes_in s xid)) _ (prepare_written s xid) (now_taken (answer (plain XA_RDONLY) (committed s xid))) (written_taken (has_room s r 1) r (append_became s r XAER_RMERR s) (log_full s xid))))

one_phase_taken : (s : State) (xid : Triple) → IsTaken (commit_one_phase_turn s xid)
one_phase_taken s xid =
    let r = logged.Committed xid (timestamp_in s xid) (writes_in s xid) in
    unless_taken (unprepared_refusal (known_as s xid) (is_associated s xid)) s _
    (marked_taken (mark_in (known_as s xid)) _ _
    (either_taken (is_empty (writes_in s xid)) _ (commit_written s xid) (now_taken (ok (committed s xid))) (written_taken (has_room s r 0) r (append_became s r XAER_RMERR (rolled_back s xid)) (log_full s xid))))

two_phase_taken : (s : State) (xid : Triple) → IsTaken (commit_two_phase_turn s xid)
two_phase_taken s xid =
    unless_taken (two_phase_refusal (known_as s xid)) s _ (unless_taken (heuristic_refusal (known_as s xid)) s _ (appends_taken _ _))

commit_taken : (s : State) (flags : ℕ) (xid : Triple) → IsTaken (commit_turn s flags xid)
commit_taken s flags xid = either_taken (has flags TMONEPHASE) _ _ (one_phase_taken s xid) (two_phase_taken s xid)

roll_back_taken : (s : State) (xid : Triple) (k : Known) → IsTaken (roll_back_turn s xid k)
roll_back_taken s xid Unknown = now_taken _
roll_back_taken s xid (AtWork mark) = marked_taken mark _ _ (now_taken _)
roll_back_taken s xid InDoubt = appends_taken _ _
roll_back_taken s xid (Completed direction) = now_taken _

rollback_taken : (s : State) (xid : Triple) → IsTaken (rollback_turn s xid)
rollback_taken s xid =
    unless_taken (rollback_refusal (known_as s xid) (is_associated s xid)) s _
    (unless_taken (heuristic_refusal (known_as s xid)) s _ (roll_back_taken s xid (known_as s xid)))

row_taken : (s : State) (n : ℕ) (request : Request) → IsTaken (row s n request)
row_taken s n (Open flags info) = now_taken _
row_taken s n (Close flags) = now_taken _
row_taken s n (Start flags xid) = now_taken _
row_taken s n (End flags xid) = now_taken _
row_taken s n (Prepare flags xid) = prepare_taken s xid
row_taken s n (Commit flags xid) = commit_taken s flags xid
row_taken s n (Rollback flags xid) = rollback_taken s xid
row_taken s n (Forget flags xid) = unless_taken (forget_refusal (known_as s xid)) s _ (appends_taken _ _)
row_taken s n (Recover flags count) = now_taken _
row_taken s n (Get key) = now_taken _
row_taken s n (Put key value) = now_taken _
row_taken s n (Delete key) = now_taken _
row_taken s n (Decide direction xid) = unless_taken (decide_refusal (known_as s xid)) s _ (appends_taken _ _)
row_taken s n (Doom xid) = now_taken _
row_taken s n Restart = rereads_taken _ _
row_taken s n (Timeout seconds) = now_taken _
row_taken s n (Tick moment) = now_taken _
row_taken s n Trim = unless_taken (trim_refusal s) s _ (checkpoints_taken _ _)
row_taken s n (Branches count after) = now_taken _

respond_taken : (s : State) (e : Event) → IsTaken (respond s e)
respond_taken s event.Connect = now_taken _
respond_taken s (event.Hangup n) = now_taken _
respond_taken s (event.Call n request) =
    unless_taken (early_refusal (context_of s n) request) s (row s n request) (row_taken s n request)

asked_taken : (standing : Standing) (e : Event) (t : Turn) → is_over standing (Asked e) ≡ false → IsTaken t → IsTaken (asked standing t)
asked_taken Up e t other h = h
asked_taken Down e t other h = h
asked_taken Ended e t over h = absurd (cc over)

happening_taken : (s : State) (h : Happening) → is_over s.standing h ≡ false → IsTaken (turn s h)
happening_taken s (Asked e) other =
    joins_with IsTaken s (further_record s e) (asked s.standing (respond s e)) (asked_taken s.standing e (respond s e) other (respond_taken s e))
    (λ a r found now. record { outcome = Quiet; fitting = refl })
happening_taken s (Reopened name log_bytes) other = rereads_taken _ _

pub nothing_is_stuck : NothingIsStuck
nothing_is_stuck s h other = let taken_ = happening_taken s h other in (taken_.outcome, taken_.fitting)

asked_over : (standing : Standing) (e : Event) (t : Turn) (outcome : Outcome) → is_over standing (Asked e) ≡ true → taken (asked standing t) outcome ≡ None
asked_over Up e t outcome over = absurd (cc over)
asked_over Down e t outcome over = absurd (cc over)
asked_over Ended e t outcome over = refl

opening_goes_on : (standing : Standing) (name : List ℕ) (log_bytes : ℕ) → is_over standing (Reopened name log_bytes) ≡ false
opening_goes_on Up name log_bytes = refl
opening_goes_on Down name log_bytes = refl
opening_goes_on Ended name log_bytes = refl

is_ended : (standing : Standing) (e : Event) → is_over standing (Asked e) ≡ true → is_down standing ≡ false
is_ended Up e over = absurd (cc over)
is_ended Down e over = absurd (cc over)
is_ended Ended e over = refl

over_turn : (s : State) (e : Event) → is_down s.standing ≡ false → turn s (Asked e) ≡ asked s.standing (respond s e)
over_turn s e still =
    ap (λ (c : Bool). or_joins s (if c && takes_more s.open_records then record_in (respond (supposed s) e) else None) (asked s.standing (respond s e))) still

pub nobody_answers : NobodyAnswers
nobody_answers s (Asked e) outcome over =
    ap (λ (t : Turn). taken t outcome) (over_turn s e (is_ended s.standing e over)) ∙ asked_over s.standing e (respond s e) outcome over
nobody_answers s (Reopened name log_bytes) outcome over = let other = opening_goes_on s.standing name log_bytes in absurd (cc (over, other))

-- What a look finds

either_looks : (b : Bool) (r : Record) (after : Appending → Answer) (a : Answer) (x : Appending)
    → (fits_rereading (Some (if b then Opens r after else Stops a)) None || fits_rereading (Some (if b then Opens r after else Stops a)) (Some x)) ≡ true
either_looks true r after a x = refl
either_looks false r after a x = refl

-- one more is found where there is one more

none_within : (n : ℕ) → nat_le 0 n ≡ true
none_within n = grind (arith, nat_tests)

none_over : (k : ℕ) → nat_le (suc k) 0 ≡ false
none_over k = grind (arith, nat_tests)

within_by : (k n : ℕ) (c d : Bool) → nat_le k n ≡ c → nat_le (suc k) (suc n) ≡ d → c ≡ d
within_by k n true true e f = refl
within_by k n false false e f = refl
within_by k n true false e f = absurd (grind (arith, nat_tests))
within_by k n false true e f = absurd (grind (arith, nat_tests))

within_more : (k n : ℕ) → nat_le k n ≡ nat_le (suc k) (suc n)
within_more k n = within_by k n (nat_le k n) (nat_le (suc k) (suc n)) refl refl

abbrev LooksOf : (State → Rereading) → Appending → Option State → Bool
LooksOf boot x o = fits_rereading (option_map boot o) None || fits_rereading (option_map boot o) (Some x)

first_looks : (boot : State → Rereading) (x : Appending) → ((t : State) → LooksOf boot x (Some t) ≡ true) → (k : ℕ) (rs : List Record) (s : State)
    → LooksOf boot x (option_map looked (with_first k rs s)) ≡ nat_le k (length rs)
first_looks boot x each zero rs s = each (looked s) ∙ sym (none_within (length rs))
first_looks boot x each (suc k) [] s = sym (none_over k)
first_looks boot x each (suc k) (r ∷ rs) s = first_looks boot x each k rs (applied r s) ∙ within_more k (length rs)

pub restarts_look : RestartsLook
restarts_look s k x =
    first_looks restarting x (λ t. either_looks (nat_lt t.logged_boot MOST_BOOTS) _ _ _ x) k s.open_records s

pub openings_look : OpeningsLook
openings_look s name log_bytes k x =
    first_looks (reopening name log_bytes) x
    (λ t. either_looks (nat_lt t.logged_boot MOST_BOOTS && can_open t log_bytes (t.logged_boot + 1)) _ _ _ x) k s.open_records s
