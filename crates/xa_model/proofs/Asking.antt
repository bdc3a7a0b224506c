-- Which records the calls log: that an XID is prepared, completed or forgotten is logged where that is asked.
use Rattle.std.proofs.Common.{◌≡◌, ◌+◌, ℕ, ℤ, Bool, true, false, cond, Option, Some, None, subst}
use Rattle.xa_codes.specs.Flags.{has}
use Rattle.xa_codes.specs.declared.flags.TheConstants.{TMONEPHASE}
use Rattle.xa_codes.specs.declared.codes.TheConstants.{XAER_RMERR, XA_RETRY, XA_RDONLY}
use Rattle.xa_codes.specs.declared.direction.Direction.TheVariants as direction
use Rattle.xa_frame.specs.declared.reply.Reply.{Reply}
use Rattle.xa_frame.specs.declared.request.Request.{Request}
use Rattle.xa_frame.specs.declared.request.Request.TheVariants.{Open, Close, Start, End, Prepare, Commit, Rollback, Forget, Recover, Get, Put, Delete, Decide, Doom, Restart, Timeout, Tick, Trim, Branches}
use Rattle.xa_record.specs.declared.record.Record.{Record}
use Rattle.xa_record.specs.declared.record.Record.TheVariants as logged
use Rattle.xa_xid.specs.Triple.{Triple, xid_eq}
use Rattle.xa_xid.proofs.Same.{xid_same, xid_eq_itself}
use Rattle.xa_model.specs.declared.event.Event.{Event}
use Rattle.xa_model.specs.declared.event.Event.TheVariants as event
use Rattle.xa_model.specs.State.{State, Standing, Up, Down, Ended, Known, Unknown, AtWork, InDoubt, Completed, known_as}
use Rattle.xa_model.specs.Answer.{plain, answer, ok}
use Rattle.xa_model.specs.Early.{early_refusal}
use Rattle.xa_model.specs.Associations.{mark_in, timestamp_in}
use Rattle.xa_model.specs.Phases.{rolled_back, committed, unprepared_refusal, two_phase_refusal, rollback_refusal, heuristic_refusal, is_associated}
use Rattle.xa_model.specs.Fold.{is_empty}
use Rattle.xa_model.specs.Turn.{Happening, Asked, Reopened, Turn, Now, Appends, Checkpoints, unless_now, marked_now}
use Rattle.xa_model.specs.Step.{row, respond, asked, turn, context_of, further_record}
use Rattle.xa_model.specs.Logging.{logs, has_room, log_full, writes_in}
use Rattle.xa_model.specs.Completions.{prepare_turn, prepare_written, commit_one_phase_turn, commit_two_phase_turn, commit_written, roll_back_turn, decide_refusal, forget_refusal}
use Rattle.xa_model.specs.Trimming.{trim_refusal, trim_became}
use Rattle.xa_model.specs.ListedLaw.{is_prepare, is_completion, is_request}
use Rattle.xa_model.proofs.Further.{joins_with}
use Rattle.xa_model.proofs.Listing.{ends}

-- the record is one that this logs
abbrev pub IsAsked : Happening → Record → Type 0
IsAsked h (logged.Prepared x t ws) = is_request (is_prepare x) h ≡ true
IsAsked h (logged.Completed x way) = is_request (is_completion x) h ≡ true
IsAsked h (logged.Forgotten x) = is_request (is_completion x) h ≡ true
IsAsked h _ = Unit {0}

abbrev pub Logs : (Record → Type 0) → Turn → Type 0
Logs Q (Appends r after) = Q r
Logs Q _ = Unit {0}

unless_logs : (Q : Record → Type 0) (o : Option Reply) (s : State) (t : Turn) → Logs Q t → Logs Q (unless_now o s t)
unless_logs Q None s t h = h
unless_logs Q (Some reply) s t h = tt

marked_logs : (Q : Record → Type 0) (o : Option ℤ) (s : State) (t : Turn) → Logs Q t → Logs Q (marked_now o s t)
marked_logs Q None s t h = h
marked_logs Q (Some code) s t h = tt

cond_logs : (Q : Record → Type 0) (c : Bool) (t u : Turn) → Logs Q t → Logs Q u → Logs Q (cond c t u)
cond_logs Q true t u h k = h
cond_logs Q false t u h k = k

asked_logs : (Q : Record → Type 0) (standing : Standing) (t : Turn) → Logs Q t → Logs Q (asked standing t)
asked_logs Q Up t h = h
asked_logs Q Down t h = h
asked_logs Q Ended t h = tt

prepare_logs : (s : State) (n flags : ℕ) (x : Triple) → Logs (IsAsked (Asked (event.Call n (Prepare flags x)))) (prepare_turn s x)
prepare_logs s n flags x =
    let Q = IsAsked (Asked (event.Call n (Prepare flags x))) in
    let r = logged.Prepared x (timestamp_in s x) (writes_in s x) in
    unless_logs Q (unprepared_refusal (known_as s x) (is_associated s x)) s _
    (marked_logs Q (mark_in (known_as s x)) (rolled_back s x) _
    (cond_logs Q (is_empty (writes_in s x)) (Now (answer (plain XA_RDONLY) (committed s x))) (prepare_written s x) tt
    (cond_logs Q (has_room s r 1) (logs s r XAER_RMERR s) (Now (log_full s x)) (xid_eq_itself x) tt)))

one_phase_logs : (s : State) (h : Happening) (x : Triple) → Logs (IsAsked h) (commit_one_phase_turn s x)
one_phase_logs s h x =
    let r = logged.Committed x (timestamp_in s x) (writes_in s x) in
    unless_logs (IsAsked h) (unprepared_refusal (known_as s x) (is_associated s x)) s _
    (marked_logs (IsAsked h) (mark_in (known_as s x)) (rolled_back s x) _
    (cond_logs (IsAsked h) (is_empty (writes_in s x)) (Now (ok (committed s x))) (commit_written s x) tt
    (cond_logs (IsAsked h) (has_room s r 0) (logs s r XAER_RMERR (rolled_back s x)) (Now (log_full s x)) tt tt)))

roll_back_logs : (s : State) (n flags : ℕ) (x : Triple) (k : Known) → Logs (IsAsked (Asked (event.Call n (Rollback flags x)))) (roll_back_turn s x k)
roll_back_logs s n flags x Unknown = tt
roll_back_logs s n flags x (AtWork None) = tt
roll_back_logs s n flags x (AtWork (Some code)) = tt
roll_back_logs s n flags x InDoubt = xid_eq_itself x
roll_back_logs s n flags x (Completed way) = tt

row_logs : (s : State) (n : ℕ) (request : Request) → Logs (IsAsked (Asked (event.Call n request))) (row s n request)
row_logs s n (Open flags info) = tt
row_logs s n (Close flags) = tt
row_logs s n (Start flags x) = tt
row_logs s n (End flags x) = tt
row_logs s n (Prepare flags x) = prepare_logs s n flags x
row_logs s n (Commit flags x) =
    let Q = IsAsked (Asked (event.Call n (Commit flags x))) in
    cond_logs Q (has flags TMONEPHASE) (commit_one_phase_turn s x) (commit_two_phase_turn s x)
    (one_phase_logs s (Asked (event.Call n (Commit flags x))) x)
    (unless_logs Q (two_phase_refusal (known_as s x)) s _
    (unless_logs Q (heuristic_refusal (known_as s x)) s (logs s (logged.Completed x direction.Commit) XA_RETRY s) (xid_eq_itself x)))
row_logs s n (Rollback flags x) =
    let Q = IsAsked (Asked (event.Call n (Rollback flags x))) in
    unless_logs Q (rollback_refusal (known_as s x) (is_associated s x)) s _
    (unless_logs Q (heuristic_refusal (known_as s x)) s (roll_back_turn s x (known_as s x)) (roll_back_logs s n flags x (known_as s x)))
row_logs s n (Forget flags x) =
    unless_logs (IsAsked (Asked (event.Call n (Forget flags x)))) (forget_refusal (known_as s x)) s
    (logs s (logged.Forgotten x) XAER_RMERR s) (xid_eq_itself x)
row_logs s n (Recover flags count) = tt
row_logs s n (Get key) = tt
row_logs s n (Put key value) = tt
row_logs s n (Delete key) = tt
row_logs s n (Decide way x) =
    unless_logs (IsAsked (Asked (event.Call n (Decide way x)))) (decide_refusal (known_as s x)) s (logs s (logged.Decided x way) XAER_RMERR s) tt
row_logs s n (Doom x) = tt
row_logs s n Restart = tt
row_logs s n (Timeout seconds) = tt
row_logs s n (Tick moment) = tt
row_logs s n Trim =
    unless_logs (IsAsked (Asked (event.Call n Trim))) (trim_refusal s) s
    (Checkpoints (logged.Opened (s.logged_boot + 1)) (trim_became s (s.logged_boot + 1))) tt
row_logs s n (Branches count after) = tt

pub event_logs : (s : State) (e : Event) → Logs (IsAsked (Asked e)) (respond s e)
event_logs s event.Connect = tt
event_logs s (event.Hangup n) = tt
event_logs s (event.Call n request) =
    unless_logs (IsAsked (Asked (event.Call n request))) (early_refusal (context_of s n) request) s (row s n request)
    (row_logs s n request)

pub standing_logs : (s : State) (e : Event) → Logs (IsAsked (Asked e)) (asked s.standing (respond s e))
standing_logs s e = asked_logs (IsAsked (Asked e)) s.standing (respond s e) (event_logs s e)

pub turn_logs : (s : State) (h : Happening) → Logs (IsAsked h) (turn s h)
turn_logs s (Asked e) =
    joins_with (Logs (IsAsked (Asked e))) s (further_record s e) (asked s.standing (respond s e)) (standing_logs s e) (λ a r found now. tt)
turn_logs s (Reopened name log_bytes) = tt

-- a record that ends what is known of an XID is logged where a completion of it is asked
pub asked_to_end : (xid : Triple) (h : Happening) (r : Record) → IsAsked h r → ends xid r ≡ true → is_request (is_completion xid) h ≡ true
asked_to_end xid h (logged.Opened boot) k e = absurd (cc e)
asked_to_end xid h (logged.Prepared x t ws) k e = absurd (cc e)
asked_to_end xid h (logged.Committed x t ws) k e = absurd (cc e)
asked_to_end xid h (logged.Completed x way) k e = subst (λ (y : Triple). is_request (is_completion y) h ≡ true) (xid_same x xid e) k
asked_to_end xid h (logged.Decided x way) k e = absurd (cc e)
asked_to_end xid h (logged.Forgotten x) k e = subst (λ (y : Triple). is_request (is_completion y) h ≡ true) (xid_same x xid e) k
asked_to_end xid h (logged.Base t ws) k e = absurd (cc e)
asked_to_end xid h (logged.Held x t ws) k e = absurd (cc e)
asked_to_end xid h (logged.Known x way) k e = absurd (cc e)

-- and one that prepares it where a prepare of it is
abbrev pub prepares_as : Triple → Record → Bool
prepares_as xid (logged.Prepared x t ws) = xid_eq x xid
prepares_as xid _ = false

pub asked_to_prepare : (xid : Triple) (h : Happening) (r : Record) → IsAsked h r → prepares_as xid r ≡ true → is_request (is_prepare xid) h ≡ true
asked_to_prepare xid h (logged.Prepared x t ws) k e = subst (λ (y : Triple). is_request (is_prepare y) h ≡ true) (xid_same x xid e) k
asked_to_prepare xid h r k e = absurd (cc e)
