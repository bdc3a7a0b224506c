-- A prepare that is answered XA_OK makes its XID known to all that a crash may leave.
use Rattle.std.proofs.Common.{◌≡◌, ℤ, true, false, List, ◌∷◌, ◌++◌, Option, Some, None, refl, sym, ◌∙◌, ap}
use Rattle.std.specs.List.{AllByRecursion}
use Rattle.xa_codes.specs.declared.codes.TheConstants.{XA_OK, XAER_RMERR, XA_RDONLY}
use Rattle.xa_frame.specs.declared.request.Request.TheVariants.{Prepare}
use Rattle.xa_record.specs.declared.record.Record.TheVariants as logged
use Rattle.xa_xid.specs.Triple.{Triple, xid_eq}
use Rattle.xa_model.specs.declared.event.Event.TheVariants as event
use Rattle.xa_model.specs.State.{State, Branch, Phase, Working, Prepared, Committed, is_known_as, known_of, known_by, known_among, known_as, decided_of, mark_of, is_working}
use Rattle.xa_model.specs.Answer.{Answer, plain, answer, first}
use Rattle.xa_model.specs.Associations.{mark_in, timestamp_in}
use Rattle.xa_model.specs.Phases.{rolled_back, committed, unprepared_refusal, is_associated}
use Rattle.xa_model.specs.Durable.{durable}
use Rattle.xa_model.specs.Fold.{is_empty}
use Rattle.xa_model.specs.Turn.{Happening, Asked, Reopened, Now}
use Rattle.xa_model.specs.Step.{turn}
use Rattle.xa_model.specs.Logging.{logs, has_room, log_full, writes_in}
use Rattle.xa_model.specs.Completions.{prepare_turn, prepare_written}
use Rattle.xa_model.specs.Data.{having_done}
use Rattle.xa_model.specs.Events.{IsHappening, HaveHappened}
use Rattle.xa_model.specs.History.{Entry, Leads}
use Rattle.xa_model.specs.Invariants.Loggable.{IsRecoverable}
use Rattle.xa_model.specs.ListedLaw.{HaveRealMarks, HasPrepared, AsksCompletion, ListsUntilAsked, ListedUntilAsked, ListedSinceBoot, is_prepare, is_request}
use Rattle.xa_model.proofs.Inserts.{all_front, all_back, all_imply}
use Rattle.xa_model.proofs.Lists.{found_all, change_all}
use Rattle.xa_model.proofs.Recoveries.{keeps_recoverable, always_recoverable}
use Rattle.xa_model.proofs.Replies.{AllOf, taken_all}
use Rattle.xa_model.proofs.Answering.{Settles, IsSettled, parts_of, one_phase_bad, unless_settles, marked_settles, cond_settles, call_settles}
use Rattle.xa_model.proofs.Fated.{IsFated, now_has}
use Rattle.xa_model.proofs.Listing.{prepared_held, listed_held}
use Rattle.xa_model.proofs.Moves.{Core, Moves, remains, restarts, trims, begins, gets, walks, puts}
use Rattle.xa_model.proofs.Pins.{remain_all}
use Rattle.xa_model.proofs.MovingTurns.{always}
use Rattle.xa_model.proofs.StillListed.{Holds, always_kept}

-- marks stay codes of refusals

abbrev IsRefusal : Branch → Type 0
IsRefusal b = mark_of b.phase ≡ Some XA_OK → ⊥

abbrev pub Refuse : Core → Type 0
Refuse c = AllByRecursion IsRefusal c.branches

pub moves_refuse : {c d : Core} → Moves c d → Refuse c → Refuse d
moves_refuse (remains bs r) h = remain_all IsRefusal IsRefusal (λ b c g k e. k (g.mark e)) r h
moves_refuse (restarts boot bs less r idle) h = remain_all IsRefusal IsRefusal (λ b c g k e. k (g.mark e)) r h
moves_refuse (trims boot less) h = h
moves_refuse (begins xid start limit) h = ((λ e. cc e), h)
moves_refuse (gets key xid b found free) h = change_all IsRefusal (is_known_as xid) (having_done _) (λ x k. k) _ h
moves_refuse (walks range records stamps xid b found sees) h = change_all IsRefusal (is_known_as xid) (having_done _) (λ x k. k) _ h
moves_refuse (puts key value xid b found works on_time) h = change_all IsRefusal (is_known_as xid) (having_done _) (λ x k. k) _ h

marked_as : (p : Phase) → mark_in (known_by p) ≡ mark_of p
marked_as (Working xid work) = refl
marked_as (Prepared xid) = refl
marked_as Committed = refl

mark_refuses : (s : State) (xid : Triple) (o : Option Branch) (code : ℤ) → known_of s.branches xid ≡ o → HaveRealMarks s
    → mark_in (known_among o (decided_of s.decided xid)) ≡ Some code → code ≡ XA_OK → ⊥
mark_refuses s xid None code e h is ok = undecided (decided_of s.decided xid) is
  where
    undecided : (d : Option _) → mark_in (known_among None d) ≡ Some code → ⊥
    undecided None e = cc e
    undecided (Some way) e = cc e
mark_refuses s xid (Some b) code e h is ok =
    found_all IsRefusal (is_known_as xid) b s.branches h e (sym (marked_as b.phase) ∙ is ∙ ap (λ (x : ℤ). Some x) ok)

prepares : (xid : Triple) (s : State) (x : Triple) → HaveRealMarks s → xid_eq x xid ≡ true → Settles (Holds xid) s (prepare_turn s x)
prepares xid s x h same =
    let P = Holds xid in
    let r = logged.Prepared x (timestamp_in s x) (writes_in s x) in
    unless_settles P s (unprepared_refusal (known_as s x) (is_associated s x)) _
    (λ reply e. one_phase_bad (known_as s x) (is_associated s x) reply e)
    (λ allowed. marked_settles P s (mark_in (known_as s x)) (rolled_back s x) _
    (λ code e ok. absurd (mark_refuses s x (known_of s.branches x) code refl h e ok))
    (cond_settles P s (is_empty (writes_in s x)) (Now (answer (plain XA_RDONLY) (committed s x))) (prepare_written s x) (λ ok. absurd (cc ok))
    (cond_settles P s (has_room s r 1) (logs s r XAER_RMERR s) (Now (log_full s x))
    (prepared_held xid x (durable s) _ same, (λ ok. cc ok)) (λ ok. absurd (cc ok)))))

prepared_knows : (xid : Triple) (s : State) (happening : Happening) → IsHappening happening → IsRecoverable s → HaveRealMarks s
    → is_request (is_prepare xid) happening ≡ true → AllOf (IsSettled (Holds xid)) (turn s happening)
prepared_knows xid s (Asked event.Connect) happened h k is = absurd (cc is)
prepared_knows xid s (Asked (event.Hangup n)) happened h k is = absurd (cc is)
prepared_knows xid s (Reopened name log_bytes) happened h k is = absurd (cc is)
prepared_knows xid s (Asked (event.Call n (Prepare flags x))) happened h k is =
    call_settles (Holds xid) s n (Prepare flags x) happened refl refl h (λ up. prepares xid s x k is)
prepared_knows xid s (Asked (event.Call n request)) happened h k is = absurd (cc is)

-- after it every crash leaves it known, until its completion is asked for
pub kept_since : (first last : State) (before later : List Entry) (prepare : Entry) (xid : Triple) → IsRecoverable first → HaveRealMarks first
    → HaveHappened (before ++ prepare ∷ later) → Leads first (before ++ prepare ∷ later) last → HasPrepared xid prepare
    → AllByRecursion (λ e. AsksCompletion xid e → ⊥) later
    → IsRecoverable last × IsFated (Holds xid) last
kept_since first last before later prepare xid h refusals happened leads is none =
    let parts = parts_of first last before (prepare ∷ later) leads in
    let early = all_front (λ e. IsHappening e.happening) before (prepare ∷ later) happened in
    let late = all_back (λ e. IsHappening e.happening) before (prepare ∷ later) happened in
    let mid : IsRecoverable parts.mid = always_recoverable first parts.mid before early h parts.before in
    let marks : HaveRealMarks parts.mid = always Refuse (λ s d r m k. moves_refuse m k) first parts.mid before early h parts.before refusals in
    let a : Answer = record { reply = prepare.reply; after = parts.after.0 } in
    let next : IsRecoverable parts.after.0 = keeps_recoverable parts.mid prepare.happening prepare.outcome a late.0 mid parts.after.1 in
    let knows : IsSettled (Holds xid) a
    = taken_all (IsSettled (Holds xid)) (turn parts.mid prepare.happening) prepare.outcome a
    (prepared_knows xid parts.mid prepare.happening late.0 mid marks is.0) parts.after.1 in
    (always_recoverable parts.after.0 last later late.1 next parts.after.2, always_kept xid parts.after.0 last later late.1 next parts.after.2 none (knows is.1 next))

pub listed_until_asked : ListedUntilAsked
listed_until_asked first h refusals last before later prepare xid happened leads is none =
    let kept = kept_since first last before later prepare xid h refusals happened leads is none in
    listed_held xid (durable last) ∙ now_has (Holds xid) last kept.1

-- after a restart or an opening no branch is at work, so that none is marked

idle_refuses : (p : Phase) → is_working p ≡ false → mark_of p ≡ Some XA_OK → ⊥
idle_refuses (Working xid work) idle e = cc idle
idle_refuses (Prepared xid) idle e = cc e
idle_refuses Committed idle e = cc e

pub idle_refusals : (first : State) → AllByRecursion (λ b. is_working b.phase ≡ false) first.branches → HaveRealMarks first
idle_refusals first none = all_imply (λ (b : Branch). is_working b.phase ≡ false) IsRefusal (λ b idle. idle_refuses b.phase idle) first.branches none

pub idle_lists : (first : State) → IsRecoverable first → AllByRecursion (λ b. is_working b.phase ≡ false) first.branches → ListsUntilAsked first
idle_lists first h none = listed_until_asked first h (idle_refusals first none)

pub listed_since_boot : ListedSinceBoot
listed_since_boot d next first h = idle_lists first h.recoverable h.idle
