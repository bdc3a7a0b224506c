-- What was completed is known to nothing that a crash may leave, until it is prepared again.
use Rattle.std.proofs.Common.{◌≡◌, ℕ, Bool, true, false, not, ◌&&◌, ◌||◌, List, ◌∷◌, ◌++◌, None, refl, ap, sym, subst}
use Rattle.std.specs.List.{AllByRecursion}
use Rattle.xa_codes.specs.Flags.{has}
use Rattle.xa_codes.specs.declared.codes.TheConstants.{XAER_RMERR}
use Rattle.xa_codes.specs.declared.direction.Direction.TheVariants as direction
use Rattle.xa_codes.specs.declared.flags.TheConstants.{TMONEPHASE}
use Rattle.xa_codes.specs.declared.write.Write.{Write}
use Rattle.xa_frame.specs.declared.request.Request.TheVariants.{Commit, Rollback, Forget}
use Rattle.xa_record.specs.declared.record.Record.TheVariants as logged
use Rattle.xa_xid.specs.Triple.{Triple}
use Rattle.xa_xid.proofs.Same.{xid_same}
use Rattle.xa_model.specs.declared.event.Event.TheVariants as event
use Rattle.xa_model.specs.State.{State, Up, Known, Unknown, AtWork, InDoubt, Completed, known_as}
use Rattle.xa_model.specs.Answer.{Answer, ok}
use Rattle.xa_model.specs.Associations.{is_unknown, is_lasting, mark_in, timestamp_in}
use Rattle.xa_model.specs.Phases.{rolled_back, committed, unprepared_refusal, two_phase_refusal, rollback_refusal, heuristic_refusal, is_associated}
use Rattle.xa_model.specs.Durable.{durable, is_prepared, is_decided}
use Rattle.xa_model.specs.Fold.{is_empty}
use Rattle.xa_model.specs.Turn.{Happening, Asked, Reopened, Now}
use Rattle.xa_model.specs.Step.{turn}
use Rattle.xa_model.specs.Logging.{logs, has_room, log_full, writes_in}
use Rattle.xa_model.specs.Completions.{commit_one_phase_turn, commit_two_phase_turn, commit_written, roll_back_turn, rollback_turn, forget_refusal, forget_turn}
use Rattle.xa_model.specs.Events.{IsHappening, HaveHappened}
use Rattle.xa_model.specs.History.{Entry, Leads}
use Rattle.xa_model.specs.Invariants.Loggable.{IsRecoverable}
use Rattle.xa_model.specs.Invariants.MayLog.{IsIdle}
use Rattle.xa_model.specs.ListedLaw.{HasCompleted, CallsPrepare, is_completion, is_request}
use Rattle.xa_model.specs.UnlistedLaw.{AlwaysUnlisted, UnlistedSinceBoot}
use Rattle.xa_model.proofs.Inserts.{all_front, all_back}
use Rattle.xa_model.proofs.Recoveries.{keeps_recoverable, always_recoverable, recoverable_durable}
use Rattle.xa_model.proofs.Replies.{AllOf, taken_all}
use Rattle.xa_model.proofs.Rows.{passed}
use Rattle.xa_model.proofs.LoggedTurns.{idle_of, two_phase_doubt, forget_completed, allowed_idle}
use Rattle.xa_model.proofs.Behind.{doubt_prepared, done_decided, work_unknown}
use Rattle.xa_model.proofs.Answering.{Settles, IsSettled, parts_of, one_phase_bad, two_phase_bad, rollback_bad, heuristic_bad, forget_bad, unless_settles, marked_settles, cond_settles, call_settles}
use Rattle.xa_model.proofs.Fated.{IsFated, alone, now_has}
use Rattle.xa_model.proofs.Listing.{is_held, completed_gone, forgotten_gone, listed_held}
use Rattle.xa_model.proofs.StillListed.{Frees, always_free}

-- a branch at work isn't known to a crash

neither_held : (a b : Bool) → (not a && not b) ≡ true → (a || b) ≡ false
neither_held true b e = absurd (cc e)
neither_held false true e = absurd (cc e)
neither_held false false e = refl

module _ (s : State) (xid : Triple) (h : IsRecoverable s) where
  idle_free : (t : ℕ) (ws : List Write) → IsIdle s xid t ws → Frees xid (durable s)
  idle_free t ws idle = neither_held (is_prepared xid (durable s).prepared) (is_decided xid (durable s).decided) (work_unknown s xid h.sound idle.working)

  -- nor is one that is completed, or forgotten

  module _ (up : s.standing ≡ Up) where
    idle_fated : (t : ℕ) (ws : List Write) → IsIdle s xid t ws → IsFated (Frees xid) s
    idle_fated t ws idle = alone (Frees xid) s (idle_free t ws idle) (h.settled up)

    one_phase_settles : Settles (Frees xid) s (commit_one_phase_turn s xid)
    one_phase_settles =
        let P = Frees xid in
        let t = timestamp_in s xid in
        let ws = writes_in s xid in
        let r = logged.Committed xid t ws in
        unless_settles P s (unprepared_refusal (known_as s xid) (is_associated s xid)) _
        (λ reply e. one_phase_bad (known_as s xid) (is_associated s xid) reply e)
        (λ allowed. let idle = allowed_idle s xid allowed in
        marked_settles P s (mark_in (known_as s xid)) (rolled_back s xid) _ (λ code e done. idle_fated t ws idle)
        (cond_settles P s (is_empty ws) (Now (ok (committed s xid))) (commit_written s xid) (λ done. idle_fated t ws idle)
        (cond_settles P s (has_room s r 0) (logs s r XAER_RMERR (rolled_back s xid)) (Now (log_full s xid))
        (idle_free t ws idle, (λ done. cc done)) (λ done. idle_fated t ws idle))))

    two_phase_settles : Settles (Frees xid) s (commit_two_phase_turn s xid)
    two_phase_settles =
        let P = Frees xid in
        unless_settles P s (two_phase_refusal (known_as s xid)) _ (two_phase_bad (known_as s xid))
        (λ allowed. unless_settles P s (heuristic_refusal (known_as s xid)) _ (heuristic_bad (known_as s xid))
        (λ none. (
          completed_gone xid direction.Commit (durable s) (recoverable_durable s h)
              (doubt_prepared s xid h.sound (two_phase_doubt (known_as s xid) allowed none)),
          (λ done. cc done),
        )))

    roll_back_settles : (k : Known) → known_as s xid ≡ k → is_unknown k ≡ false → is_associated s xid ≡ false → heuristic_refusal k ≡ None
        → Settles (Frees xid) s (roll_back_turn s xid k)
    roll_back_settles Unknown e known free none = absurd (cc known)
    roll_back_settles (AtWork mark) e known free none =
        let idle = idle_of s xid (ap is_unknown e) free (ap is_lasting e) in
        marked_settles (Frees xid) s mark (rolled_back s xid) _ (λ code is done. idle_fated (timestamp_in s xid) (writes_in s xid) idle)
        (λ done. idle_fated (timestamp_in s xid) (writes_in s xid) idle)
    roll_back_settles InDoubt e known free none = (
      completed_gone xid direction.Rollback (durable s) (recoverable_durable s h) (doubt_prepared s xid h.sound e),
      (λ done. cc done),
    )
    roll_back_settles (Completed way) e known free none = absurd (cc none)

    rollback_settles : Settles (Frees xid) s (rollback_turn s xid)
    rollback_settles =
        let P = Frees xid in
        unless_settles P s (rollback_refusal (known_as s xid) (is_associated s xid)) _ (rollback_bad (known_as s xid) (is_associated s xid))
        (λ allowed. let first = passed _ _ _ allowed in let second = passed _ _ _ first.1 in
        unless_settles P s (heuristic_refusal (known_as s xid)) _ (heuristic_bad (known_as s xid))
        (λ none. roll_back_settles (known_as s xid) refl first.0 second.0 none))

    forget_settles : Settles (Frees xid) s (forget_turn s xid)
    forget_settles =
        unless_settles (Frees xid) s (forget_refusal (known_as s xid)) _ (forget_bad (known_as s xid))
        (λ allowed. (
          forgotten_gone xid (durable s) (recoverable_durable s h) (done_decided s xid (forget_completed (known_as s xid) allowed)),
          (λ done. cc done),
        ))

completes : (xid : Triple) (s : State) (happening : Happening) → IsHappening happening → IsRecoverable s
    → is_request (is_completion xid) happening ≡ true → AllOf (IsSettled (Frees xid)) (turn s happening)
completes xid s (Asked event.Connect) happened h is = absurd (cc is)
completes xid s (Asked (event.Hangup n)) happened h is = absurd (cc is)
completes xid s (Reopened name log_bytes) happened h is = absurd (cc is)
completes xid s (Asked (event.Call n (Commit flags x))) happened h is =
    call_settles (Frees xid) s n (Commit flags x) happened refl refl h
    (λ up. let same : x ≡ xid = xid_same x xid is in
    cond_settles (Frees xid) s (has flags TMONEPHASE) (commit_one_phase_turn s x) (commit_two_phase_turn s x)
    (subst (λ (y : Triple). Settles (Frees xid) s (commit_one_phase_turn s y)) (sym same) (one_phase_settles s xid h up))
    (subst (λ (y : Triple). Settles (Frees xid) s (commit_two_phase_turn s y)) (sym same) (two_phase_settles s xid h up)))
completes xid s (Asked (event.Call n (Rollback flags x))) happened h is =
    call_settles (Frees xid) s n (Rollback flags x) happened refl refl h
    (λ up. subst (λ (y : Triple). Settles (Frees xid) s (rollback_turn s y)) (sym (xid_same x xid is)) (rollback_settles s xid h up))
completes xid s (Asked (event.Call n (Forget flags x))) happened h is =
    call_settles (Frees xid) s n (Forget flags x) happened refl refl h
    (λ up. subst (λ (y : Triple). Settles (Frees xid) s (forget_turn s y)) (sym (xid_same x xid is)) (forget_settles s xid h up))
completes xid s (Asked (event.Call n request)) happened h is = absurd (cc is)

-- so no crash leaves it known, until it is prepared again
pub free_since : (first last : State) (before later : List Entry) (completion : Entry) (xid : Triple) → IsRecoverable first
    → HaveHappened (before ++ completion ∷ later) → Leads first (before ++ completion ∷ later) last → HasCompleted xid completion
    → AllByRecursion (λ e. CallsPrepare xid e → ⊥) later
    → IsRecoverable last × IsFated (Frees xid) last
free_since first last before later completion xid h happened leads is none =
    let parts = parts_of first last before (completion ∷ later) leads in
    let early = all_front (λ e. IsHappening e.happening) before (completion ∷ later) happened in
    let late = all_back (λ e. IsHappening e.happening) before (completion ∷ later) happened in
    let mid : IsRecoverable parts.mid = always_recoverable first parts.mid before early h parts.before in
    let a : Answer = record { reply = completion.reply; after = parts.after.0 } in
    let next : IsRecoverable parts.after.0 = keeps_recoverable parts.mid completion.happening completion.outcome a late.0 mid parts.after.1 in
    let gone : IsSettled (Frees xid) a
    = taken_all (IsSettled (Frees xid)) (turn parts.mid completion.happening) completion.outcome a
    (completes xid parts.mid completion.happening late.0 mid is.0) parts.after.1 in
    (always_recoverable parts.after.0 last later late.1 next parts.after.2, always_free xid parts.after.0 last later late.1 next parts.after.2 none (gone is.1 next))

pub always_unlisted : AlwaysUnlisted
always_unlisted first h last before later completion xid happened leads is none listed =
    let free = free_since first last before later completion xid h happened leads is none in
    let no : is_held xid (durable last) ≡ false = now_has (Frees xid) last free.1 in
    absurd (cc (listed, listed_held xid (durable last), no))

pub unlisted_since_boot : UnlistedSinceBoot
unlisted_since_boot d next first h = always_unlisted first h.recoverable
