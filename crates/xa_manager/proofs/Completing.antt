-- The rows that complete, decide and forget what lasts, by what the tables said of it.
use Rattle.std.proofs.Common.{◌≡◌, ◌≢◌, ℕ, ℤ, pos, ◌+◌, ◌≤◌, Bool, true, false, cond, List, [], ◌∷◌, length, Option, Some, None, refl, ap, sym, ◌∙◌, subst, arith}
use Rattle.std.specs.Prelude.{find, unwrap_or}
use Rattle.std.proofs.lemmas.Bool.Decides.{nat_tests}
use Rattle.xa_codes.specs.declared.codes.TheConstants.{XAER_NOTA}
use Rattle.xa_codes.specs.declared.direction.Direction.{Direction}
use Rattle.xa_frame.specs.declared.reply.Reply.{Reply}
use Rattle.xa_xid.specs.Triple.{Triple}
use Rattle.xa_record.specs.declared.record.Record.{Record}
use Rattle.xa_model.specs.declared.outcome.Appending.{Appending}
use Rattle.xa_model.specs.declared.outcome.Appending.TheVariants.{Kept as WasKept}
use Rattle.xa_model.specs.State.{State, Branch, Decided, Phase, Working, Prepared, Committed, Up, Known, Unknown, AtWork, InDoubt, Completed, count, known_of, known_as, known_by, known_among, or_completed, decided_of, is_known_as}
use Rattle.xa_model.specs.Answer.{plain, answer}
use Rattle.xa_model.specs.Associations.{is_unknown, is_lasting, mark_in}
use Rattle.xa_model.specs.Phases.{rolled_back, two_phase_refusal, rollback_refusal, heuristic_refusal, is_associated}
use Rattle.xa_model.specs.Completions.{is_completed, decide_refusal, forget_refusal, roll_back_turn}
use Rattle.xa_model.specs.Logging.{append_became, applied, log_room, is_in_doubt, prepared_count}
use Rattle.xa_model.specs.Invariants.Loggable.{IsRecoverable}
use Rattle.xa_model.specs.Invariants.Room.{IsRoomy}
use Rattle.xa_model.specs.Turn.{Turn, Now, unless_now}
use Rattle.xa_model.proofs.Rows.{passed}
use Rattle.xa_manager.specs.View.{View}
use Rattle.xa_manager.specs.Stands.{StandsFor, TablesStandFor}
use Rattle.xa_manager.specs.Turns.{up_after}
use Rattle.xa_manager.proofs.Taking.{by_answer, lost_stands, refused_is, lost_is}
use Rattle.xa_manager.proofs.OnePhase.{refused_turn, passed_turn}

-- what is refused

pub second_refused : (s : State) (o p : Option Reply) (t : Turn) (reply : Reply) → None ≡ o → Some reply ≡ p → unless_now o s (unless_now p s t) ≡ Now (answer reply s)
second_refused s o p t reply e f = passed_turn o s (unless_now p s t) e ∙ refused_turn p s t reply f

pub passes_both : (s : State) (o p : Option Reply) (t : Turn) → None ≡ o → None ≡ p → unless_now o s (unless_now p s t) ≡ t
passes_both s o p t e f = passed_turn o s (unless_now p s t) e ∙ passed_turn p s t f

-- what isn't

two_by : (k : Known) → None ≡ two_phase_refusal k → None ≡ heuristic_refusal k → k ≡ InDoubt
two_by Unknown e f = absurd (cc e)
two_by (AtWork mark) e f = absurd (cc e)
two_by InDoubt e f = refl
two_by (Completed direction) e f = absurd (cc f)

pub two_doubtful : (s : State) (xid : Triple) → None ≡ two_phase_refusal (known_as s xid) → None ≡ heuristic_refusal (known_as s xid) → known_as s xid ≡ InDoubt
two_doubtful s xid e f = two_by (known_as s xid) e f

settled_by : (k : Known) → is_lasting k ≡ true → None ≡ heuristic_refusal k → k ≡ InDoubt
settled_by Unknown e f = absurd (cc e)
settled_by (AtWork mark) e f = absurd (cc e)
settled_by InDoubt e f = refl
settled_by (Completed direction) e f = absurd (cc f)

pub settled_doubtful : (s : State) (xid : Triple) → is_lasting (known_as s xid) ≡ true → None ≡ heuristic_refusal (known_as s xid) → known_as s xid ≡ InDoubt
settled_doubtful s xid e f = settled_by (known_as s xid) e f

decide_by : (k : Known) → None ≡ decide_refusal k → k ≡ InDoubt
decide_by Unknown e = absurd (cc e)
decide_by (AtWork mark) e = absurd (cc e)
decide_by InDoubt e = refl
decide_by (Completed direction) e = absurd (cc e)

pub decided_doubtful : (s : State) (xid : Triple) → None ≡ decide_refusal (known_as s xid) → known_as s xid ≡ InDoubt
decided_doubtful s xid e = decide_by (known_as s xid) e

forget_by : (k : Known) → None ≡ forget_refusal k → is_completed k ≡ true
forget_by Unknown e = absurd (cc e)
forget_by (AtWork mark) e = absurd (cc e)
forget_by InDoubt e = absurd (cc e)
forget_by (Completed direction) e = refl

pub forgets_completed : (s : State) (xid : Triple) → None ≡ forget_refusal (known_as s xid) → is_completed (known_as s xid) ≡ true
forgets_completed s xid e = forget_by (known_as s xid) e

pub doubt_rolls : (s : State) (xid : Triple) (k : Known) → k ≡ InDoubt → roll_back_turn s xid k ≡ roll_back_turn s xid InDoubt
doubt_rolls s xid k e = ap (roll_back_turn s xid) e

-- a branch at work is rolled back at once

rolls_by : (s : State) (xid : Triple) (k : Known) (mark : Option ℤ) → is_unknown k ≡ false → is_lasting k ≡ false → mark_in k ≡ mark → roll_back_turn s xid k ≡ Now (answer (plain (unwrap_or mark (pos 0))) (rolled_back s xid))
rolls_by s xid Unknown mark e f g = absurd (cc e)
rolls_by s xid (AtWork None) mark e f g = rw (← g) refl
rolls_by s xid (AtWork (Some code)) mark e f g = rw (← g) refl
rolls_by s xid InDoubt mark e f g = absurd (cc f)
rolls_by s xid (Completed direction) mark e f g = absurd (cc f)

pub rolled_known : (s : State) (xid : Triple) → None ≡ rollback_refusal (known_as s xid) (is_associated s xid) → is_unknown (known_as s xid) ≡ false
rolled_known s xid free = (passed (is_unknown (known_as s xid)) (plain XAER_NOTA) _ (sym free)).0

pub rolled_at_once : (s : State) (xid : Triple) (o : Option Reply) (mark : Option ℤ) → None ≡ o → None ≡ heuristic_refusal (known_as s xid) → is_unknown (known_as s xid) ≡ false → is_lasting (known_as s xid) ≡ false
    → mark_in (known_as s xid) ≡ mark
    → unless_now o s (unless_now (heuristic_refusal (known_as s xid)) s (roll_back_turn s xid (known_as s xid))) ≡ Now (answer (plain (unwrap_or mark (pos 0))) (rolled_back s xid))
rolled_at_once s xid o mark e f known unsettled is =
    passes_both s o (heuristic_refusal (known_as s xid)) (roll_back_turn s xid (known_as s xid)) e f ∙ rolls_by s xid (known_as s xid) mark known unsettled is

-- the log has room for what completes a prepared branch, and for what forgets

counts_by : (q : Branch → Bool) (x b : Branch) (n : ℕ) (rest : Option Branch) (c : Bool) → cond c (Some x) rest ≡ Some b → q b ≡ true → (rest ≡ Some b → 1 ≤ n) → 1 ≤ cond (q x) 1 0 + n
counts_by q x b n rest true h e more = let same : x ≡ b = cc h in let here : q x ≡ true = subst (λ (y : Branch). q y ≡ true) (sym same) e in rw here (omega arith)
counts_by q x b n rest false h e more = let some = more h in omega arith

found_counts : (p q : Branch → Bool) (b : Branch) (bs : List Branch) → find p bs ≡ Some b → q b ≡ true → 1 ≤ count q bs
found_counts p q b [] h e = absurd (cc h)
found_counts p q b (x ∷ bs) h e = counts_by q x b (count q bs) (find p bs) (p x) h e (λ more. found_counts p q b bs more e)

doubtful_phase : (p : Phase) → known_by p ≡ InDoubt → is_in_doubt p ≡ true
doubtful_phase (Working xid work) e = absurd (cc e)
doubtful_phase (Prepared xid) e = refl
doubtful_phase Committed e = absurd (cc e)

never_doubtful : (o : Option Direction) → or_completed o ≡ InDoubt → ⊥
never_doubtful None h = cc h
never_doubtful (Some direction) h = cc h

counted_by : (s : State) (xid : Triple) (o : Option Branch) → known_of s.branches xid ≡ o → known_among o (decided_of s.decided xid) ≡ InDoubt → 1 ≤ prepared_count s
counted_by s xid None e h = absurd (never_doubtful (decided_of s.decided xid) h)
counted_by s xid (Some b) e h = found_counts (is_known_as xid) (λ b. is_in_doubt b.phase) b s.branches e (doubtful_phase b.phase h)

some_prepared : (s : State) (xid : Triple) → known_as s xid ≡ InDoubt → 1 ≤ prepared_count s
some_prepared s xid h = counted_by s xid (known_of s.branches xid) refl h

room_left : (bytes end prepared decided n : ℕ) → log_room bytes end prepared decided ≡ true → 1 ≤ prepared → n ≤ 136 → end + 40 + n ≤ bytes
room_left bytes end prepared decided n e some small = grind (arith, nat_tests, e, some, small)

room_forgets : (bytes end prepared decided n : ℕ) → log_room bytes end prepared decided ≡ true → 1 ≤ decided → n ≤ 135 → end + 40 + n ≤ bytes
room_forgets bytes end prepared decided n e some small = grind (arith, nat_tests, e, some, small)

pub doubtful_fits : (s : State) (xid : Triple) (n : ℕ) → s.standing ≡ Up → IsRoomy s → known_as s xid ≡ InDoubt → n ≤ 136 → s.end + 40 + n ≤ s.log_bytes
doubtful_fits s xid n up roomy doubt small = room_left s.log_bytes s.end (prepared_count s) (length s.decided) n (roomy (λ ended. absurd (cc (up, ended)))).room (some_prepared s xid doubt) small

completed_phase : (p : Phase) → is_completed (known_by p) ≡ true → ⊥
completed_phase (Working xid work) e = cc e
completed_phase (Prepared xid) e = cc e
completed_phase Committed e = cc e

some_found : (xid : Triple) (ds : List Decided) → is_completed (or_completed (decided_of ds xid)) ≡ true → 1 ≤ length ds
some_found xid [] h = absurd (cc h)
some_found xid (d ∷ ds) h = omega arith

decided_by_known : (s : State) (xid : Triple) (o : Option Branch) → is_completed (known_among o (decided_of s.decided xid)) ≡ true → 1 ≤ length s.decided
decided_by_known s xid None h = some_found xid s.decided h
decided_by_known s xid (Some b) h = absurd (completed_phase b.phase h)

pub forgotten_fits : (s : State) (xid : Triple) (n : ℕ) → s.standing ≡ Up → IsRoomy s → is_completed (known_as s xid) ≡ true → n ≤ 135 → s.end + 40 + n ≤ s.log_bytes
forgotten_fits s xid n up roomy done small =
    room_forgets s.log_bytes s.end (prepared_count s) (length s.decided) n (roomy (λ ended. absurd (cc (up, ended)))).room (decided_by_known s xid (known_of s.branches xid) done) small

-- A record without writes: but for one that is kept the tables stay.
pub takes_small : (m m' : View) (s : State) (r : Record) (code : ℤ) (a : Appending) → StandsFor m s → (a ≡ WasKept → IsRecoverable (applied r s) → StandsFor m' (applied r s)) → (a ≢ WasKept → m' ≡ m)
    → IsRecoverable (append_became s r code s a).after → TablesStandFor (up_after a) m' (append_became s r code s a).after
takes_small m m' s r code a st kept_ left =
    by_answer m' s r code s a kept_ (λ e recoverable. subst (λ (k : View). StandsFor k s) (sym (left (refused_is a e))) st)
    (λ e recoverable. let same = left (lost_is a e) in lost_stands m m' s r st (ap (λ (k : View). k.name) same) (ap (λ (k : View). k.log_bytes) same) (ap (λ (k : View). k.sessions) same) (ap (λ (k : View). k.branches.moment) same) recoverable)
