-- What a crash may leave at any moment, and through a history.
use Rattle.std.proofs.Common.{◌≡◌, inl, inr, ℕ, zero, suc, true, false, List, [], ◌∷◌, ◌++◌, Option, Some, None, refl, sym, ap, subst, arith}
use Rattle.std.specs.Prelude.{IfSome, IsSomeAnd, Contains, is_some, option_map, option_and_then}
use Rattle.std.specs.List.{AllByRecursion}
use Rattle.xa_frame.specs.declared.reply.Reply.{Reply}
use Rattle.xa_record.specs.declared.record.Record.{Record}
use Rattle.xa_model.specs.declared.outcome.Outcome.{Outcome}
use Rattle.xa_model.specs.declared.outcome.Outcome.TheVariants.{Quiet, Appended, Joined, Failed, Reread}
use Rattle.xa_model.specs.declared.outcome.Appending.TheVariants.{Kept, Lost}
use Rattle.xa_model.specs.State.{State}
use Rattle.xa_model.specs.Answer.{Answer}
use Rattle.xa_model.specs.Durable.{Durable, durable}
use Rattle.xa_model.specs.Turn.{Happening, Turn, Now, Rereads, Joins, Rereading, Stops, Opens, going_on, taken}
use Rattle.xa_model.specs.Step.{turn, step}
use Rattle.xa_model.specs.Events.{IsHappening, HaveHappened}
use Rattle.xa_model.specs.History.{Entry, joins}
use Rattle.xa_model.specs.Logging.{applied, lost, supposed}
use Rattle.xa_model.specs.Invariants.MayLog.{MayLog}
use Rattle.xa_model.specs.Invariants.Loggable.{IsRecoverable}
use Rattle.xa_model.specs.Restarting.{fates, fates_with, looked, with_first}
use Rattle.xa_model.specs.Crash.{with_append, appends, lost_of, IsFate, IsFateBehind, MayBeLeft, MayBeLostWith, MayBeLeftWith, MayBeLeftIn}
use Rattle.xa_model.specs.Laws.Crash.{LeavesBefore, LeavesBehind, LeavesAppended, LeavesGroup, LeavesNoMore, LeavesExactly, LeavesFound, FindsLeft, LeavesOneMore, FirstLeft, LastLeft, EarlierLeft, LaterLeft, LeftAmid}
use Rattle.xa_model.proofs.Recoveries.{keeps_recoverable}
use Rattle.xa_model.proofs.Asking.{IsAsked}
use Rattle.xa_model.proofs.Fated.{IsFated, Spares, all_contained, alone, step_fated}
use Rattle.xa_model.proofs.AppliedAll.{first_fate, if_imply, if_mapped}
use Rattle.xa_model.proofs.Crashes.{ReadingLeaves, TurnLeaves, turn_leaves, further_in, lost_fits, lost_fates_are}

-- what may be left

pub leaves_before : LeavesBefore
leaves_before s happening outcome d fate = inl fate

behind : (s : State) (happening : Happening) (outcome : Outcome) (a : Answer) (d : Durable) → step s happening outcome ≡ Some a → IsFate a.after d
    → IsFateBehind s happening outcome d
behind s happening outcome a d e fate = subst (λ (o : Option Answer). IsSomeAnd o (λ b. IsFate b.after d)) (sym e) fate

pub leaves_behind : LeavesBehind
leaves_behind s happening outcome a d e fate = inr (inl (behind s happening outcome a d e fate))

-- an append's turn has an answer where it is lost
lost_answer : (s : State) (happening : Happening) (outcome : Outcome) (kept : Answer) (x : Option Answer) → appends outcome ≡ true
    → joins outcome ≡ false → step s happening (with_append Kept outcome) ≡ Some kept → step s happening (lost_of outcome) ≡ x
    → (lost : Answer) × (step s happening (lost_of outcome) ≡ Some lost)
lost_answer s happening outcome kept (Some lost) adds alone e k = (lost, k)
lost_answer s happening outcome kept None adds alone e k =
    absurd (cc (ap is_some k, lost_kept outcome adds alone (lost_fits s happening (with_append Kept outcome) kept (still_alone outcome alone) e)))
  where
    still_alone : (o : Outcome) → joins o ≡ false → joins (with_append Kept o) ≡ false
    still_alone (Appended x) alone = refl
    still_alone (Joined x) alone = absurd (cc alone)
    still_alone (Reread there (Some x)) alone = refl
    still_alone (Reread there None) alone = refl
    still_alone Quiet alone = refl
    still_alone Failed alone = refl

    lost_kept : (o : Outcome) → appends o ≡ true → joins o ≡ false → is_some (step s happening (lost_of (with_append Kept o))) ≡ true
        → is_some (step s happening (lost_of o)) ≡ true
    lost_kept (Appended x) adds alone e = e
    lost_kept (Joined x) adds alone e = absurd (cc alone)
    lost_kept (Reread there (Some x)) adds alone e = e
    lost_kept Quiet adds alone e = absurd (cc adds)
    lost_kept Failed adds alone e = absurd (cc adds)
    lost_kept (Reread there None) adds alone e = absurd (cc adds)

pub leaves_appended : LeavesAppended
leaves_appended s happening outcome kept refused is h adds alone e g =
    let (lost, k) = lost_answer s happening outcome kept (step s happening (lost_of outcome)) adds alone e refl in
    let f = lost_fates_are s happening outcome kept refused lost is h adds e g k in (
      inr (inr (behind s happening (lost_of outcome) lost (durable kept.after) k (subst (λ xs. Contains xs (durable kept.after)) (sym f) (1, omega arith, refl)))),
      inr (inr (behind s happening (lost_of outcome) lost (durable refused.after) k (subst (λ xs. Contains xs (durable refused.after)) (sym f) (0, omega arith, refl)))),
    )

-- a group
pub leaves_group : LeavesGroup
leaves_group s entry later lost d e left =
    inl (inr (subst (λ (x : Option Answer). IsSomeAnd x (λ a. MayBeLostWith a.after later d)) (sym e) left))

reading_no_more : (s : State) (o : Option Rereading) (d : Durable) → IfSome o (ReadingLeaves s)
    → IsSomeAnd (option_and_then (going_on None) o) (λ a. IsFate a.after d) → IsFate s d
reading_no_more s None d f left = absurd left
reading_no_more s (Some (Stops a)) d f left = all_contained (IsFate s) (fates a.after) d f left
reading_no_more s (Some (Opens r after)) d f left = absurd left

taken_no_more : (s : State) (t : Turn) (o : Outcome) (d : Durable) → TurnLeaves s t → appends o ≡ false
    → IsSomeAnd (taken t o) (λ a. IsFate a.after d) → IsFate s d
taken_no_more s (Now a) Quiet d f none left = all_contained (IsFate s) (fates a.after) d f left
taken_no_more s (Rereads failed found) Failed d f none left = all_contained (IsFate s) (fates failed.after) d f.0 left
taken_no_more s (Rereads failed found) (Reread k None) d f none left = reading_no_more s (found k) d (f.1 k) left
taken_no_more s (Joins refused r lost) Quiet d f none left = all_contained (IsFate s) (fates refused.after) d f.0 left
taken_no_more s t (Joined x) d f none left = absurd (cc none)
taken_no_more s t (Appended x) d f none left = absurd (cc none)
taken_no_more s t (Reread there (Some x)) d f none left = absurd (cc none)
taken_no_more s t o d f none left = absurd left

not_lost : (o : Outcome) → appends o ≡ false → lost_of o ≡ o
not_lost Quiet none = refl
not_lost Failed none = refl
not_lost (Reread there None) none = refl
not_lost (Appended x) none = absurd (cc none)
not_lost (Joined x) none = absurd (cc none)
not_lost (Reread there (Some x)) none = absurd (cc none)

pub leaves_no_more : LeavesNoMore
leaves_no_more s happening outcome d is h none (inl fate) = fate
leaves_no_more s happening outcome d is h none (inr (inl left)) = taken_no_more s (turn s happening) outcome d (turn_leaves s happening is h) none left
leaves_no_more s happening outcome d is h none (inr (inr left)) =
    taken_no_more s (turn s happening) outcome d (turn_leaves s happening is h) none
    (subst (λ (o : Outcome). IsFateBehind s happening o d) (not_lost outcome none) left)

pub leaves_exactly : LeavesExactly
leaves_exactly s d none fate = all_contained (λ x. x ≡ durable s) (fates s) d (alone (λ x. x ≡ durable s) s refl none) fate

-- what a look may find

first_left_by : (k : ℕ) (rs : List Record) (s : State) → IfSome (with_first k rs s) (λ t. Contains (fates_with s rs) (durable t))
first_left_by zero rs s = first_fate s rs
first_left_by (suc k) [] s = tt
first_left_by (suc k) (r ∷ rs) s =
    if_imply (λ (t : State). Contains (fates_with (applied r s) rs) (durable t)) (λ t. Contains (fates_with s (r ∷ rs)) (durable t))
    (λ t here. further_in (durable s) (durable t) (fates_with (applied r s) rs) here) (with_first k rs (applied r s)) (first_left_by k rs (applied r s))

pub leaves_found : LeavesFound
leaves_found s k t e =
    subst (λ (o : Option State). IfSome o (λ u. IsFate s (durable u))) e
    (if_mapped (λ (u : State). IsFate s (durable u)) looked (with_first k s.open_records s) (first_left_by k s.open_records s))

left_first_by : (rs : List Record) (s : State) (d : Durable) → Contains (fates_with s rs) d
    → (k : ℕ) × (t : State) × (with_first k rs s ≡ Some t) × (durable t ≡ d)
left_first_by [] s d (zero, less, e) = (0, s, refl, e)
left_first_by [] s d (suc i, less, e) = absurd (omega (arith, less))
left_first_by (r ∷ rs) s d (zero, less, e) = (0, s, refl, e)
left_first_by (r ∷ rs) s d (suc i, less, e) =
    let (k, t, found, same) = left_first_by rs (applied r s) d (i, omega (arith, less), e) in (suc k, t, found, same)

pub finds_left : FindsLeft
finds_left s d fate =
    let (k, t, found, same) = left_first_by s.open_records s d fate in (k, looked t, ap (option_map looked) found, same)

further_fates : (s : State) (t : Turn) (a : Answer) → TurnLeaves s t → taken t (Joined Lost) ≡ Some a
    → fates a.after ≡ fates s ++ durable (supposed a.after) ∷ []
further_fates s (Joins refused r lost) a f e =
    let same : lost ≡ a = cc e in subst (λ (b : Answer). fates b.after ≡ fates s ++ durable (supposed b.after) ∷ []) same f.1
further_fates s t a f e = absurd (cc e)

pub leaves_one_more : LeavesOneMore
leaves_one_more s happening a is h e = further_fates s (turn s happening) a (turn_leaves s happening is h) e

from_some : (x : Option Answer) (Q : Answer → Type 0) (R : Type 0) → ((a : Answer) → x ≡ Some a → Q a → R) → IsSomeAnd x Q → R
from_some None Q R f left = absurd left
from_some (Some a) Q R f left = f a refl left

-- what goes on to hold of all that a crash may leave holds of what is left at any moment
module _ (P : Durable → Type 0) (E : Happening → Reply → Type 0) (boots : (d : Durable) (n : ℕ) → P d → P (record d { boot = n }))
    (spares : (happening : Happening) (s : State) (r : Record) → IsRecoverable s → MayLog s r → IsAsked happening r → Spares P (E happening) s r) where
  behind_fated : (s : State) (happening : Happening) (outcome : Outcome) (d : Durable) (x : Option Answer) → step s happening outcome ≡ x
      → IsHappening happening → IsRecoverable s
      → ((reply : Reply) → E happening reply → ⊥) → IsFated P s → IsSomeAnd x (λ a. IsFate a.after d) → P d
  behind_fated s happening outcome d None e is h other all left = absurd left
  behind_fated s happening outcome d (Some a) e is h other all left =
      all_contained P (fates a.after) d (step_fated P E boots spares s happening outcome a is h e (other a.reply) all) left

  left_fated : (s : State) (happening : Happening) (outcome : Outcome) (d : Durable) → IsHappening happening → IsRecoverable s
      → ((reply : Reply) → E happening reply → ⊥) → IsFated P s → MayBeLeft s happening outcome d → P d
  left_fated s happening outcome d is h other all (inl fate) = all_contained P (fates s) d all fate
  left_fated s happening outcome d is h other all (inr (inl left)) =
      behind_fated s happening outcome d (step s happening outcome) refl is h other all left
  left_fated s happening outcome d is h other all (inr (inr left)) =
      behind_fated s happening (lost_of outcome) d (step s happening (lost_of outcome)) refl is h other all left

  -- of a group that is lost
  lost_fated : (s : State) (run : List Entry) (d : Durable) → HaveHappened run → IsRecoverable s
      → AllByRecursion (λ e. (reply : Reply) → E e.happening reply → ⊥) run → IsFated P s → MayBeLostWith s run d → P d
  lost_fated s [] d happened h none all left = all_contained P (fates s) d all left
  lost_fated s (e ∷ es) d happened h none all (inl fate) = all_contained P (fates s) d all fate
  lost_fated s (e ∷ es) d happened h none all (inr (joined, left)) =
      from_some (step s e.happening (Joined Lost)) (λ a. MayBeLostWith a.after es d) (P d)
      (λ a steps here.
      lost_fated a.after es d happened.1 (keeps_recoverable s e.happening (Joined Lost) a happened.0 h steps) none.1
      (step_fated P E boots spares s e.happening (Joined Lost) a happened.0 h steps (none.0 a.reply) all) here) left

  with_fated : (s : State) (e : Entry) (es : List Entry) (d : Durable) → HaveHappened (e ∷ es) → IsRecoverable s
      → AllByRecursion (λ e. (reply : Reply) → E e.happening reply → ⊥) (e ∷ es) → IsFated P s
      → IsSomeAnd (step s e.happening (lost_of e.outcome)) (λ a. MayBeLostWith a.after es d) → P d
  with_fated s e es d happened h none all left =
      from_some (step s e.happening (lost_of e.outcome)) (λ a. MayBeLostWith a.after es d) (P d)
      (λ a steps here.
      lost_fated a.after es d happened.1 (keeps_recoverable s e.happening (lost_of e.outcome) a happened.0 h steps) none.1
      (step_fated P E boots spares s e.happening (lost_of e.outcome) a happened.0 h steps (none.0 a.reply) all) here) left

  -- through a run in which none of these is asked
  pub run_fated : (s : State) (run : List Entry) (d : Durable) → HaveHappened run → IsRecoverable s
      → AllByRecursion (λ e. (reply : Reply) → E e.happening reply → ⊥) run → IsFated P s → MayBeLeftIn s run d → P d
  run_fated s [] d happened h none all left = all_contained P (fates s) d all left
  run_fated s (e ∷ es) d happened h none all (inl (inl left)) = left_fated s e.happening e.outcome d happened.0 h none.0 all left
  run_fated s (e ∷ es) d happened h none all (inl (inr left)) =
      with_fated s e es d happened h none all left
  run_fated s (e ∷ es) d happened h none all (inr (mid, steps, left)) =
      let a : Answer = record { reply = e.reply; after = mid } in
      run_fated mid es d happened.1 (keeps_recoverable s e.happening e.outcome a happened.0 h steps) none.1
      (step_fated P E boots spares s e.happening e.outcome a happened.0 h steps (none.0 e.reply) all) left

-- histories

pub first_left : FirstLeft
first_left s [] d fate = fate
first_left s (e ∷ es) d fate = inl (inl (inl fate))

pub last_left : LastLeft
last_left s last [] d leads fate = subst (λ (t : State). IsFate t d) leads fate
last_left s last (e ∷ es) d leads fate = inr (leads.0, leads.1, last_left leads.0 last es d leads.2 fate)

lost_now : (s : State) (es : List Entry) (d : Durable) → IsFate s d → MayBeLostWith s es d
lost_now s [] d fate = fate
lost_now s (e ∷ es) d fate = inl fate

some_imply : (x : Option Answer) (P Q : Answer → Type 0) → ((a : Answer) → P a → Q a) → IsSomeAnd x P → IsSomeAnd x Q
some_imply None P Q f left = left
some_imply (Some a) P Q f left = f a left

-- a group goes on where more happens
lost_more : (s : State) (es later : List Entry) (d : Durable) → MayBeLostWith s es d → MayBeLostWith s (es ++ later) d
lost_more s [] later d left = lost_now s later d left
lost_more s (e ∷ es) later d (inl fate) = inl fate
lost_more s (e ∷ es) later d (inr (joined, left)) =
    inr (
      joined,
      some_imply (step s e.happening (Joined Lost)) (λ a. MayBeLostWith a.after es d) (λ a. MayBeLostWith a.after (es ++ later) d)
          (λ a here. lost_more a.after es later d here) left,
    )

with_more : (s : State) (e : Entry) (es later : List Entry) (d : Durable) → MayBeLeftWith s e es d → MayBeLeftWith s e (es ++ later) d
with_more s e es later d (inl left) = inl left
with_more s e es later d (inr left) =
    inr
    (some_imply (step s e.happening (lost_of e.outcome)) (λ a. MayBeLostWith a.after es d) (λ a. MayBeLostWith a.after (es ++ later) d)
    (λ a here. lost_more a.after es later d here) left)

pub earlier_left : EarlierLeft
earlier_left s [] later d left = first_left s later d left
earlier_left s (e ∷ es) later d (inl left) = inl (with_more s e es later d left)
earlier_left s (e ∷ es) later d (inr (mid, steps, left)) = inr (mid, steps, earlier_left mid es later d left)

pub later_left : LaterLeft
later_left s mid [] later d leads left = subst (λ (t : State). MayBeLeftIn t later d) leads left
later_left s mid (e ∷ es) later d leads left = inr (leads.0, leads.1, later_left leads.0 mid es later d leads.2 left)

pub left_amid : LeftAmid
left_amid s [] d left = inl left
left_amid s (e ∷ es) d (inl left) = inr (s, e, record { before = []; later = es; whole = refl; leads = refl }, left)
left_amid s (e ∷ es) d (inr (mid, steps, left)) =
    elim (left_amid mid es d left) [
      | inl fate ↦ inr (
        s,
        e,
        record { before = []; later = es; whole = refl; leads = refl },
        inl (leaves_behind s e.happening e.outcome (record { reply = e.reply; after = mid }) d steps fate),
      )
      | inr (at, one, amid, here) ↦ inr (
        at,
        one,
        record {
          before = e ∷ amid.before;
          later = amid.later;
          whole = ap (λ (es : List Entry). e ∷ es) amid.whole;
          leads = (mid, steps, amid.leads);
        },
        here,
      )
    ]
