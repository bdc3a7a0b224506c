-- A row, by what it comes to.
use Rattle.std.proofs.Common.{◌≡◌, ℤ, false, Option, Some, None, refl, ap, sym, ◌∙◌, subst}
use Rattle.xa_frame.specs.declared.reply.Reply.{Reply}
use Rattle.xa_xid.specs.Triple.{Triple}
use Rattle.xa_model.specs.State.{State, known_as}
use Rattle.xa_model.specs.Answer.{Answer, plain, answer, unless, marked}
use Rattle.xa_model.specs.Associations.{mark_in}
use Rattle.xa_model.specs.Invariants.Loggable.{IsRecoverable}
use Rattle.xa_assoc.specs.Refusals.{is_memory}
use Rattle.xa_manager.specs.View.{View}
use Rattle.xa_manager.specs.Stands.{StandsFor, Follows}

pub follows_by : (m m' : View) (act : State → Answer) (reply : Reply) → is_memory reply.detail ≡ false
    → ((s : State) → StandsFor m s → (a : Answer) × (act s ≡ a) × (a.reply ≡ reply) × (IsRecoverable a.after → StandsFor m' a.after)) → Follows m act reply m'
follows_by m m' act reply served h = record {
  answers = λ s st. let x = h s st in ap (λ (a : Answer). a.reply) x.1 ∙ x.2;
  stands = λ s st recoverable. let x = h s st in subst (λ (a : Answer). StandsFor m' a.after) (sym x.1) (x.3 (subst (λ (a : Answer). IsRecoverable a.after) x.1 recoverable));
  served = served;
}

-- the same row under another name
pub follows_as : (m m' : View) (act as_ : State → Answer) (reply : Reply) → ((s : State) → StandsFor m s → as_ s ≡ act s) → Follows m act reply m' → Follows m as_ reply m'
follows_as m m' act as_ reply same f = follows_by m m' as_ reply f.served (λ s st. (act s, same s st, f.answers s st, λ recoverable. f.stands s st recoverable))

-- what refuses, and what doesn't, over plain variables, since the tactics would compute the step
pub refused_is : (o : Option Reply) (s : State) (a : Answer) (reply : Reply) → o ≡ Some reply → unless o s a ≡ answer reply s
refused_is o s a reply e = ap (λ (x : Option Reply). unless x s a) e

pub passed_is : (o : Option Reply) (s : State) (a : Answer) → o ≡ None → unless o s a ≡ a
passed_is o s a e = ap (λ (x : Option Reply). unless x s a) e

-- a row of a session's work for a branch, after its refusals and the branch's mark, with what it leaves of a marked one
pub record Work : Type 0 where
  pub refusal : State → Option Reply
  pub xid : Triple
  pub left : State → State
  pub go : State → Answer

abbrev pub work_by : Work → State → Answer
work_by w s = unless (w.refusal s) s (marked (mark_in (known_as s w.xid)) (w.left s) (w.go s))

marked_is : (o : Option Reply) (mark : Option ℤ) (s left : State) (go : Answer) (code : ℤ) → o ≡ None → mark ≡ Some code → unless o s (marked mark left go) ≡ answer (plain code) left
marked_is o mark s left go code e f = rw (e, f) refl

goes_on_is : (o : Option Reply) (mark : Option ℤ) (s left : State) (go : Answer) → o ≡ None → mark ≡ None → unless o s (marked mark left go) ≡ go
goes_on_is o mark s left go e f = rw (e, f) refl

pub follows_refused : (m : View) (w : Work) (reply : Reply) → is_memory reply.detail ≡ false → ((s : State) → StandsFor m s → Some reply ≡ w.refusal s) → Follows m (work_by w) reply m
follows_refused m w reply served h =
    follows_by m m (work_by w) reply served
    (λ s st. (answer reply s, refused_is (w.refusal s) s (marked (mark_in (known_as s w.xid)) (w.left s) (w.go s)) reply (sym (h s st)), refl, λ recoverable. st))

-- once nothing refused it
module _ (m m' : View) (w : Work) (o : Option Reply) (none : o ≡ None) (free : (s : State) → StandsFor m s → o ≡ w.refusal s) where
  passes : (s : State) → StandsFor m s → w.refusal s ≡ None
  passes s st = sym (free s st) ∙ none

  pub follows_marked : (code : ℤ) → ((s : State) → StandsFor m s → mark_in (known_as s w.xid) ≡ Some code)
      → ((s : State) → StandsFor m s → w.refusal s ≡ None → IsRecoverable (w.left s) → StandsFor m' (w.left s)) → Follows m (work_by w) (plain code) m'
  follows_marked code is h =
      follows_by m m' (work_by w) (plain code) refl
      (λ s st. (answer (plain code) (w.left s), marked_is (w.refusal s) (mark_in (known_as s w.xid)) s (w.left s) (w.go s) code (passes s st) (is s st), refl, h s st (passes s st)))

  pub follows_unmarked : (mark : Option ℤ) (reply : Reply) → mark ≡ None → is_memory reply.detail ≡ false → ((s : State) → StandsFor m s → mark_in (known_as s w.xid) ≡ mark)
      → ((s : State) → StandsFor m s → w.refusal s ≡ None → ((w.go s).reply ≡ reply) × (IsRecoverable (w.go s).after → StandsFor m' (w.go s).after)) → Follows m (work_by w) reply m'
  follows_unmarked mark reply unmarked served is h =
      follows_by m m' (work_by w) reply served
      (λ s st. let x = h s st (passes s st) in (w.go s, goes_on_is (w.refusal s) (mark_in (known_as s w.xid)) s (w.left s) (w.go s) (passes s st) (is s st ∙ unmarked), x.0, x.1))

-- a second refusal after those

pub turned_away : (m : View) (o : Option Reply) (s : State) (a : Answer) (reply : Reply) → Some reply ≡ o → StandsFor m s → ((unless o s a).reply ≡ reply) × (IsRecoverable (unless o s a).after → StandsFor m (unless o s a).after)
turned_away m o s a reply e st = rw (← e) (refl, λ recoverable. st)

pub let_on : (m' : View) (o : Option Reply) (s : State) (a : Answer) (reply : Reply) → None ≡ o → a.reply ≡ reply → (IsRecoverable a.after → StandsFor m' a.after)
    → ((unless o s a).reply ≡ reply) × (IsRecoverable (unless o s a).after → StandsFor m' (unless o s a).after)
let_on m' o s a reply e said stands = rw (← e) (said, stands)
