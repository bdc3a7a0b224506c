-- Questions are done, one after the other.
use Rattle.std.proofs.Common.{◌≡◌, ℕ, suc, ◌-◌, ◌^◌, length, arith, List, [], ◌∷◌, ◌++◌, drop, length-drop, Option, Some, None, Result, Ok, Err, refl, sym, ap, subst, ◌∙◌, append_assoc, append-nil, inl, inr}
use Rattle.std.specs.Io.KnownBytes.{Appends}
use Rattle.std.specs.Prelude.{All, option_to_list}
use Rattle.xa_operate.specs.declared.asking.Asking.{Asking}
use Rattle.xa_output.specs.Output.{IsFront}
use Rattle.xa_talk.specs.declared.answered.Answered.{Answered}
use Rattle.xa_operate.specs.Agendas.{behind}
use Rattle.xa_operate.specs.Courses.{AreDone, IsDone, Prints, QuestionEnds, TaskEnds}
use Rattle.xa_operate.specs.Shown.{shown}
use Rattle.xa_operate.specs.declared.fault.OperateFault.{OperateFault}
use Rattle.xa_operate.specs.declared.format.Format.{Format}
use Rattle.xa_operate.specs.declared.task.Task.{Task}

-- what holds of all holds of those after the first
pub all_behind : {X : Type 0} (P : X → Type 0) (x : X) (xs : List X) → All P (x ∷ xs) → All P xs
all_behind P x xs all k d below = all (suc k) d (omega (arith, below))

drops_nothing : {X : Type 0} (xs : List X) → xs ≡ drop 1 xs → xs ≡ []
drops_nothing [] same = refl
drops_nothing (x ∷ xs) same = absurd (omega (arith, ap length same, length-drop 1 (x ∷ xs)))

-- where none is popped none is left
pub none_popped : {X : Type 0} (popped : Option X) (old new : List X) → popped ≡ None → old ≡ option_to_list popped ++ new → new ≡ drop 1 old → old ≡ []
none_popped None old new none items rest = drops_nothing old (items ∙ rest)
none_popped (Some x) old new none items rest = absurd (cc none)

module _ {C : Type 0} (format : Format) (task : Task) (sent left : C → Option (List ℕ)) where
  -- what is done is printed, whole or in part
  pub printed : (question : Asking) (reply : Answered) (r : Result (Unit {0}) OperateFault) (agenda agenda' : List Asking) (text : List ℕ)
      (output output' : Option (List ℕ)) (c c' : C) → IsDone format task sent left question reply c c'
      → text ≡ shown format task question reply → agenda' ≡ agenda ++ behind task reply → Prints r text output output'
      → (t : List ℕ) × Appends output output' t × QuestionEnds format task sent left question r agenda agenda' t c c'
  printed question reply (Ok x) agenda agenda' text output output' c c' done is more prints = (text, prints, (reply, done, is, more))
  printed question reply (Err fault) agenda agenda' text output output' c c' done is more (told, (part, front, written)) = (
    part,
    written,
    inr (inr record {
      reply = reply;
      done = done;
      part = subst (λ (t : List ℕ). IsFront part t) is front;
      told = inl told;
    }),
  )

  -- one question more is done
  pub done_more : (agenda rest agenda' : List Asking) (replies : List Answered) (question : Asking) (reply : Answered)
      (text more : List ℕ) (c over c' : C)
      → AreDone format task sent left agenda replies (question ∷ rest) text c over
      → IsDone format task sent left question reply over c' → more ≡ shown format task question reply
      → agenda' ≡ rest ++ behind task reply
      → AreDone format task sent left agenda (replies ++ reply ∷ []) agenda' (text ++ more) c c'
  done_more agenda rest agenda' [] question reply text more c over c' (same, none, stay) done is leads =
      subst (λ (a : List Asking). AreDone format task sent left a (reply ∷ []) agenda' (text ++ more) c c') same (
        c',
        [],
        subst (λ (d : C). IsDone format task sent left question reply d c') stay done,
        ap (λ (t : List ℕ). t ++ more) none ∙ (is ∙ sym (append-nil (shown format task question reply))),
        (leads, refl, refl),
      )
  done_more [] rest agenda' (first ∷ replies) question reply text more c over c' none done is leads = absurd none
  done_more (one ∷ agenda) rest agenda' (first ∷ replies) question reply text more c over c' (d, others, begun, spelled, going) done is leads = (
    d,
    others ++ more,
    begun,
    ap (λ (t : List ℕ). t ++ more) spelled ∙ append_assoc (shown format task one first) others more,
    done_more (agenda ++ behind task first) rest agenda' replies question reply others more d over c' going done is leads,
  )

  -- no more questions can be counted
  pub counted_out : (fault : OperateFault) (agenda : List Asking) (n : ℕ) (c : C) → n ≡ 2 ^ 64 - 1
      → TaskEnds format task sent left {X = Unit {0}} (Err fault) agenda n [] c c
  counted_out fault [] n c all = (all, refl)
  counted_out fault (question ∷ agenda) n c all = inl (all, refl)
