-- A call, or what a server is asked, over the connection of a number, and of a number that has none.
use Rattle.std.proofs.Common.{◌≡◌, ℕ, zero, suc, ◌<◌, List, [], ◌∷◌, length, Option, Some, None, Result, Ok, arith, ap, refl, sym, ◌∙◌, slice_index_or, slice_set}
use Rattle.std.specs.Prelude.{option_and_then}
use Rattle.xa_frame.specs.declared.reply.Reply.{Reply}
use Rattle.xa_talk.specs.declared.fault.TalkFault.{TalkFault}
use Rattle.xa_control.specs.declared.answer.Answer.{Answer}
use Rattle.xa_control.specs.declared.control.Control.{Control as Asking}
use Rattle.xa_control.specs.declared.control.Control.TheVariants.{Shutdown, Hello as Greeting, Disconnect, Metrics, Sessions, First, Final}
use Rattle.xa_talk.specs.declared.answered.Answered.{Answered}
use Rattle.xa_talk.specs.Answers.{AnsweredOver, AskAnswered, ControlAnswered, EndAnswered, EndAsked, left_open, told}
use Rattle.xa_talk.specs.Numbers.{connection_at, index_of, there, with_at}

pub there_at : {C : Type 0} (numbered : List (Option C)) (index : ℕ) (x d : Option C) → index < length numbered → slice_index_or numbered index d ≡ x → there numbered index ≡ x
there_at [] index x d lt is = absurd (omega (arith, lt))
there_at (y ∷ numbered) zero x d lt is = is
there_at (y ∷ numbered) (suc index) x d lt is = there_at numbered index x d (omega (arith, lt)) is

pub kept_at : {C : Type 0} (numbered : List (Option C)) (index : ℕ) (x d : Option C) → index < length numbered → slice_index_or numbered index d ≡ x → slice_set numbered index x ≡ numbered
kept_at [] index x d lt is = absurd (omega (arith, lt))
kept_at (y ∷ numbered) zero x d lt is = ap (λ z. z ∷ numbered) (sym is)
kept_at (y ∷ numbered) (suc index) x d lt is = ap (λ l. y ∷ l) (kept_at numbered index x d (omega (arith, lt)) is)

module _ {C : Type 0} (n index : ℕ) (numbered : List (Option C)) (is : index_of n ≡ Some index) where
  found : (x : Option C) → there numbered index ≡ x → connection_at n numbered ≡ x
  found x at = ap (λ (o : Option ℕ). option_and_then (λ p. there numbered p) o) is ∙ at

  set_at : (x : Option C) → slice_set numbered index x ≡ with_at (index_of n) x numbered
  set_at x = sym (ap (λ (o : Option ℕ). with_at o x numbered) is)

module _ {C A : Type 0} (sent left : C → Option (List ℕ)) (n index : ℕ) (Brings : Result A TalkFault → Option (List ℕ) → Option (List ℕ) → Option (List ℕ) → Option (List ℕ) → Type 0)
    (unconnected : A) (answer : Result A TalkFault) (numbered : List (Option C)) (is : index_of n ≡ Some index) where
  pub over : (c c' : C) → there numbered index ≡ Some c → Brings answer (sent c) (sent c') (left c) (left c') →
      AnsweredOver sent left Brings unconnected n answer numbered (slice_set numbered index (Some c'))
  over c c' at done = rw (found n index numbered is (Some c) at) (c', set_at n index numbered is (Some c'), done)

  pub over_none : (numbered' : List (Option C)) → there numbered index ≡ None → answer ≡ Ok unconnected → numbered' ≡ numbered → AnsweredOver sent left Brings unconnected n answer numbered numbered'
  over_none numbered' at refused same = rw (found n index numbered is None at) (refused, same)

module _ {C : Type 0} (sent left : C → Option (List ℕ)) (n index : ℕ) (answer : Result Reply TalkFault) (numbered : List (Option C)) (is : index_of n ≡ Some index) where
  pub end_answered : (x x' d : Option C) → index < length numbered → slice_index_or numbered index d ≡ x → EndAsked sent left x answer x' →
      EndAnswered sent left n answer numbered (slice_set numbered index x')
  end_answered None x' d lt at asked =
      rw (found n index numbered is None (there_at numbered index None d lt at))
      (asked.0, ap (λ (x : Option C). slice_set numbered index x) asked.1 ∙ kept_at numbered index None d lt at)
  end_answered (Some c) x' d lt at asked =
      rw (found n index numbered is (Some c) (there_at numbered index (Some c) d lt at))
      (asked.0, asked.1, asked.2, ap (λ (x : Option C). slice_set numbered index x) asked.3 ∙ set_at n index numbered is (left_open asked.1 asked.0), asked.4)

-- what asks for anything but the end is answered by the server itself
pub control_answered : {C : Type 0} (sent left : C → Option (List ℕ)) (n : ℕ) (asked : Asking) (own : Result Answer TalkFault) (answer : Result (Option Answered) TalkFault)
    (numbered numbered' : List (Option C)) → (asked ≡ Shutdown → ⊥) → answer ≡ told own → AskAnswered sent left n asked own numbered numbered'
    → ControlAnswered sent left n asked answer numbered numbered'
control_answered sent left n Shutdown own answer numbered numbered' other shows asks = absurd (other refl)
control_answered sent left n (Greeting hello) own answer numbered numbered' other shows asks = (own, shows, asks)
control_answered sent left n (Disconnect session) own answer numbered numbered' other shows asks = (own, shows, asks)
control_answered sent left n Metrics own answer numbered numbered' other shows asks = (own, shows, asks)
control_answered sent left n (Sessions xid) own answer numbered numbered' other shows asks = (own, shows, asks)
control_answered sent left n (First message) own answer numbered numbered' other shows asks = (own, shows, asks)
control_answered sent left n (Final message) own answer numbered numbered' other shows asks = (own, shows, asks)
