-- Answering the letters of a group.
use Rattle.std.specs.Prelude.{ℕ, ◌≡◌, ◌+◌, List, [], ◌∷◌, ◌++◌, map, Option, None, Some, slice_get, slice_set, sum_by}
use Rattle.xa_frame.specs.declared.reply.Reply.{Reply}
use Rattle.xa_handles.specs.Mail.{Mailed, ask_weight, slot_weight, told_weight}
use Rattle.xa_handles.specs.Believed.Posted.{WasAnswered}
use Rattle.xa_handles.specs.Believed.Standing.{shown}
use Rattle.xa_manager.specs.declared.together.Asked.{Asked}
use Rattle.xa_model.specs.State.{State}
use Rattle.xa_history.specs.Believed.Together.{event_at}
use Rattle.xa_history.specs.Believed.Manages.{Behaviour}
use Rattle.xa_history.specs.declared.receipt.Receipt as entry
use Rattle.xa_tokens.specs.declared.ask.Ask.{Ask}
use Rattle.xa_tokens.specs.declared.receipt.Receipt.{Receipt}
use Rattle.xa_tokens.specs.Believed.Receipts.{ask_of, receipt_of}

-- the call of a reply was answered like this, whatever its asker had been told before
abbrev pub IsAnswerTo : {M : Type 0} → Behaviour M → (State → Type 0) → ℕ × ℕ → List Asked → ℕ × Reply → Type 0
IsAnswerTo m start base calls r = (after : ℕ) → WasAnswered m start base (ask_of (event_at calls r.0) after) r.1

-- the letter of a reply's call is there, and has no answer yet
pub record IsOpen (calls : List Asked) (letters : List (Option Mailed)) (r : ℕ × Reply) : Type 0 where
  pub letter : Mailed
  pub there : slice_get letters r.0 ≡ Some (Some letter)
  pub unanswered : letter.reply ≡ None
  pub event : letter.ask.event ≡ event_at calls r.0

-- that letter was answered, which is the history's next entry
pub record AnswersAt (calls : List Asked) (r : ℕ × Reply) (history : List Receipt) (letters : List (Option Mailed))
    (history' : List Receipt) (letters' : List (Option Mailed)) : Type 0 where
  pub one : IsOpen calls letters r
  pub history_is : history' ≡ history ++ receipt_of one.letter.ask r.1 ∷ []
  pub letters_are : letters' ≡ slice_set letters r.0 (Some (record one.letter { reply = Some r.1 }))

-- what an entry's receipt of a reply is
abbrev pub shown_reply : List Asked → ℕ × Reply → entry.Receipt
shown_reply calls r = record { place = r.1.place; event = event_at calls r.0; reply = r.1 }

-- Those of all replies were answered: they are the history's next entries, in the order of the replies, and each of these
-- entries is told by a letter. No letter is lost.
pub record AnswersAll (calls : List Asked) (replies : List (ℕ × Reply)) (history : List Receipt)
    (letters : List (Option Mailed)) (history' : List Receipt) (letters' : List (Option Mailed)) : Type 0 where
  pub more : List Receipt
  pub history_is : history' ≡ history ++ more
  pub are : map shown more ≡ map (shown_reply calls) replies
  pub told : (weigh : Receipt → ℕ) → sum_by (slot_weight (told_weight weigh)) letters'
      ≡ sum_by (slot_weight (told_weight weigh)) letters + sum_by weigh more
  pub asks : (weigh : Ask → ℕ) → sum_by (slot_weight (ask_weight weigh)) letters' ≡ sum_by (slot_weight (ask_weight weigh)) letters
