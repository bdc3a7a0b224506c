-- Calls that threads post for whichever of them has the lock, and what becomes of them.
use Rattle.std.specs.Prelude.{ℕ, ◌≡◌, zero, suc, List, [], ◌∷◌, ◌++◌, Option, None, Some}
use Rattle.xa_frame.specs.Limits.{IsRequest}
use Rattle.xa_frame.specs.declared.reply.Reply.{Reply}
use Rattle.xa_handles.specs.declared.letter.Content.{Content}
use Rattle.xa_handles.specs.declared.letter.Content.TheVariants.{Posted, Answered}
use Rattle.xa_manager.specs.declared.together.Asked.{Asked}
use Rattle.xa_model.specs.declared.event.Event.{Event}
use Rattle.xa_model.specs.declared.event.Event.TheVariants.{Connect, Hangup, Call}
use Rattle.xa_tokens.specs.declared.ask.Ask.{Ask}
use Rattle.xa_tokens.specs.declared.receipt.Receipt.{Receipt}
use Rattle.xa_tokens.specs.Believed.Receipts.{receipt_of}

-- A letter: the tray of the thread that posted it, the call's place among those that the thread asks, the ask, and its
-- reply, once there is one.
pub record Mailed : Type 0 where
  pub tray : ℕ
  pub place : ℕ
  pub ask : Ask
  pub reply : Option Reply

abbrev pub mailed : {B : Type 0} → ℕ → ℕ → Content B → Mailed
mailed tray place (Posted ask) = record { tray = tray; place = place; ask = ask; reply = None }
mailed tray place (Answered r) = record { tray = tray; place = place; ask = r.ask; reply = Some r.reply }

-- it is a call of a session, within the limits
abbrev pub IsCall : Event → Type 0
IsCall Connect = ⊥
IsCall (Hangup session) = ⊥
IsCall (Call session request) = IsRequest request

-- it is this call, and has no reply
abbrev pub IsCallOf : Option Mailed → Asked → Type 0
IsCallOf None c = ⊥
IsCallOf (Some l) c = (l.reply ≡ None) × (l.ask.event ≡ Call c.session c.request)

-- they are these calls, in their order, and none of them has a reply
abbrev pub AreLetters : List (Option Mailed) → List Asked → Type 0
AreLetters [] [] = Unit {0}
AreLetters [] (c ∷ cs) = ⊥
AreLetters (l ∷ ls) [] = ⊥
AreLetters (l ∷ ls) (c ∷ cs) = IsCallOf l c × AreLetters ls cs

-- if a group is pending, the letters are its calls
abbrev pub FitPending : Option (List Asked) → List (Option Mailed) → Type 0
FitPending None letters = Unit {0}
FitPending (Some calls) letters = AreLetters letters calls

-- the trays with one more letter in one of them, on top
abbrev pub put_at : List (List Mailed) → ℕ → Mailed → List (List Mailed)
put_at [] tray l = []
put_at (t ∷ ts) zero l = (t ++ l ∷ []) ∷ ts
put_at (t ∷ ts) (suc tray) l = t ∷ put_at ts tray l

-- what a letter weighs by its ask, and by the entry that it tells
abbrev pub ask_weight : (Ask → ℕ) → Mailed → ℕ
ask_weight weigh l = weigh l.ask

abbrev pub reply_weight : (Receipt → ℕ) → Ask → Option Reply → ℕ
reply_weight weigh ask None = 0
reply_weight weigh ask (Some reply) = weigh (receipt_of ask reply)

abbrev pub told_weight : (Receipt → ℕ) → Mailed → ℕ
told_weight weigh l = reply_weight weigh l.ask l.reply

abbrev pub slot_weight : (Mailed → ℕ) → Option Mailed → ℕ
slot_weight weigh None = 0
slot_weight weigh (Some l) = weigh l
