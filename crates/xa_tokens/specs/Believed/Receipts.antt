-- Asks, and entries of a history.
use Rattle.std.specs.Prelude.{ℕ, ◌≡◌, ◌+◌, ◌<◌, ◌≤◌, List, [], ◌∷◌, sum_by}
use Rattle.xa_frame.specs.declared.reply.Reply.{Reply}
use Rattle.xa_model.specs.declared.event.Event.{Event}
use Rattle.xa_tokens.specs.declared.ask.Ask.{Ask}
use Rattle.xa_tokens.specs.declared.receipt.Receipt.{Receipt}

abbrev pub ask_of : Event → ℕ → Ask
ask_of event after = record { event = event; after = after }

abbrev pub receipt_of : Ask → Reply → Receipt
receipt_of ask reply = record { ask = ask; reply = reply }

-- it stands after the entry that its asker was told last
abbrev pub IsInOrder : Receipt → Type 0
IsInOrder r = r.ask.after < r.reply.place

-- the place of the last of them, or n
abbrev pub last_or : ℕ → List Receipt → ℕ
last_or n [] = n
last_or n (r ∷ rs) = last_or r.reply.place rs

-- their places count on from k
abbrev pub AreNumbered : ℕ → List Receipt → Type 0
AreNumbered k [] = Unit {0}
AreNumbered k (r ∷ rs) = (r.reply.place ≡ k + 1) × AreNumbered (k + 1) rs

-- the same entries, each as often, in whatever order: they weigh the same, however entries are weighed
abbrev pub AreSame : List Receipt → List Receipt → Type 0
AreSame rs qs = (weigh : Receipt → ℕ) → sum_by weigh rs ≡ sum_by weigh qs

-- These entries are among those, each at most as often: they weigh no more, however entries are weighed.
abbrev pub AreAmong : List Receipt → List Receipt → Type 0
AreAmong rs qs = (weigh : Receipt → ℕ) → sum_by weigh rs ≤ sum_by weigh qs
