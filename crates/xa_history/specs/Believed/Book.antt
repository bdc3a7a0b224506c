-- A book: what was asked, what the device did, and what was replied, one after another.
use Rattle.std.specs.Prelude.{ℕ, ◌≡◌, ◌+◌, false, List, [], ◌∷◌, map}
use Rattle.xa_frame.specs.declared.reply.Reply.{Reply}
use Rattle.xa_model.specs.declared.event.Event.{Event}
use Rattle.xa_model.specs.declared.outcome.Outcome.{Outcome}
use Rattle.xa_model.specs.Events.{is_restart}
use Rattle.xa_model.specs.Turn.{Asked}
use Rattle.xa_model.specs.History as history
use Rattle.xa_history.specs.declared.entry.Entry.{Entry}
use Rattle.xa_history.specs.declared.receipt.Receipt.{Receipt}

abbrev pub placed : ℕ → Reply → Reply
placed n r = record r { place = n }

abbrev pub unplaced : Reply → Reply
unplaced r = placed 0 r

abbrev pub entry_of : ℕ → Event → Outcome → Reply → Entry
entry_of n event outcome reply = record { place = n; event = event; outcome = outcome; reply = placed n reply }

-- the receipt of an entry
abbrev pub receipt_of : Entry → Receipt
receipt_of e = record { place = e.place; event = e.event; reply = e.reply }

-- what a book says as a history: the places taken out
abbrev pub plain_entry : Entry → history.Entry
plain_entry e = record { happening = Asked e.event; outcome = e.outcome; reply = unplaced e.reply }

abbrev pub plain_entries : List Entry → List history.Entry
plain_entries es = map plain_entry es

-- the places count on from k
abbrev pub AreNumbered : ℕ → List Entry → Type 0
AreNumbered k [] = Unit {0}
AreNumbered k (e ∷ es) = (e.place ≡ k + 1) × (e.reply.place ≡ k + 1) × AreNumbered (k + 1) es

-- nobody asked for a restart
abbrev pub HasNoRestart : List Entry → Type 0
HasNoRestart [] = Unit {0}
HasNoRestart (e ∷ es) = (is_restart e.event ≡ false) × HasNoRestart es
