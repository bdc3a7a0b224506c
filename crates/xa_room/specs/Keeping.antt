-- What an event does to the receipts of a room.
use Rattle.std.specs.Prelude.{◌≡◌, ℕ, ◌+◌, ◌<◌, ◌⊎◌, List, [], ◌∷◌, ◌++◌, length, MatchBool}
use Rattle.xa_assoc.specs.Refusals.{is_memory}
use Rattle.xa_disk.specs.Counts.{plus, top}
use Rattle.xa_frame.specs.declared.reply.Reply.{Reply}
use Rattle.xa_manager.specs.declared.together.Asked.{Asked}
use Rattle.xa_model.specs.declared.event.Event.{Event}
use Rattle.xa_history.specs.Believed.Book.{placed}
use Rattle.xa_history.specs.Believed.Together.{event_at}
use Rattle.xa_history.specs.declared.receipt.Receipt.{Receipt}

-- the receipts so far, and how many found no memory
pub record Kept : Type 0 where
  pub receipts : List Receipt
  pub lost : ℕ

-- the place of the next event; a number stops at the greatest u64
abbrev pub next_place : Kept → ℕ
next_place k = plus (length k.receipts + k.lost) 1

-- the receipt of an event at this place
abbrev pub receipt_at : ℕ → Event → Reply → Receipt
receipt_at place event reply = record { place = place; event = event; reply = placed place reply }

abbrev pub with_receipt : Receipt → Kept → Kept
with_receipt r k = record { receipts = k.receipts ++ r ∷ []; lost = k.lost }

abbrev pub without_receipt : Kept → Kept
without_receipt k = record { receipts = k.receipts; lost = plus k.lost 1 }

-- one receipt more, at the next place, while there are fewer than numbers; or it found no memory, which is counted
abbrev pub Keeps : Kept → Event → Reply → Kept → Type 0
Keeps old event reply new =
    ((length old.receipts < top) × (new ≡ with_receipt (receipt_at (next_place old) event reply) old))
    ⊎ (new ≡ without_receipt old)

-- the same of an event that found its memory; one that didn't has no receipt
abbrev pub Notes : Kept → Event → Reply → Kept → Type 0
Notes old event reply new = MatchBool (is_memory reply.detail) (new ≡ old) (Keeps old event reply new)

-- the same of the calls that have these replies, one after another
abbrev pub NotesAll : List Asked → Kept → List (ℕ × Reply) → Kept → Type 0
NotesAll calls old [] new = new ≡ old
NotesAll calls old (r ∷ rs) new = (mid : Kept) × Notes old (event_at calls r.0) r.1 mid × NotesAll calls mid rs new
