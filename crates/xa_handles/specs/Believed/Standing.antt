-- What the lock protects.
use Rattle.std.specs.Prelude.{ℕ, ◌≡◌, ◌+◌, List, ◌++◌, map, Option, sum_by}
use Rattle.xa_handles.specs.Mail.{Mailed, ask_weight, slot_weight, told_weight}
use Rattle.xa_model.specs.State.{State}
use Rattle.xa_history.specs.Believed.Book.{receipt_of}
use Rattle.xa_history.specs.declared.entry.Entry.{Entry}
use Rattle.xa_history.specs.Believed.Manages.{Behaviour}
use Rattle.xa_history.specs.declared.receipt.Receipt as entry
use Rattle.xa_sequencer.specs.Believed.Stands.{Numbered, Stands}
use Rattle.xa_tokens.specs.declared.ask.Ask.{Ask}
use Rattle.xa_tokens.specs.declared.receipt.Receipt.{Receipt}

-- what a contract sees: the sequencer, the history that the keeper knows, the letters that were taken out of the mailbox,
-- and each thread's tray
pub record Standing (M : Type 0) : Type 0 where
  pub at : Numbered M
  pub history : List Receipt
  pub letters : List (Option Mailed)
  pub trays : List (List Mailed)

-- a receipt as an entry's
abbrev pub shown : Receipt → entry.Receipt
shown r = record { place = r.reply.place; event = r.ask.event; reply = r.reply }

-- The sequencer stands for a history whose entries are these: what was asked was carried out, and nothing else was.
pub record HasBook {M : Type 0} (m : Behaviour M) (start : State → Type 0) (base : ℕ × ℕ) (c : Numbered M)
    (receipts : List Receipt) : Type 0 where
  pub entries : List Entry
  pub stands : Stands m start base c entries
  pub same : map receipt_of entries ≡ map shown receipts

-- what all letters weigh
abbrev pub lying : {M : Type 0} → (Mailed → ℕ) → Standing M → ℕ
lying weigh s = sum_by (slot_weight weigh) s.letters + sum_by (λ t. sum_by weigh t) s.trays

-- No letter is lost or made: however letters are weighed, they weigh the same. The history is the same.
pub record KeepsMail {M : Type 0} (old new : Standing M) : Type 0 where
  pub history : new.history ≡ old.history
  pub letters : (weigh : Mailed → ℕ) → lying weigh new ≡ lying weigh old

-- the letters are where they were
pub record LeavesMail {M : Type 0} (old new : Standing M) : Type 0 where
  pub letters : new.letters ≡ old.letters
  pub trays : new.trays ≡ old.trays

-- The history has these more entries, each of which a letter tells, and no letter is lost or made.
pub record TellsMail {M : Type 0} (old new : Standing M) : Type 0 where
  pub more : List Receipt
  pub history : new.history ≡ old.history ++ more
  pub told : (weigh : Receipt → ℕ)
      → lying (told_weight weigh) new ≡ lying (told_weight weigh) old + sum_by weigh more
  pub asks : (weigh : Ask → ℕ) → lying (ask_weight weigh) new ≡ lying (ask_weight weigh) old
