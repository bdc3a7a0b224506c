-- What a sequencer keeps beside its history: numbers for the calls of a pending group.
use Rattle.std.proofs.Common.{◌≡◌, ℕ, ◌+◌, ◌≤◌, List, Option, None, Some, sym, ap, subst, arith}
use Rattle.xa_manager.specs.declared.together.Asked.{Asked}
use Rattle.xa_model.specs.State.{State}
use Rattle.xa_history.specs.declared.entry.Entry.{Entry}
use Rattle.xa_history.specs.Believed.Manages.{Behaviour}
use Rattle.xa_sequencer.specs.Manages.{ArePending, KeepsPending, pending_count}
use Rattle.xa_sequencer.specs.Believed.Stands.{GoesOn, HasHistory, Numbered, most_numbers}
use Rattle.xa_sequencer.proofs.Adding.{has_more}

module _ {M : Type 0} (m : Behaviour M) (has : M → Type 0) (start : State → Type 0) (base : ℕ × ℕ) where
  -- its history, and that, with these calls pending
  abbrev pub Keeps : Option (List Asked) → Numbered M → Type 0
  Keeps p c = HasHistory m start base c × KeepsPending m has p c.now c.count

  -- with none pending
  pub keeps_alone : (p : Option (List Asked)) (c : Numbered M) → has c.now → p ≡ None → HasHistory m start base c → Keeps p c
  keeps_alone None c group e h = (h, record { group = group; asked = tt; reserved = omega (arith, h.1.upholds.reserved, h.1.count_is) })
  keeps_alone (Some calls) c group e h = absurd (cc e)

  -- after more entries, with the same calls pending
  pub keeps_on : (p p' : Option (List Asked)) (old new : Numbered M) (more : List Entry) → GoesOn m start base old more new → has new.now → p' ≡ p
      → new.count + m.sessions new.now + pending_count p ≤ most_numbers → Keeps p old → Keeps p' new
  keeps_on p p' old new more goes group same room (history, k) = (
    has_more m start base old new more goes history,
    record { group = group; asked = subst ArePending (sym same) k.asked; reserved = omega (arith, room, ap pending_count same) },
  )
