-- What an order to end a connection leaves, key by key.
use Rattle.std.proofs.Common.{◌≡◌, ◌∙◌, ◌⊎◌, ℕ, ◌<◌, ◌≤◌, length, Option, None, ap, arith, sym, inl, inr}
use Rattle.std.proofs.lemmas.Bool.{cases_lt}
use Rattle.std.proofs.lemmas.List.{get_or_past}
use Rattle.slab.specs.Slab.{Slab, get}
use Rattle.xa_reactor.specs.Cuts.{HasCut, left_by}
use Rattle.xa_reactor.specs.declared.cuts.Cut.{Cut}
use Rattle.xa_reactor.specs.declared.peer.Peer.{Peer}

-- after the slots there is no connection
pub cut_beyond : (cut : Cut) (old new : Slab Peer) (count : ℕ) → ((key : ℕ) → key < count → get new key ≡ left_by cut (get old key))
    → ((key : ℕ) → count ≤ key → get new key ≡ get old key) → length old.slots ≤ count → HasCut cut old new
cut_beyond cut old new count left rest few key =
    elim (cases_lt key count) [
      | inl below ↦ left key below
      | inr beyond ↦ let none : get old key ≡ None = get_or_past old.slots key None (omega (arith, few, beyond)) in
          rest key beyond ∙ none ∙ sym (ap (λ (slot : Option Peer). left_by cut slot) none)
    ]
