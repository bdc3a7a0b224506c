-- A look at the connections, one after another.
use Rattle.std.proofs.Common.{◌≡◌, ◌∙◌, ◌≢◌, ◌<◌, ◌≤◌, ℕ, Bool, true, false, Option, Some, None, ap, arith, length, refl}
use Rattle.std.specs.Prelude.{MatchBool, MatchOption, nat_lt}
use Rattle.std.proofs.lemmas.Bool.Decides.{nat_tests}
use Rattle.std.proofs.lemmas.List.{get_or_past}
use Rattle.slab.specs.Slab.{Slab, Updates, get}
use Rattle.xa_reactor.specs.Since.{IsLooked, Looks, LooksAll, WasLooked}
use Rattle.xa_reactor.specs.Timing.{Ties}
use Rattle.xa_reactor.specs.declared.common.Settings.{Settings}
use Rattle.xa_reactor.specs.declared.peer.Peer.{Peer}

module _ {D : Type 0} (ties : D → ℕ → Ties) (settings : Settings) (now : ℕ) where
  -- what a look at a connection that ends, or not, leaves under another key
  apart : (ends : Bool) (key other : ℕ) (old new : Slab Peer) → MatchBool ends (Updates old new key None) (new ≡ old) → other ≢ key
      → get new other ≡ get old other
  apart true key other old new h ne = h.others other ne
  apart false key other old new h ne = ap (λ (s : Slab Peer). get s other) h

  other_in : (slot : Option Peer) (key other : ℕ) (old new : Slab Peer) (d : D)
      → MatchOption slot (new ≡ old)
      (λ p. (ends : Bool) × WasLooked (ties d) settings now p ends × MatchBool ends (Updates old new key None) (new ≡ old))
      → other ≢ key → get new other ≡ get old other
  other_in None key other old new d h ne = ap (λ (s : Slab Peer). get s other) h
  other_in (Some p) key other old new d h ne = apart h.0 key other old new h.2 ne

  pub looked_other : (key other : ℕ) (old new : Slab Peer) (d : D) → Looks (ties d) settings now key old new → other ≢ key
      → get new other ≡ get old other
  looked_other key other old new d h ne = other_in (get old key) key other old new d h ne

  -- and under its own
  under : (ends : Bool) (p : Peer) (key : ℕ) (old new : Slab Peer) → get old key ≡ Some p
      → MatchBool ends (Updates old new key None) (new ≡ old) → MatchBool ends (get new key ≡ None) (get new key ≡ Some p)
  under true p key old new is h = h.changed
  under false p key old new is h = ap (λ (s : Slab Peer). get s key) h ∙ is

  one_in : (slot : Option Peer) (key : ℕ) (old new : Slab Peer) (d : D) → get old key ≡ slot
      → MatchOption slot (new ≡ old)
      (λ p. (ends : Bool) × WasLooked (ties d) settings now p ends × MatchBool ends (Updates old new key None) (new ≡ old))
      → IsLooked ties settings now slot (get new key)
  one_in None key old new d is h = ap (λ (s : Slab Peer). get s key) h ∙ is
  one_in (Some p) key old new d is h = (d, h.0, h.1, under h.0 p key old new is h.2)

  pub looked_one : (key : ℕ) (old new : Slab Peer) (d : D) → Looks (ties d) settings now key old new
      → IsLooked ties settings now (get old key) (get new key)
  looked_one key old new d h = one_in (get old key) key old new d refl h

  -- beyond the last key there is nothing
  nothing : (slot after : Option Peer) → slot ≡ None → after ≡ slot → IsLooked ties settings now slot after
  nothing None after none is = is
  nothing (Some p) after none is = absurd (cc none)

  -- all that have a key below this number were looked at, and no other one has a key
  pub looked_at : (old new : Slab Peer) (end : ℕ)
      → ((key : ℕ) → key < end → IsLooked ties settings now (get old key) (get new key))
      → ((key : ℕ) → end ≤ key → get new key ≡ get old key) → length old.slots ≤ end
      → LooksAll ties settings now old new
  looked_at old new end below beyond few key = at (nat_lt key end) refl
    where
      at : (x : Bool) → nat_lt key end ≡ x → IsLooked ties settings now (get old key) (get new key)
      at true is = below key (grind (arith, nat_tests, is))
      at false is =
          let past : end ≤ key = grind (arith, nat_tests, is) in
          nothing (get old key) (get new key) (get_or_past old.slots key None (omega (arith, few, past))) (beyond key past)
