-- The versions of all chains stand in one pool, each at a slot. A chain is a list of slots.
use Rattle.std.specs.Prelude.{◌≡◌, ◌≢◌, ℕ, ◌+◌, List, [], ◌∷◌, map, length, Option, Some, None, IsSome, option_map}
use Rattle.std.specs.List.{AllByRecursion as Each}
use Rattle.slab.specs.Slab.{get, slab_len}
use Rattle.mv_chain.specs.declared.version.Version.{Version}
use Rattle.mv_chain.specs.declared.pool.Pool.{Pool}
use Rattle.mv_chain.specs.declared.chain.Chain.{Chain}
use Rattle.mv_chain.specs.Chain.{base, IsChain}

-- what the pool has at a slot
abbrev pub at : Pool → ℕ → Option Version
at pool slot = get pool.slab slot

abbrev pub stored : Option Version → Version
stored None = base
stored (Some v) = v

abbrev pub version_at : Pool → ℕ → Version
version_at pool slot = stored (at pool slot)

-- the versions at these slots
abbrev pub shown_at : Pool → List ℕ → List Version
shown_at pool slots = map (version_at pool) slots

-- the slot is none of these
abbrev pub IsOutside : ℕ → List ℕ → Type 0
IsOutside slot slots = Each (λ other. slot ≢ other) slots

abbrev pub IsOnce : List ℕ → Type 0
IsOnce [] = Unit {0}
IsOnce (slot ∷ later) = IsOutside slot later × IsOnce later

-- each slot has a version, and no slot comes twice
pub record IsHeld (pool : Pool) (slots : List ℕ) : Type 0 where
  pub present : Each (λ slot. IsSome (at pool slot)) slots
  pub once : IsOnce slots

-- what is true of every chain of the pool
pub record IsKeptAt (pool : Pool) (slots : List ℕ) : Type 0 where
  pub held : IsHeld pool slots
  pub chain : IsChain (shown_at pool slots)

-- slots that aren't the chain's keep their versions, and don't become the chain's
pub record LeavesOthersAt (old : Pool) (mine : List ℕ) (new : Pool) (left : List ℕ) : Type 0 where
  pub stays : (slot : ℕ) → IsSome (at old slot) → IsOutside slot mine → at new slot ≡ at old slot
  pub apart : (slot : ℕ) → IsSome (at old slot) → IsOutside slot mine → IsOutside slot left

-- the pool's number of versions has changed as the chain's has
abbrev pub CountsAt : Pool → List ℕ → Pool → List ℕ → Type 0
CountsAt old mine new left = slab_len new.slab + length mine ≡ slab_len old.slab + length left

-- one slot's version is changed by f
pub record ChangesAt (f : Version → Version) (slot : ℕ) (old new : Pool) : Type 0 where
  pub changed : at new slot ≡ option_map f (at old slot)
  pub others : (other : ℕ) → other ≢ slot → at new other ≡ at old other

-- the versions of a chain, ascending by timestamp
abbrev pub versions_of : Pool → Chain → List Version
versions_of pool c = shown_at pool c.slots.items

-- the chain is one of the pool's
abbrev pub IsKept : Pool → Chain → Type 0
IsKept pool c = IsKeptAt pool c.slots.items

-- no version is in both chains
abbrev pub AreApart : Chain → Chain → Type 0
AreApart a b = Each (λ slot. IsOutside slot b.slots.items) a.slots.items

abbrev pub Counts : Pool → Chain → Pool → Chain → Type 0
Counts old mine new left = CountsAt old mine.slots.items new left.slots.items

-- a call on one chain leaves every other chain of the pool as it was
abbrev pub LeavesOthers : Pool → Chain → Pool → Chain → Type 0
LeavesOthers old mine new left = LeavesOthersAt old mine.slots.items new left.slots.items

-- what that comes to for another chain
pub record IsAsBefore (old : Pool) (other : Chain) (new : Pool) (left : Chain) : Type 0 where
  pub versions : versions_of new other ≡ versions_of old other
  pub kept : IsKept new other
  pub apart : AreApart other left

abbrev pub OthersStay : Type 0
OthersStay =
    (old new : Pool) (mine left other : Chain)
    → LeavesOthers old mine new left → IsKept old other → AreApart other mine → IsAsBefore old other new left
