-- The chains of all keys over one pool, each at an index.
use Rattle.std.specs.Prelude.{◌≡◌, ◌≢◌, ℕ, List, [], Option, Some, None}
use Rattle.slab.specs.Slab.{Slab, get as chain_in}
use Rattle.mv_chain.specs.declared.version.Version.{Version}
use Rattle.mv_chain.specs.declared.pool.Pool.{Pool}
use Rattle.mv_chain.specs.declared.chain.Chain.{Chain}
use Rattle.mv_chain.specs.Chain.{fresh}
use Rattle.mv_chain.specs.Pool.{versions_of, IsKept, AreApart, LeavesOthersAt}

-- the versions at an index; if no chain stands there, those of a key that nobody wrote
abbrev pub shown_in : Pool → Option Chain → List Version
shown_in pool None = fresh
shown_in pool (Some c) = versions_of pool c

-- those of the chain at an index
abbrev pub versions_at : ℕ → Pool → Slab Chain → List Version
versions_at i pool chains = shown_in pool (chain_in chains i)

abbrev pub slots_in : Option Chain → List ℕ
slots_in None = []
slots_in (Some c) = c.slots.items

-- each chain is one of the pool's, and no version is in two of them
pub record IsHeld (pool : Pool) (chains : Slab Chain) : Type 0 where
  pub kept : (i : ℕ) (c : Chain) → chain_in chains i ≡ Some c → IsKept pool c
  pub apart : (i j : ℕ) (a b : Chain) → i ≢ j → chain_in chains i ≡ Some a → chain_in chains j ≡ Some b → AreApart a b

-- at one index a chain is added, changed or taken out, and the versions of the others stay
pub record Changes (i : ℕ) (pool : Pool) (chains : Slab Chain) (left_pool : Pool) (left : Slab Chain) : Type 0 where
  pub others : (j : ℕ) → j ≢ i → chain_in left j ≡ chain_in chains j
  pub leaves : LeavesOthersAt pool (slots_in (chain_in chains i)) left_pool (slots_in (chain_in left i))
  pub kept : (c : Chain) → chain_in left i ≡ Some c → IsKept left_pool c
