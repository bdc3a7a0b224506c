-- What a step leaves at the slots of a chain.
use Rattle.std.specs.Prelude.{◌≡◌, ℕ, Bool, not, ◌&&◌, List, Some, None, slice_index_or, if◌then◌else◌}
use Rattle.std.specs.List.{insert, remove}
use Rattle.slab.specs.Slab.{Updates}
use Rattle.mv_chain.specs.declared.version.Version.{Version}
use Rattle.mv_chain.specs.declared.pool.Pool.{Pool}
use Rattle.mv_chain.specs.Chain.{base}
use Rattle.mv_chain.specs.Pool.{at, version_at}

-- the version stands at a slot that had none, and the slot at this index of the chain
abbrev pub IsPutIn : ℕ → Version → Pool → List ℕ → Pool → List ℕ → Type 0
IsPutIn i version old slots new left =
    (slot : ℕ) × (left ≡ insert slots i slot) × (at old slot ≡ None) × Updates old.slab new.slab slot (Some version)

-- the version at this index is committed
abbrev pub is_committed_at : ℕ → List Version → Bool
is_committed_at k versions = not (slice_index_or versions k base).pending

-- it goes, if it is committed and another committed one stands above it
abbrev pub pruned_at : ℕ → Bool → List Version → List Version
pruned_at k based versions = if is_committed_at k versions && based then remove versions k else versions

-- the version at a slot isn't pending
abbrev pub is_decided_at : Pool → ℕ → Bool
is_decided_at pool slot = not (version_at pool slot).pending
