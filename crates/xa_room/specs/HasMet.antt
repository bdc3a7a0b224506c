-- Which places were met, as bits.
use Rattle.std.specs.Prelude.{◌≡◌, ℕ, ◌+◌, ◌<◌, List, length, Bool, Some, slice_get}
use Rattle.xa_room.specs.Believed.Audit.{is_met}

-- the bit of each place says whether it was met
abbrev pub HasMet : List Bool → List ℕ → Type 0
HasMet bits met = (p : ℕ) → p < length bits → slice_get bits p ≡ Some (is_met met (p + 1))
