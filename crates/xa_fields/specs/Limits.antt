-- Which byte strings, keys and values have a spelling of their own.
use Rattle.std.specs.Prelude.{ℕ, ◌≤◌, List, length}
use Rattle.xa_limits.specs.declared.TheConstants.{MOST_KEY, MOST_VALUE}
use Rattle.xa_fields.specs.declared.reading.TheConstants.{MOST_SHORT}

abbrev pub IsShort : List ℕ → Type 0
IsShort bytes = length bytes ≤ MOST_SHORT

abbrev pub IsKey : List ℕ → Type 0
IsKey key = (1 ≤ length key) × (length key ≤ MOST_KEY)

abbrev pub IsValue : List ℕ → Type 0
IsValue value = length value ≤ MOST_VALUE
