-- The bytes of a value, wherever they are.
use Rattle.std.specs.Prelude.{ℕ, List, take, drop, Option, Some, None, Bool, true, false}
use Rattle.mv_chain.specs.declared.version.Stored.{Stored}
use Rattle.mv_chain.specs.declared.version.Stored.TheVariants.{Absent, Own, Within}

abbrev pub stored_bytes : Stored → Option (List ℕ)
stored_bytes Absent = None
stored_bytes (Own bytes) = Some bytes.items
stored_bytes (Within bytes start len) = Some (take len (drop start bytes))

abbrev pub is_deleted : Option (List ℕ) → Bool
is_deleted None = true
is_deleted (Some value) = false
