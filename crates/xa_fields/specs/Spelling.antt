-- How fields are spelled. XIDs have their spelling in xa_xid. Numbers are big-endian.
use Rattle.std.specs.Prelude.{ℕ, List, [], ◌∷◌, ◌++◌, length}
use Rattle.std.specs.Int.{w8, w16, to_be_bytes}
use Rattle.xa_codes.specs.declared.direction.Direction.{Direction}
use Rattle.xa_codes.specs.declared.direction.Direction.TheVariants.{Commit, Rollback}

-- a key or an open info, after its length in one byte
abbrev pub short_bytes : List ℕ → List ℕ
short_bytes bytes = to_be_bytes w8 (length bytes) ++ bytes

-- a value, after its length in two bytes
abbrev pub value_bytes : List ℕ → List ℕ
value_bytes value = to_be_bytes w16 (length value) ++ value

abbrev pub direction_byte : Direction → ℕ
direction_byte Commit = 1
direction_byte Rollback = 2

abbrev pub direction_bytes : Direction → List ℕ
direction_bytes direction = direction_byte direction ∷ []
