-- The body of a record: a byte for its kind, and its fields. Numbers are big-endian.
use Rattle.std.specs.Prelude.{ℕ, List, [], ◌∷◌, ◌++◌, length, flat_map, Option, Some, None}
use Rattle.std.specs.Int.{w16, w32, w64, to_be_bytes}
use Rattle.xa_codes.specs.declared.write.Write.{Write}
use Rattle.xa_xid.specs.Triple.{Triple}
use Rattle.xa_xid.specs.Spelling.{bytes_of}
use Rattle.xa_fields.specs.Spelling.{short_bytes, value_bytes, direction_bytes}
pub use Rattle.xa_fields.specs.Spelling.{direction_byte}
use Rattle.xa_record.specs.declared.record.Record.{Record}
use Rattle.xa_record.specs.declared.record.Record.TheVariants.{Opened, Prepared, Committed, Completed, Decided, Forgotten, Base, Held, Known}

-- 0 for what was deleted, or 1 and the value
abbrev pub left_bytes : Option (List ℕ) → List ℕ
left_bytes None = 0 ∷ []
left_bytes (Some value) = 1 ∷ value_bytes value

-- the key, and what is left at it
abbrev pub write_bytes : Write → List ℕ
write_bytes w = short_bytes w.key ++ left_bytes w.value

-- eight bytes of timestamp, two bytes of count, and the writes
abbrev pub stamped_bytes : ℕ → List Write → List ℕ
stamped_bytes timestamp ws = to_be_bytes w64 timestamp ++ (to_be_bytes w16 (length ws) ++ flat_map write_bytes ws)

-- the XID before them
abbrev pub branch_bytes : Triple → ℕ → List Write → List ℕ
branch_bytes xid timestamp ws = bytes_of xid ++ stamped_bytes timestamp ws

abbrev pub spelled : Record → List ℕ
spelled (Opened boot) = 1 ∷ to_be_bytes w32 boot
spelled (Prepared xid timestamp ws) = 2 ∷ branch_bytes xid timestamp ws
spelled (Committed xid timestamp ws) = 3 ∷ branch_bytes xid timestamp ws
spelled (Completed xid direction) = 4 ∷ (bytes_of xid ++ direction_bytes direction)
spelled (Decided xid direction) = 5 ∷ (bytes_of xid ++ direction_bytes direction)
spelled (Forgotten xid) = 6 ∷ bytes_of xid
spelled (Base timestamp ws) = 7 ∷ stamped_bytes timestamp ws
spelled (Held xid timestamp ws) = 8 ∷ branch_bytes xid timestamp ws
spelled (Known xid direction) = 9 ∷ (bytes_of xid ++ direction_bytes direction)
