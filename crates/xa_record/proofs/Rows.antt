-- Records whose bodies are known: the definitions compute to them, and read them back.
use Rattle.std.proofs.Common.{◌≡◌, ℕ, pos, List, [], ◌∷◌, Some, None, refl}
use Rattle.xa_codes.specs.declared.write.Write.{Write}
use Rattle.xa_xid.specs.Triple.{Triple}
use Rattle.xa_xid.specs.Reading.{parts_at, xid_at}
use Rattle.xa_fields.specs.Reading.{key_at, value_at, direction_at, name_at}
use Rattle.xa_record.specs.declared.record.Record.{Record}
use Rattle.xa_record.specs.declared.record.Record.TheVariants.{Opened, Prepared, Base, Held, Known}
use Rattle.xa_codes.specs.declared.direction.Direction.TheVariants.{Rollback}
use Rattle.xa_record.specs.Reading.{xid_front, last_direction, next_key, left_at, write_at, writes_at, head_at, stamped_at, opened_at, branch_at, directed_at, record_at}
use Rattle.xa_record.specs.Spelling.{spelled}

abbrev name : Triple
name = record { format = pos 1; gtrid = 170 ∷ []; bqual = 187 ∷ [] }

abbrev written : List Write
written = record { key = 107 ∷ []; value = Some (118 ∷ []) } ∷ []

abbrev prepared : Record
prepared = Prepared name 4294967297 written

abbrev written_bytes : List ℕ
written_bytes = 0 ∷ 0 ∷ 0 ∷ 1 ∷ 0 ∷ 0 ∷ 0 ∷ 1 ∷ 0 ∷ 1 ∷ 1 ∷ 107 ∷ 1 ∷ 0 ∷ 1 ∷ 118 ∷ []

abbrev prepared_body : List ℕ
prepared_body = 2 ∷ 0 ∷ 0 ∷ 0 ∷ 1 ∷ 1 ∷ 1 ∷ 170 ∷ 187 ∷ written_bytes

prepared_spelled : spelled prepared ≡ prepared_body
prepared_spelled = refl

prepared_read : record_at prepared_body ≡ Some prepared
unfolding record_at branch_at stamped_at head_at writes_at write_at left_at value_at next_key key_at xid_front name_at xid_at parts_at
prepared_read = refl

opened_spelled : spelled (Opened 1) ≡ 1 ∷ 0 ∷ 0 ∷ 0 ∷ 1 ∷ []
opened_spelled = refl

opened_read : record_at (1 ∷ 0 ∷ 0 ∷ 0 ∷ 0 ∷ []) ≡ None
unfolding record_at opened_at
opened_read = refl

-- ---- a snapshot's

abbrev held_body : List ℕ
held_body = 8 ∷ 0 ∷ 0 ∷ 0 ∷ 1 ∷ 1 ∷ 1 ∷ 170 ∷ 187 ∷ written_bytes

abbrev known_body : List ℕ
known_body = 9 ∷ 0 ∷ 0 ∷ 0 ∷ 1 ∷ 1 ∷ 1 ∷ 170 ∷ 187 ∷ 2 ∷ []

base_spelled : spelled (Base 4294967297 written) ≡ 7 ∷ written_bytes
base_spelled = refl

base_read : record_at (7 ∷ written_bytes) ≡ Some (Base 4294967297 written)
unfolding record_at stamped_at head_at writes_at write_at left_at value_at next_key key_at
base_read = refl

held_spelled : spelled (Held name 4294967297 written) ≡ held_body
held_spelled = refl

held_read : record_at held_body ≡ Some (Held name 4294967297 written)
unfolding record_at branch_at stamped_at head_at writes_at write_at left_at value_at next_key key_at xid_front name_at xid_at parts_at
held_read = refl

known_spelled : spelled (Known name Rollback) ≡ known_body
known_spelled = refl

known_read : record_at known_body ≡ Some (Known name Rollback)
unfolding record_at directed_at last_direction direction_at xid_front name_at xid_at parts_at
known_read = refl

unknown_kind : (rest : List ℕ) → record_at (10 ∷ rest) ≡ None
unfolding record_at
unknown_kind rest = refl
