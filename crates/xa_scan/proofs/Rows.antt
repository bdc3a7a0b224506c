-- The worked rows, computed.
use Rattle.std.proofs.Common.{refl}
use Rattle.std.specs.Fmt.{digits}
use Rattle.xa_xid.specs.Reading.{parts_at, xid_at}
use Rattle.xa_fields.specs.Reading.{key_at, value_at, direction_at, name_at}
use Rattle.xa_record.specs.Reading.{record_at, opened_at, branch_at, directed_at, forgotten_at, stamped_at, head_at, xid_front, last_direction, write_at, writes_at, next_key, left_at}
use Rattle.xa_scan.specs.Worked.{Prepared, Held, Based, Known, Others, Empty, PreparedObjects, HeldObjects, BasedObjects, OtherObjects}

pub prepared : Prepared
unfolding record_at opened_at branch_at stamped_at head_at xid_front name_at xid_at parts_at digits write_at writes_at next_key key_at left_at value_at
prepared = refl

pub held : Held
unfolding record_at opened_at branch_at stamped_at head_at xid_front name_at xid_at parts_at digits write_at writes_at next_key key_at left_at value_at
held = refl

pub based : Based
unfolding record_at opened_at branch_at stamped_at head_at xid_front name_at xid_at parts_at digits write_at writes_at next_key key_at left_at value_at
based = refl

pub known : Known
unfolding record_at opened_at branch_at directed_at last_direction direction_at stamped_at head_at xid_front name_at xid_at parts_at digits write_at writes_at next_key key_at left_at value_at
known = refl

pub others : Others
unfolding record_at opened_at branch_at directed_at last_direction direction_at forgotten_at stamped_at head_at xid_front name_at xid_at parts_at digits write_at writes_at next_key key_at left_at value_at
others = refl

pub empty : Empty
unfolding digits
empty = refl

pub prepared_objects : PreparedObjects
unfolding record_at opened_at branch_at directed_at last_direction direction_at forgotten_at stamped_at head_at xid_front name_at xid_at parts_at digits write_at writes_at next_key key_at left_at value_at
prepared_objects = refl

pub held_objects : HeldObjects
unfolding record_at opened_at branch_at directed_at last_direction direction_at forgotten_at stamped_at head_at xid_front name_at xid_at parts_at digits write_at writes_at next_key key_at left_at value_at
held_objects = refl

pub based_objects : BasedObjects
unfolding record_at opened_at branch_at directed_at last_direction direction_at forgotten_at stamped_at head_at xid_front name_at xid_at parts_at digits write_at writes_at next_key key_at left_at value_at
based_objects = refl

pub other_objects : OtherObjects
unfolding record_at opened_at branch_at directed_at last_direction direction_at forgotten_at stamped_at head_at xid_front name_at xid_at parts_at digits write_at writes_at next_key key_at left_at value_at
other_objects = refl
