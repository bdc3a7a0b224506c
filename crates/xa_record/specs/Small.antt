-- The records without writes.
use Rattle.xa_record.specs.declared.record.Record.{Record}
use Rattle.xa_record.specs.declared.record.Record.TheVariants.{Opened, Prepared, Committed, Completed, Decided, Forgotten, Base, Held, Known}

abbrev pub IsSmall : Record → Type 0
IsSmall (Opened boot) = Unit {0}
IsSmall (Prepared xid timestamp ws) = ⊥
IsSmall (Committed xid timestamp ws) = ⊥
IsSmall (Completed xid direction) = Unit {0}
IsSmall (Decided xid direction) = Unit {0}
IsSmall (Forgotten xid) = Unit {0}
IsSmall (Base timestamp ws) = ⊥
IsSmall (Held xid timestamp ws) = ⊥
IsSmall (Known xid direction) = Unit {0}
