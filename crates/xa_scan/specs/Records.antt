-- The text of a record: its kind, and what it speaks of. Of writes their number is shown.
use Rattle.std.specs.Prelude.{ℕ, List, ◌∷◌, ◌++◌, length, codes}
use Rattle.std.specs.Fmt.{decimal}
use Rattle.xa_codes.specs.declared.direction.Direction.{Direction}
use Rattle.xa_codes.specs.declared.direction.Direction.TheVariants as direction
use Rattle.xa_codes.specs.declared.write.Write.{Write}
use Rattle.xa_xid.specs.Triple.{Triple}
use Rattle.xa_xid.specs.Spelling.{text_of}
use Rattle.xa_record.specs.declared.record.Record.{Record}
use Rattle.xa_record.specs.declared.record.Record.TheVariants.{Opened, Prepared, Committed, Completed, Decided}
use Rattle.xa_record.specs.declared.record.Record.TheVariants.{Forgotten, Base, Held, Known}

-- a timestamp, a blank, and how many writes there are
abbrev pub stamped_text : ℕ → List Write → List ℕ
stamped_text timestamp writes = decimal timestamp ++ 32 ∷ decimal (length writes)

-- the XID before them
abbrev pub branch_text : Triple → ℕ → List Write → List ℕ
branch_text xid timestamp writes = text_of xid ++ 32 ∷ stamped_text timestamp writes

abbrev pub direction_text : Direction → List ℕ
direction_text direction.Commit = codes "commit"
direction_text direction.Rollback = codes "rollback"

-- an XID, and what became of it
abbrev pub directed_text : Triple → Direction → List ℕ
directed_text xid way = text_of xid ++ 32 ∷ direction_text way

abbrev pub record_text : Record → List ℕ
record_text (Opened boot) = codes "opened " ++ decimal boot
record_text (Prepared xid timestamp writes) = codes "prepared " ++ branch_text xid timestamp writes
record_text (Committed xid timestamp writes) = codes "committed " ++ branch_text xid timestamp writes
record_text (Completed xid way) = codes "completed " ++ directed_text xid way
record_text (Decided xid way) = codes "decided " ++ directed_text xid way
record_text (Forgotten xid) = codes "forgotten " ++ text_of xid
record_text (Base timestamp writes) = codes "base " ++ stamped_text timestamp writes
record_text (Held xid timestamp writes) = codes "held " ++ branch_text xid timestamp writes
record_text (Known xid way) = codes "known " ++ directed_text xid way
