-- The lines of a log, each a JSON object. Of writes their keys and values are shown, in hexadecimal, and null for a delete.
use Rattle.std.specs.Prelude.{ℕ, List, [], ◌∷◌, ◌++◌, codes, flat_map, Option, Some, None}
use Rattle.std.specs.Fmt.{decimal}
use Rattle.xa_codes.specs.declared.direction.Direction.{Direction}
use Rattle.xa_codes.specs.declared.write.Write.{Write}
use Rattle.xa_record.specs.declared.record.Record.{Record}
use Rattle.xa_record.specs.declared.record.Record.TheVariants.{Opened, Prepared, Committed, Completed, Decided}
use Rattle.xa_record.specs.declared.record.Record.TheVariants.{Forgotten, Base, Held, Known}
use Rattle.xa_scan.specs.Records.{direction_text}
use Rattle.xa_xid.specs.Spelling.{hex, text_of}
use Rattle.xa_xid.specs.Triple.{Triple}

-- a text between quotation marks
abbrev pub quoted : List ℕ → List ℕ
quoted text = 34 ∷ text ++ 34 ∷ []

-- a name and its number, or its text, after a comma
abbrev pub number_member : List ℕ → ℕ → List ℕ
number_member name n = (44 ∷ quoted name) ++ 58 ∷ decimal n

abbrev pub text_member : List ℕ → List ℕ → List ℕ
text_member name text = (44 ∷ quoted name) ++ 58 ∷ quoted text

abbrev pub value_object : Option (List ℕ) → List ℕ
value_object None = codes "null"
value_object (Some value) = quoted (hex value)

-- a write: its key and its value
abbrev pub write_object : Write → List ℕ
write_object write =
    codes "{\"key\":" ++ quoted (hex write.key) ++ codes ",\"value\":" ++ value_object write.value ++ 125 ∷ []

-- the writes that are left, each after a comma
abbrev pub more_objects : List Write → List ℕ
more_objects writes = flat_map (λ write. 44 ∷ write_object write) writes

-- with commas between them
abbrev pub writes_objects : List Write → List ℕ
writes_objects [] = []
writes_objects (write ∷ writes) = write_object write ++ more_objects writes

abbrev pub writes_member : List Write → List ℕ
writes_member writes = codes ",\"writes\":[" ++ writes_objects writes ++ 93 ∷ []

-- what kind of record begins at this offset
abbrev pub front : List ℕ → ℕ → List ℕ
front kind offset = codes "{\"record\":" ++ quoted kind ++ number_member (codes "offset") offset

abbrev pub stamped_members : ℕ → List Write → List ℕ
stamped_members timestamp writes = number_member (codes "timestamp") timestamp ++ writes_member writes

abbrev pub branch_members : Triple → ℕ → List Write → List ℕ
branch_members xid timestamp writes = text_member (codes "xid") (text_of xid) ++ stamped_members timestamp writes

abbrev pub directed_members : Triple → Direction → List ℕ
directed_members xid way = text_member (codes "xid") (text_of xid) ++ text_member (codes "direction") (direction_text way)

abbrev pub kind_text : Record → List ℕ
kind_text (Opened boot) = codes "opened"
kind_text (Prepared xid timestamp writes) = codes "prepared"
kind_text (Committed xid timestamp writes) = codes "committed"
kind_text (Completed xid way) = codes "completed"
kind_text (Decided xid way) = codes "decided"
kind_text (Forgotten xid) = codes "forgotten"
kind_text (Base timestamp writes) = codes "base"
kind_text (Held xid timestamp writes) = codes "held"
kind_text (Known xid way) = codes "known"

-- what a record speaks of
abbrev pub record_members : Record → List ℕ
record_members (Opened boot) = number_member (codes "boot") boot
record_members (Prepared xid timestamp writes) = branch_members xid timestamp writes
record_members (Committed xid timestamp writes) = branch_members xid timestamp writes
record_members (Completed xid way) = directed_members xid way
record_members (Decided xid way) = directed_members xid way
record_members (Forgotten xid) = text_member (codes "xid") (text_of xid)
record_members (Base timestamp writes) = stamped_members timestamp writes
record_members (Held xid timestamp writes) = branch_members xid timestamp writes
record_members (Known xid way) = directed_members xid way

-- the object of a record, but for the mark that ends it
abbrev pub record_object : ℕ → Record → List ℕ
record_object at r = front (kind_text r) at ++ record_members r

-- the same of what was read, which may be no record
abbrev pub read_object : ℕ → Option Record → List ℕ
read_object at (Some r) = record_object at r
read_object at None = front (codes "malformed") at

-- the line of a record
abbrev pub object_line : ℕ → Option Record → List ℕ
object_line at read = read_object at read ++ 125 ∷ 10 ∷ []

-- where the next record would begin
abbrev pub end_object : ℕ → List ℕ
end_object offset = codes "{\"end\":" ++ decimal offset ++ 125 ∷ 10 ∷ []
