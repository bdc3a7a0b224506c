-- The lines of a log, in a format.
use Rattle.std.specs.Prelude.{ℕ, ◌+◌, List, [], ◌∷◌, ◌++◌, length, codes, Option, Some, None}
use Rattle.std.specs.Fmt.{decimal}
use Rattle.xa_record.specs.declared.record.Record.{Record}
use Rattle.xa_record.specs.Reading.{record_at}
use Rattle.xa_limits.specs.declared.TheConstants.{AROUND_BODY, FIRST_OFFSET}
use Rattle.xa_scan.specs.Objects.{end_object, object_line}
use Rattle.xa_scan.specs.Records.{record_text}
use Rattle.xa_scan.specs.declared.format.Format.{Format}
use Rattle.xa_scan.specs.declared.format.Format.TheVariants.{Text, Json}

-- the text of a record that was read, or that there is none
abbrev pub read_text : Option Record → List ℕ
read_text (Some r) = record_text r
read_text None = codes "malformed"

abbrev pub body_text : List ℕ → List ℕ
body_text body = read_text (record_at body)

-- a record's offset, a blank and its text; or its object
abbrev pub line_at : Format → ℕ → List ℕ → List ℕ
line_at Text offset body = decimal offset ++ 32 ∷ body_text body ++ 10 ∷ []
line_at Json offset body = object_line offset (record_at body)

-- A record has its body, a length and a digest, and the next one stands after it.
abbrev pub behind : ℕ → List (List ℕ) → ℕ
behind offset [] = offset
behind offset (body ∷ bodies) = behind (offset + (AROUND_BODY + length body)) bodies

-- a line for each record, the first one's at this offset
abbrev pub lines_from : Format → ℕ → List (List ℕ) → List ℕ
lines_from format offset [] = []
lines_from format offset (body ∷ bodies) =
    line_at format offset body ++ lines_from format (offset + (AROUND_BODY + length body)) bodies

-- where the next record would begin
abbrev pub end_line : Format → ℕ → List ℕ
end_line Text offset = codes "end " ++ decimal offset ++ 10 ∷ []
end_line Json offset = end_object offset

-- the lines of a log that has these bodies
abbrev pub scan_text : Format → List (List ℕ) → List ℕ
scan_text format bodies = lines_from format FIRST_OFFSET bodies ++ end_line format (behind FIRST_OFFSET bodies)
