-- Which branches are prepared in the records of a log.
use Rattle.std.specs.Prelude.{ℕ, ◌+◌, Bool, true, false, not, if◌then◌else◌, List, [], ◌∷◌, Option, Some, None}
use Rattle.std.specs.List.{list_any}
use Rattle.std.specs.BTreeMap.{is_at}
use Rattle.std.specs.BTreeSet.{insert_key}
use Rattle.xa_record.specs.Reading.{record_at}
use Rattle.xa_record.specs.declared.record.Record.{Record}
use Rattle.xa_record.specs.declared.record.Record.TheVariants.{Prepared, Completed}
use Rattle.xa_xid.specs.Triple.{Triple, xid_cmp}

-- Whether a record prepares a branch that is none of these completed ones, and which are completed with it: XIDs in their
-- order.
abbrev pub with_record : List Triple → Option Record → Bool × List Triple
with_record completed (Some (Prepared xid timestamp writes)) = (not (list_any (is_at (xid_cmp xid)) completed), completed)
with_record completed (Some (Completed xid way)) = (false, insert_key xid_cmp completed xid)
with_record completed _ = (false, completed)

abbrev pub with_body : List Triple → List ℕ → Bool × List Triple
with_body completed body = with_record completed (record_at body)

-- the XIDs that are completed in records
abbrev pub completed_in : List (List ℕ) → List Triple
completed_in [] = []
completed_in (body ∷ bodies) = (with_body (completed_in bodies) body).1

-- how many records prepare a branch that none after them completes
abbrev pub prepared_in : List (List ℕ) → ℕ
prepared_in [] = 0
prepared_in (body ∷ bodies) =
    if (with_body (completed_in bodies) body).0 then prepared_in bodies + 1 else prepared_in bodies
