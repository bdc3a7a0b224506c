-- Which XIDs recovery lists of what lasts.
use Rattle.std.specs.Prelude.{ℕ, Bool, true, Option, Some, None, List, [], ◌++◌, map, filter, take, fold}
use Rattle.std.specs.BTreeSet.{insert_key}
use Rattle.std.specs.Ordering.{is_lt}
use Rattle.xa_xid.specs.Triple.{Triple, xid_cmp}
use Rattle.xa_model.specs.Durable.{Durable}

-- those in doubt and those that the operator completed
abbrev pub lasting_names : Durable → List Triple
lasting_names d = map (λ p. p.xid) d.prepared ++ map (λ e. e.xid) d.decided

-- each takes its place by the XIDs' order, once
abbrev pub in_order : List Triple → List Triple
in_order xids = fold (insert_key xid_cmp) [] xids

abbrev pub listed : Durable → List Triple
listed d = in_order (lasting_names d)

abbrev pub is_above : Option Triple → Triple → Bool
is_above None xid = true
is_above (Some after) xid = is_lt (xid_cmp after xid)

-- the first of those listed that are above the given one, or of all
abbrev pub list_after : Option Triple → ℕ → Durable → List Triple
list_after after count d = take count (filter (is_above after) (listed d))
