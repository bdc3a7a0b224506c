-- XIDs that are listed, ascending.
use Rattle.std.specs.Prelude.{List, Option, filter, fold, if◌then◌else◌}
use Rattle.std.specs.BTreeSet.{insert_key}
use Rattle.xa_xid.specs.Triple.{Triple, xid_cmp}
use Rattle.xa_model.specs.Listed.{is_above}

-- with an XID, if it is above the given one
abbrev pub with_above : Option Triple → List Triple → Triple → List Triple
with_above after listed xid = if is_above after xid then insert_key xid_cmp listed xid else listed

-- with those that are
abbrev pub with_all_above : Option Triple → List Triple → List Triple → List Triple
with_all_above after listed xids = fold (insert_key xid_cmp) listed (filter (is_above after) xids)
