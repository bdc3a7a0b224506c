-- How the XIDs of a session's own associations change.
use Rattle.std.specs.Prelude.{◌≡◌, Bool, cond}
use Rattle.std.specs.BTreeSet.{BTreeSet, contains}
use Rattle.std.specs.Ordering.{is_eq}
use Rattle.xa_xid.specs.Triple.{Triple, xid_cmp}

-- an XID is among these from now on, or no longer, and no other changes
abbrev pub SetsOne : BTreeSet Triple → Triple → Bool → BTreeSet Triple → Type 0
SetsOne own xid b own' =
    (q : Triple) → contains xid_cmp own' q ≡ cond (is_eq (xid_cmp xid q)) b (contains xid_cmp own q)
