-- What a checkpoint writes of branches.
use Rattle.std.specs.Prelude.{ℕ, ◌≡◌, List, find, option_map}
use Rattle.std.specs.BTreeMap.{BTreeMap, get}
use Rattle.xa_codes.specs.declared.direction.Direction.{Direction}
use Rattle.xa_xid.specs.Triple.{Triple, xid_eq, xid_cmp}
use Rattle.xa_model.specs.State.{Decided}
use Rattle.xa_model.specs.Durable.{PreparedBranch}

-- each branch in doubt by its XID, with its timestamp, and no other
abbrev pub TimesOf : List PreparedBranch → BTreeMap Triple ℕ → Type 0
TimesOf ps times =
    (xid : Triple) → get xid_cmp times xid ≡ option_map (λ p. p.timestamp) (find (λ p. xid_eq p.xid xid) ps)

-- an XID that the operator completed, with its direction
abbrev pub decided_as : Decided → (Triple × Direction)
decided_as d = (d.xid, d.direction)
