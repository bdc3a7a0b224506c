-- What the maps of a value that lasts stand for: their entries, in the keys' order.
use Rattle.std.specs.Prelude.{ℕ, List, map}
use Rattle.std.specs.BTreeMap.{BTreeMap}
use Rattle.xa_codes.specs.declared.direction.Direction.{Direction}
use Rattle.xa_codes.specs.declared.write.Write.{Write}
use Rattle.xa_xid.specs.Triple.{Triple}
use Rattle.xa_model.specs.State.{Decided}
use Rattle.xa_model.specs.Durable.{CommittedBranch, PreparedBranch}
use Rattle.xa_recovery.specs.declared.durable.InDoubt.{InDoubt}

abbrev pub as_committed : (ℕ × List Write) → CommittedBranch
as_committed e = record { timestamp = e.0; writes = e.1 }

abbrev pub as_prepared : (ℕ × InDoubt) → PreparedBranch
as_prepared e = record { xid = e.1.xid; timestamp = e.0; writes = e.1.writes }

abbrev pub as_decided : (Triple × Direction) → Decided
as_decided e = record { xid = e.0; direction = e.1 }

abbrev pub committed_of : BTreeMap ℕ (List Write) → List CommittedBranch
committed_of m = map as_committed m.entries

abbrev pub prepared_of : BTreeMap ℕ InDoubt → List PreparedBranch
prepared_of m = map as_prepared m.entries

abbrev pub decided_of : BTreeMap Triple Direction → List Decided
decided_of m = map as_decided m.entries
