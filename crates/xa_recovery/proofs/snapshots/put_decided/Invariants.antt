use Rattle.std.proofs.Common.{◌≡◌, ◌++◌, map}
use Rattle.xa_recovery.specs.Snapshots.{known_body}
use Rattle.xa_recovery.proofs.snapshots.put_decided.Given as goal

abbrev pub invariant-loop-xid : goal.invariant-loop-xid
invariant-loop-xid l = l.bodies.items ++ map known_body l.xid-iterator ≡ l.fn.bodies.items ++ map known_body l.decided.entries
