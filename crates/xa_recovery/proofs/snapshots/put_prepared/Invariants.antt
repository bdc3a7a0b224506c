use Rattle.std.proofs.Common.{◌≡◌, ◌++◌, map}
use Rattle.xa_recovery.specs.Snapshots.{held_body}
use Rattle.xa_recovery.proofs.snapshots.put_prepared.Given as goal

abbrev pub invariant-loop-timestamp : goal.invariant-loop-timestamp
invariant-loop-timestamp l = l.bodies.items ++ map held_body l.timestamp-iterator ≡ l.fn.bodies.items ++ map held_body l.fn.prepared.entries
