use Rattle.std.proofs.Common.{◌≡◌, ◌++◌, map}
use Rattle.xa_recovery.specs.Snapshots.{base_body}
use Rattle.xa_recovery.proofs.snapshots.put_committed.Given as goal

abbrev pub invariant-loop-timestamp : goal.invariant-loop-timestamp
invariant-loop-timestamp l = l.bodies.items ++ map base_body l.timestamp-iterator ≡ l.fn.bodies.items ++ map base_body l.fn.committed.entries
