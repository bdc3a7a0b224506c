use Rattle.std.proofs.Common.{ℕ, [], map}
use Rattle.xa_branch.specs.Restored.{HasRestored}
use Rattle.xa_model.specs.Durable.{Pairwise, named_apart}
use Rattle.xa_recovery.specs.Durable.{as_prepared}
use Rattle.xa_manager.specs.Rebuilding.{PreparedUpto}
use Rattle.xa_manager.proofs.rebuilding.put_prepared.Given as goal

abbrev pub invariant-loop-timestamp : goal.invariant-loop-timestamp
invariant-loop-timestamp l =
    (boot moment : ℕ) → Pairwise named_apart (map as_prepared l.prepared.entries) → HasRestored l.fn.branches boot moment [] []
    → PreparedUpto boot moment (map as_prepared l.prepared.entries) (map as_prepared l.timestamp-iterator) l.branches
