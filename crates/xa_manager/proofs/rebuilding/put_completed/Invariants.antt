use Rattle.std.proofs.Common.{◌≡◌, ℕ, false, List, [], map}
use Rattle.std.specs.List.{AllByRecursion}
use Rattle.xa_branch.specs.Restored.{HasRestored}
use Rattle.xa_model.specs.Durable.{PreparedBranch, Pairwise, named_before, is_prepared}
use Rattle.xa_recovery.specs.Durable.{as_decided}
use Rattle.xa_manager.specs.Rebuilding.{CompletedUpto}
use Rattle.xa_manager.proofs.rebuilding.put_completed.Given as goal

abbrev pub invariant-loop-xid : goal.invariant-loop-xid
invariant-loop-xid l =
    (boot moment : ℕ) (ps : List PreparedBranch) → Pairwise named_before (map as_decided l.decided.entries)
    → AllByRecursion (λ e. is_prepared e.xid ps ≡ false) (map as_decided l.decided.entries) → HasRestored l.fn.branches boot moment ps []
    → CompletedUpto boot moment ps (map as_decided l.decided.entries) (map as_decided l.xid-iterator) l.branches
