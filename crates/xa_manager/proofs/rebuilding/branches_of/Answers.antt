use Rattle.std.proofs.Common.{map, refl}
use Rattle.xa_recovery.specs.Durable.{as_prepared, as_decided}
use Rattle.xa_manager.proofs.NewTables.{branches_stand}
use Rattle.xa_manager.proofs.rebuilding.branches_of.Goals as goal

pub returns : goal.returns
returns c = λ s h now.
    branches_stand c.args.durable.now c.args.boot c.args.moment s (map as_prepared c.prepared.result.now.entries) (map as_decided c.decided.result.now.entries) c.new-branches.result c.put_prepared.new.branches c.put_completed.new.branches
    c.prepared.ensures c.decided.ensures (c.new-branches.ensures.restored refl) c.in_ok-put_prepared.ensures c.in_ok-put_completed.ensures h now
