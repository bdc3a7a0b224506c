use Rattle.std.proofs.Common.{rules, leb, ℕ}
use Rattle.std.proofs.lemmas.List.Sorted.{IsPartitionPoint-from_clause, IsPartitionedBy-leb}
use Rattle.mv_chain.specs.Pool.{version_at}
use Rattle.mv_chain.proofs.Sought.{ascends, is_index_in}
use Rattle.mv_chain.proofs.finding.find.Goals as goal

pub returns-clause-index : goal.returns-clause-index
returns-clause-index c = λ h.
    let stamp = λ (s : ℕ). (version_at c.args.pool.now s).timestamp in
    let parted = IsPartitionedBy-leb stamp c.args.slots.now c.args.ts (ascends c.args.pool.now c.args.slots.now h) in
    is_index_in c.args.pool.now c.args.ts c.partition_point.result c.args.slots.now c.partition_point.ensures.bound
    (IsPartitionPoint-from_clause (λ s. leb (stamp s) c.args.ts) _ _ c.partition_point.ensures.partitioned parted (λ a r q k. search rules))
