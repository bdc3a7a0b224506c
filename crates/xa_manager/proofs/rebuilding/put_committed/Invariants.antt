use Rattle.std.proofs.Common.{◌≡◌, ◌++◌, [], map}
use Rattle.xa_limits.specs.declared.TheConstants.{MOST_VALUE}
use Rattle.mv_rules.specs.Within.{IsWithin}
use Rattle.xa_model.specs.Durable.{Pairwise, commits_before}
use Rattle.xa_recovery.specs.Durable.{as_committed}
use Rattle.xa_recovery.specs.Snapshots.{base_body}
use Rattle.xa_manager.specs.Rebuilding.{AreNew, HaveWrites, CommittedUpto, CommittedAreShort, NoneHasWritten}
use Rattle.xa_manager.proofs.rebuilding.put_committed.Given as goal

abbrev pub invariant-loop-timestamp : goal.invariant-loop-timestamp
invariant-loop-timestamp l = record {
  stands : AreNew (map (λ c. c.timestamp) (map as_committed l.fn.committed.entries)) [] → Pairwise commits_before (map as_committed l.fn.committed.entries) → HaveWrites 0 [] l.fn.records
      → CommittedUpto l.least (map as_committed l.fn.committed.entries) (map as_committed l.timestamp-iterator) l.records;
  short : CommittedAreShort (map as_committed l.fn.committed.entries) → IsWithin MOST_VALUE l.fn.records → CommittedAreShort (map as_committed l.timestamp-iterator) × IsWithin MOST_VALUE l.records;
  unwritten : NoneHasWritten l.fn.records → NoneHasWritten l.records;
  bodies : l.bodies.items ++ map base_body l.timestamp-iterator ≡ l.fn.bodies.items ++ map base_body l.fn.committed.entries;
}
