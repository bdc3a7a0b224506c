use Rattle.std.proofs.Common.{length, map}
use Rattle.xa_model.specs.Durable.{Pairwise, commits_before}
use Rattle.xa_recovery.specs.Durable.{as_committed}
use Rattle.xa_recovery.proofs.Upto.{Upto}
use Rattle.xa_recovery.proofs.last.last_writes.Given as goal

abbrev pub invariant-loop-timestamp : goal.invariant-loop-timestamp
invariant-loop-timestamp l = Pairwise commits_before (map as_committed l.fn.all.entries) → Upto (map as_committed l.fn.all.entries) l.all.entries l.written l.last.entries

abbrev pub decreases-loop-timestamp : goal.decreases-loop-timestamp
decreases-loop-timestamp l = length l.all.entries
