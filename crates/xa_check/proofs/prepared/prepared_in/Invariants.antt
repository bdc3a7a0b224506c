use Rattle.std.proofs.Common.{length}
use Rattle.xa_check.proofs.Counting.{Counted}
use Rattle.xa_log.specs.Reading.{bodies_of}
use Rattle.xa_check.proofs.prepared.prepared_in.Given as goal

-- what was counted is that of the bodies that are done
abbrev pub invariant-loop-body : goal.invariant-loop-body
invariant-loop-body l = Counted (bodies_of l.bodies) (bodies_of l.rest) l.completed.keys l.count

abbrev pub decreases-loop-body : goal.decreases-loop-body
decreases-loop-body l = length l.rest
