use Rattle.std.proofs.Common.{take}
use Rattle.xa_log.specs.Buffer.{HoldsEach}
use Rattle.xa_log_tests.proofs.log_pairs.are_held.Given as goal

abbrev pub invariant-loop-body : goal.invariant-loop-body
invariant-loop-body g l = HoldsEach l.log (take l.body-index l.bodies)
