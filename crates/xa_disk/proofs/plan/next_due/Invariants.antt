use Rattle.std.proofs.Common.{◌≡◌, take}
use Rattle.xa_disk.specs.Plans.{due}
use Rattle.xa_disk.proofs.plan.next_due.Given as goal

abbrev pub invariant-loop-plan : goal.invariant-loop-plan
invariant-loop-plan l = l.found ≡ due (take l.plan-index l.plans) 1
