use Rattle.std.proofs.Common.{◌≡◌, ◌++◌, map, take, drop}
use Rattle.xa_disk.specs.Plans.{counted}
use Rattle.xa_disk.proofs.plan.count_down.Given as goal

abbrev pub invariant-loop-plan : goal.invariant-loop-plan
invariant-loop-plan l = l.plans ≡ map counted (take l.plan-index l.fn.plans) ++ drop l.plan-index l.fn.plans
