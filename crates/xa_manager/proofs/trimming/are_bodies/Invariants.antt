use Rattle.std.proofs.Common.{take}
use Rattle.std.specs.List.{AllByRecursion}
use Rattle.xa_log.specs.Believed.Chain.{IsBody, newest}
use Rattle.xa_manager.proofs.trimming.are_bodies.Given as goal

abbrev pub invariant-loop-body : goal.invariant-loop-body
invariant-loop-body l = AllByRecursion (IsBody newest) (take l.body-index l.bodies)
