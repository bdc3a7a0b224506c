use Rattle.std.proofs.Common.{take}
use Rattle.std.specs.List.{AllByRecursion}
use Rattle.xa_log.specs.Believed.Chain.{IsBody}
use Rattle.xa_log.specs.Reading.{bodies_of}
use Rattle.xa_log_tests.proofs.tests.groups.are_bodies_of.Given as goal

abbrev pub invariant-loop-body : goal.invariant-loop-body
invariant-loop-body g l = AllByRecursion (IsBody l.log.format) (bodies_of (take l.body-index l.bodies))
