use Rattle.std.proofs.Common.{◌≡◌, drop}
use Rattle.xa_log.specs.Believed.LeftOut.{has_own}
use Rattle.xa_log.specs.Reading.{bodies_of}
use Rattle.xa_log.proofs.left_out.is_own_left.Given as goal

abbrev pub invariant-loop-body : goal.invariant-loop-body
invariant-loop-body l = has_own l.number l.distance (bodies_of (drop l.body-index l.bodies)) ≡ has_own l.number l.at (bodies_of l.bodies)
