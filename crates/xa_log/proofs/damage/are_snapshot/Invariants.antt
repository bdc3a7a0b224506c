use Rattle.std.proofs.Common.{◌≡◌, drop}
use Rattle.xa_log.specs.Believed.Damage.{is_snapshot}
use Rattle.xa_log.specs.Reading.{bodies_of}
use Rattle.xa_log.proofs.damage.are_snapshot.Given as goal

abbrev pub invariant-loop-body : goal.invariant-loop-body
invariant-loop-body l = is_snapshot (bodies_of (drop l.body-index l.bodies)) ≡ is_snapshot (bodies_of l.bodies)
