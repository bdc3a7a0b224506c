use Rattle.std.proofs.Common.{◌≡◌, ◌++◌, ◌≤◌, List, ℕ, length}
use Rattle.xa_log.specs.Believed.Group.{group_bytes}
use Rattle.xa_log.specs.Reading.{bodies_of}
use Rattle.xa_manager.proofs.Survivors.{IsLeft}
use Rattle.xa_manager.proofs.restarting.count_last.Given as goal

abbrev pub invariant-records : goal.invariant-records
invariant-records l = record {
  within : l.first ≤ length l.bodies;
  left : (earlier later : List (List ℕ)) → bodies_of l.bodies ≡ earlier ++ later → l.fn.bytes ≡ group_bytes later → IsLeft (bodies_of l.bodies) earlier later l.first l.left;
}

abbrev pub decreases-records : goal.decreases-records
decreases-records l = l.first
