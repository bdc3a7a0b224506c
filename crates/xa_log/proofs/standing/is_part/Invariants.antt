use Rattle.std.proofs.Common.{◌≡◌, drop}
use Rattle.xa_log.specs.Believed.Standing.{is_part_of}
use Rattle.xa_log.proofs.standing.is_part.Given as goal

abbrev pub invariant-loop-at : goal.invariant-loop-at
invariant-loop-at l = is_part_of l.written l.front ≡ is_part_of (drop l.at l.written) (drop l.at l.front)
