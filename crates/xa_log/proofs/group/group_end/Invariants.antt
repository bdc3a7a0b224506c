use Rattle.std.proofs.Common.{◌≡◌, ◌+◌, take}
use Rattle.xa_log.specs.Believed.Group.{group_bytes}
use Rattle.xa_log.specs.Reading.{bodies_of}
use Rattle.xa_log.proofs.group.group_end.Given as goal

abbrev pub invariant-loop-body : goal.invariant-loop-body
invariant-loop-body l = l.left + l.from + group_bytes (take l.body-index (bodies_of l.bodies)) + 4 ≡ l.most
