use Rattle.std.proofs.Common.{◌≡◌, ◌+◌, length, take}
use Rattle.xa_log.specs.Believed.Chain.{text}
use Rattle.xa_log.proofs.checkpointing.end_of.Given as goal

abbrev pub invariant-loop-body : goal.invariant-loop-body
invariant-loop-body l = l.left + length (text l.fn.format (take l.body-index l.bodies)) + 4 ≡ l.most
