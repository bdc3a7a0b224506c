use Rattle.std.proofs.Common.{take}
use Rattle.xa_recovery.specs.Rebuilding.{HasRead}
use Rattle.xa_recovery.proofs.records.rebuild.Given as goal

abbrev pub invariant-loop-index : goal.invariant-loop-index
invariant-loop-index l = HasRead l.rebuilding (take l.index l.records)
