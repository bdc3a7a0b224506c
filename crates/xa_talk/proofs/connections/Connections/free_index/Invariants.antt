use Rattle.std.proofs.Common.{length}
use Rattle.xa_talk.proofs.Numbered.{Counted}
use Rattle.xa_talk.proofs.connections.Connections.free_index.Given as goal

abbrev pub invariant-loop-index : goal.invariant-loop-index
invariant-loop-index g l = Counted l.self.numbered.items l.rest l.free

abbrev pub decreases-loop-index : goal.decreases-loop-index
decreases-loop-index g l = length l.rest
