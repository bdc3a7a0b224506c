use Rattle.std.proofs.Common.{length}
use Rattle.xa_server.specs.Believed.Watching.{IsSeenLast}
use Rattle.xa_server.proofs.Gathering.{Gathers}
use Rattle.xa_server.proofs.engine.gather.Given as goal

abbrev pub invariant-loop-door : goal.invariant-loop-door
invariant-loop-door g l = record {
  gathers : Gathers (λ d. d.handle.asker) l.share l.ended.items l.fn.ended.items;
  seen : IsSeenLast l.seen l.share.told;
}

abbrev pub decreases-loop-door : goal.decreases-loop-door
decreases-loop-door g l = length l.ended.items
