use Rattle.std.proofs.Common.{arith, ◌+◌}
use Rattle.xa_log.proofs.Mend.{with_empty, with_large, with_cut, with_says, slice_is}
use Rattle.xa_log.proofs.mending.chained_with.Goals as goal
use Rattle.xa_log.proofs.mending.chained_with.Goals.{then-size-eq0-via-then-size-eq0, then-size-eq0-via-else-size-eq0+then-size-gt-MOST_BODY_OF_ONE, then-size-eq0-via-else-size-eq0+else-size-gt-MOST_BODY_OF_ONE+then-front-size}

pub returns-then-size-eq0-clause-chains : goal.returns-then-size-eq0-clause-chains
returns-then-size-eq0-clause-chains c format bytes front = elim c.then-size-eq0.branch [
  | then-size-eq0-via-then-size-eq0 w ↦ with_empty format c.args.prev.now bytes c.args.size w.if-size-eq0.true
  | then-size-eq0-via-else-size-eq0+then-size-gt-MOST_BODY_OF_ONE w ↦ with_large format c.args.prev.now bytes c.args.size (omega arith)
  | then-size-eq0-via-else-size-eq0+else-size-gt-MOST_BODY_OF_ONE+then-front-size w ↦
      with_cut format c.args.prev.now c.args.front.now bytes c.args.size front (omega arith) (omega arith)
]

pub returns-clause-chains : goal.returns-clause-chains
returns-clause-chains c format bytes front =
    with_says format c.args.prev.now c.args.front.now bytes _ _ c.args.size front (omega arith) (omega arith) (omega arith)
    (slice_is c.args.front.now 4 _ c.args.size (omega arith)) (slice_is c.args.front.now (4 + c.args.size) _ 32 (omega arith)) c.chained.result c.chained.ensures
