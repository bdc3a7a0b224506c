use Rattle.std.proofs.Common.{◌∙◌, arith, inl, inr}
use Rattle.xa_log.proofs.Standings.{part_goes_on}
use Rattle.xa_log.proofs.standing.is_part.Goals as goal
use Rattle.xa_log.proofs.standing.is_part.Goals.{else-front-at-ne0-via-then-front-at-ne0+else-front-at, else-front-at-ne0-via-else-front-at-ne0}

pub loop-at-preserved : goal.loop-at-preserved
loop-at-preserved c =
    c.loop-at.invariant ∙ part_goes_on c.args.written.now c.args.front.now c.loop-at.at (omega arith) (omega arith)
    (elim c.else-front-at-ne0.branch [
      | else-front-at-ne0-via-then-front-at-ne0+else-front-at w ↦ inr (omega arith)
      | else-front-at-ne0-via-else-front-at-ne0 w ↦ inl (omega arith)
    ])
