use Rattle.std.proofs.Common.{arith}
use Rattle.xa_manager.proofs.NextBoots.{body_at}
use Rattle.xa_manager.proofs.trimming.are_bodies.Goals as goal
use Rattle.xa_manager.proofs.trimming.are_bodies.Goals.{then-is_empty-via-then-is_empty, then-is_empty-via-else-is_empty+then-len-most}

pub returns-then-is_empty-clause-other : goal.returns-then-is_empty-clause-other
returns-then-is_empty-clause-other c = λ all.
    let body = body_at c.args.bodies.now c.loop-body.body-index c.body-item.result c.loop-body-test.true c.body-item.is all in
    elim c.then-is_empty.branch [
      | then-is_empty-via-then-is_empty w ↦ absurd (grind (arith, body.some, c.is_empty.ensures, w.if-is_empty))
      | then-is_empty-via-else-is_empty+then-len-most w ↦ absurd (grind (arith, body.small, w.len.ensures, w.if-len-most, c.newest.ensures, c.most_body-most.ensures.exact))
    ]
