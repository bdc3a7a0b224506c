use Rattle.xa_check.proofs.Counting.{count_below}
use Rattle.xa_check.proofs.prepared.prepared_in.Goals as goal

pub one_more-count-requires : goal.one_more-count-requires
one_more-count-requires c =
    count_below c.args.bodies.now c.loop-body.rest.now c.in-Some.others.now c.in-Some.body.now c.loop-body.completed.keys c.loop-body.count
    c.in-Some.ensures.cases.0 c.loop-body.invariant
