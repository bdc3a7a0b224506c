use Rattle.std.proofs.Common.{map}
use Rattle.xa_recovery.proofs.Spelled.{before_is, taken_of_all, whole_is}
use Rattle.xa_recovery.proofs.bodies.rebuild_log.Goals as goal

pub returns-in-Err : goal.returns-in-Err
returns-in-Err c =
    let i = c.loop-body.invariant in
    let ys = c.loop-body.yielded in
    let body = c.deref.result.now in
    taken_of_all c.in-Err.fault _ _ _ (whole_is c.args.bodies.items ys _ _ c.in-Some.body body i.whole c.in-Some.ensures.steps.0 c.deref.ensures.value)
    (c.in-Err.ensures (map (λ b. b.items) ys) (before_is ys c.loop-body.index i.counted) i.come)
