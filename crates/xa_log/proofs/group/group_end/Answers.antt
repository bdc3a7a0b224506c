use Rattle.std.proofs.Common.{rules, ◌≡◌, ◌+◌, ◌<◌, length, sym, arith, subst}
use Rattle.std.specs.Prelude.{IfNone}
use Rattle.xa_log.specs.Believed.Group.{group_bytes}
use Rattle.xa_log.specs.Reading.{bodies_of}
use Rattle.xa_log.proofs.GroupSteps.{bytes_next, within}
use Rattle.xa_log.proofs.group.group_end.Goals as goal

pub loop-body-preserved : goal.loop-body-preserved
loop-body-preserved c =
    let size : c.len.result ≡ length c.body-item.result.items = search rules in
    omega (arith, bytes_next c.args.bodies.now c.loop-body.body-index c.body-item.result c.loop-body-test.true c.body-item.is, size, c.in_ok-left-2.ensures.0, c.in_ok-left-2.ensures.1, c.loop-body.invariant)

pub returns-in_err-left-2-clause-none : goal.returns-in_err-left-2-clause-none
returns-in_err-left-2-clause-none c =
    let size : c.len.result ≡ length c.body-item.result.items = search rules in
    let short : c.loop-body.left < 36 + c.len.result = omega (arith, c.in_err-left-2.ensures) in
    let small : c.args.most < c.args.from + group_bytes (bodies_of c.args.bodies.now) + 4 =
    omega (arith, within c.args.bodies.now c.loop-body.body-index c.body-item.result c.loop-body-test.true c.body-item.is, size, short, c.loop-body.invariant) in
    subst (λ r. IfNone r (c.args.most < c.args.from + group_bytes (bodies_of c.args.bodies.now) + 4)) (sym c.from_residual-in_err-left-2.ensures) small
