use Rattle.std.proofs.Common.{◌≡◌, ◌+◌, ◌<◌, length, sym, arith, subst}
use Rattle.std.specs.Prelude.{IfNone}
use Rattle.xa_log.specs.Believed.Chain.{text}
use Rattle.xa_log.proofs.Records.{length-text}
use Rattle.xa_log.proofs.Steps.{longer}
use Rattle.xa_log.proofs.checkpointing.end_of.Goals as goal

pub loop-body-preserved : goal.loop-body-preserved
loop-body-preserved c =
    let size : c.len.result ≡ length c.body-item.result = c.len.ensures in
    let more = (longer c.args.format c.args.bodies.now c.loop-body.body-index c.body-item.result c.loop-body-test.true c.body-item.is).1 in
    omega (arith, more, size, c.in_ok-left-2.ensures.0, c.in_ok-left-2.ensures.1, c.loop-body.invariant)

pub returns-in_err-left-2-clause-none : goal.returns-in_err-left-2-clause-none
returns-in_err-left-2-clause-none c =
    let size : c.len.result ≡ length c.body-item.result = c.len.ensures in
    let it = (longer c.args.format c.args.bodies.now c.loop-body.body-index c.body-item.result c.loop-body-test.true c.body-item.is).0 in
    let short : c.loop-body.left < 36 + c.len.result = omega (arith, c.in_err-left-2.ensures) in
    let small : c.args.most < length (text c.args.format c.args.bodies.now) + 4 =
    omega (arith, it.within, size, short, c.loop-body.invariant, length-text c.args.format c.args.bodies.now) in
    subst (λ r. IfNone r (c.args.most < length (text c.args.format c.args.bodies.now) + 4)) (sym c.from_residual-in_err-left-2.ensures) small
