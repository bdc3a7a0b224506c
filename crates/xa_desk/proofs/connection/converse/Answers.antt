use Rattle.std.proofs.Common.{◌+◌, arith}
use Rattle.std.proofs.lemmas.Result.{err_from_is_err_and}
use Rattle.xa_desk.proofs.Talking.{talks-behind, talks-none}
use Rattle.xa_desk.proofs.connection.converse.Goals as goal

pub loop-init : goal.loop-init
loop-init g c = talks-none _ _ _ _

pub loop-preserved : goal.loop-preserved
loop-preserved g c = talks-behind _ c.loop.counter 1 (c.loop.counter + 1) _ _ _ _ _ _ _ _ _ _ (omega arith) c.loop.invariant c.in_ok-exchange.ensures

pub returns-in_err-exchange : goal.returns-in_err-exchange
returns-in_err-exchange g c =
    let p = err_from_is_err_and c.from_residual.result c.from_residual.ensures.1 in
    rw (p.1, p.2) (talks-behind _ c.loop.counter 1 c.args.most _ _ _ _ _ _ _ _ _ _ (omega arith) c.loop.invariant c.in_err-exchange.ensures)
