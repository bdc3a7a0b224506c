use Rattle.std.proofs.lemmas.Result.{err_from_is_err_and}
use Rattle.xa_frame.specs.Reading.{rest_of, each_at}
use Rattle.xa_frame.proofs.Loop.{passed_one, passed_none, passed_all}
use Rattle.xa_frame.proofs.reply_decoder.behind.Goals as goal

pub loop-preserved : goal.loop-preserved
loop-preserved g c =
    passed_one g.T.Listed.at c.args.count c.loop.counter c.loop.rest.now c.in_ok-after.field-0-0 c.in_ok-after.after.now (rest_of (each_at g.T.Listed.at c.args.count c.args.bytes.now)) c.loop-test.true c.in_ok-after.ensures c.loop.invariant

pub returns-in_err-after : goal.returns-in_err-after
returns-in_err-after g c =
    let p = err_from_is_err_and c.from_residual.result c.from_residual.ensures.1 in
    rw (p.1, p.2) (passed_none g.T.Listed.at c.args.count c.loop.counter c.loop.rest.now c.in_err-after.field-0.0 (rest_of (each_at g.T.Listed.at c.args.count c.args.bytes.now)) c.loop-test.true c.in_err-after.ensures c.loop.invariant)

pub returns : goal.returns
returns g c = passed_all g.T.Listed.at c.args.count c.loop.counter c.loop.rest.now (rest_of (each_at g.T.Listed.at c.args.count c.args.bytes.now)) c.loop-test.false c.loop.invariant
