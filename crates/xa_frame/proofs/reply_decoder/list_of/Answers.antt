use Rattle.std.proofs.Common.{◌∙◌, ap, sym, inl, Ok}
use Rattle.std.proofs.lemmas.Result.{err_from_is_err_and}
use Rattle.xa_frame.specs.Reading.{value_of_first, each_at}
use Rattle.xa_frame.proofs.Loop.{read_one, read_none, read_all}
use Rattle.xa_frame.proofs.reply_decoder.list_of.Goals as goal

pub loop-preserved : goal.loop-preserved
loop-preserved g c =
    read_one g.T.Listed.at c.args.count c.loop.counter c.loop.rest.now c.loop.list.items c.push.new.self.items c.in_ok-item.item c.in_ok-item.after.now (value_of_first (each_at g.T.Listed.at c.args.count c.args.bytes.now)) c.loop-test.true c.in_ok-item.ensures c.in_ok-push.ensures.items c.loop.invariant

pub returns-in_err-item : goal.returns-in_err-item
returns-in_err-item g c =
    let p = err_from_is_err_and c.from_residual-in_err-item.result c.from_residual-in_err-item.ensures.1 in
    rw (p.1, p.2) (inl (read_none g.T.Listed.at c.args.count c.loop.counter c.loop.rest.now c.loop.list.items c.in_err-item.field-0.0 (value_of_first (each_at g.T.Listed.at c.args.count c.args.bytes.now)) c.loop-test.true c.in_err-item.ensures c.loop.invariant))

pub returns : goal.returns
returns g c =
    read_all g.T.Listed.at c.args.count c.loop.counter c.loop.rest.now c.loop.list.items (value_of_first (each_at g.T.Listed.at c.args.count c.args.bytes.now)) c.loop-test.false c.loop.invariant
    ∙ ap (λ xs. Ok xs) (sym c.new.ensures)
