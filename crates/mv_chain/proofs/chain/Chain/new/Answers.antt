use Rattle.std.proofs.Common.{[]}
use Rattle.mv_chain.specs.Chain.{base}
use Rattle.mv_chain.proofs.Frames.{on_err}
use Rattle.mv_chain.proofs.Counted.{put_in_counts, grown_counts}
use Rattle.mv_chain.proofs.chain.Chain.new.Goals as goal

pub returns-in_err-put_in-clause-err_count : goal.returns-in_err-put_in-clause-err_count
returns-in_err-put_in-clause-err_count c =
    on_err c.from_residual.result (grown_counts c.args.pool.now c.put_in.new.pool [] c.in_err-put_in.ensures.same)

pub returns-clause-count : goal.returns-clause-count
returns-clause-count c =
    put_in_counts 0 base c.args.pool.now c.put_in.new.pool [] c.put_in.new.slots.items (rw c.new-slots.ensures.items at rw c.new.ensures at c.in_ok-put_in.ensures.ok)
