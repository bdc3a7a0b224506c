use Rattle.std.proofs.Common.{◌+◌, arith}
use Rattle.xa_sequencer.proofs.Placing.{all_placed, one_more, same_length}
use Rattle.xa_sequencer.proofs.together.number_all.Goals as goal

pub overflow_add-last : goal.overflow_add-last
overflow_add-last c =
    omega (arith, c.requires, c.loop-told.invariant.last, same_length _ _ _ _ c.loop-told.invariant.placed)

pub loop-told-preserved : goal.loop-told-preserved
loop-told-preserved c =
    let l = c.loop-told in
    record {
      placed = one_more c.args.count l.told-index c.args.replies.now l.replies c.told-item.result (l.last + 1) l.invariant.placed (omega (arith, c.loop-told-test.true, same_length _ _ _ _ l.invariant.placed)) (omega (arith, l.invariant.last));
      last = omega (arith, l.invariant.last);
    }

pub returns : goal.returns
returns c = all_placed _ _ _ _ c.loop-told.invariant.placed (omega arith)
