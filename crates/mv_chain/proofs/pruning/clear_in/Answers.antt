use Rattle.std.proofs.Common.{◌<◌, ◌-◌, length, arith}
use Rattle.std.specs.List.{remove}
use Rattle.std.proofs.lemmas.List.Edits.{length-remove}
use Rattle.mv_chain.proofs.Frames.{leaves_then, taken_out_held, taken_out_leaves}
use Rattle.mv_chain.proofs.Within.{taken_out_within}
use Rattle.mv_chain.proofs.Counted.{taken_out_counts, counts_then}
use Rattle.mv_chain.proofs.pruning.clear_in.Goals as goal

pub loop-left-preserved : goal.loop-left-preserved
loop-left-preserved c =
    let before = c.loop-left.invariant in
    let old = c.args.pool.now in
    let cur = c.loop-left.pool in
    let new = c.take_out.new.pool in
    let slots = c.loop-left.slots.items in
    let i = c.loop-left.left - 1 in
    let lt : i < length slots = omega (arith, before.left, c.loop-left-test.true) in
    let shorter = length-remove slots i lt in
    rw c.take_out.ensures.slots (record {
      left = omega (arith, before.left, c.loop-left-test.true, shorter);
      others = leaves_then old cur new c.args.slots.now.items slots (remove slots i) before.others (taken_out_leaves cur new slots i 0 lt (c.take_out.ensures.updates 0));
      values = λ n h. taken_out_within n _ cur new (c.take_out.ensures.updates 0) (before.values n h);
      held = λ h. taken_out_held cur new slots i 0 lt (before.held h) (c.take_out.ensures.updates 0);
      count = λ h. counts_then old cur new c.args.slots.now.items slots (remove slots i) (before.count h) (taken_out_counts cur new slots i 0 lt (before.held h) (c.take_out.ensures.updates 0));
    })
