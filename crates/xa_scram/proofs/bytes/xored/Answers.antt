use Rattle.std.proofs.Common.{◌<◌, ◌≢◌, ◌∙◌, length, arith, below_more, get_or-set_other, get_or-set_same, length-set}
use Rattle.xa_scram.proofs.Xored.{xored_so}
use Rattle.xa_scram.proofs.bytes.xored.Goals as goal

pub loop-i-preserved : goal.loop-i-preserved
loop-i-preserved c = record {
  len = length-set _ _ _ ∙ c.loop-i.invariant.len;
  front = below_more _ _
      (λ k h. let ne : k ≢ c.loop-i.i = omega arith in rw get_or-set_other (c.loop-i.invariant.front k h))
      (let lt : c.loop-i.i < length c.loop-i.all = omega arith in rw get_or-set_same);
}

pub returns : goal.returns
returns c = xored_so c.loop-i.all c.args.left.now c.args.right.now 32 c.loop-i.invariant.len c.told-left c.told-right
    (λ k lt. c.loop-i.invariant.front k (omega arith))
