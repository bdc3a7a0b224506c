use Rattle.std.proofs.Common.{◌<◌, ◌≢◌, ◌∙◌, refl, length, arith, below_more, get_or-set_other, get_or-set_same, length-set}
use Rattle.std.proofs.lemmas.List.{get_or-replicate}
use Rattle.xa_scram.proofs.Xored.{padded_so}
use Rattle.xa_scram.proofs.keyed.padded_by.Goals as goal

pub loop-i-init : goal.loop-i-init
loop-i-init c = record { len = refl; front = λ k h. absurd (omega arith); back = λ k h lt. get_or-replicate 64 k c.args.byte 0 lt }

pub loop-i-preserved : goal.loop-i-preserved
loop-i-preserved c = record {
  len = length-set _ _ _ ∙ c.loop-i.invariant.len;
  front = below_more _ _
      (λ k h. let ne : k ≢ c.loop-i.i = omega arith in rw get_or-set_other (c.loop-i.invariant.front k h))
      (let lt : c.loop-i.i < length c.loop-i.block = omega arith in rw get_or-set_same);
  back = λ k h lt. let ne : k ≢ c.loop-i.i = omega arith in rw get_or-set_other (c.loop-i.invariant.back k (omega arith) lt);
}

pub returns : goal.returns
returns c = padded_so c.loop-i.block c.args.key.now c.args.byte c.requires c.loop-i.invariant.len
    (λ k lt. c.loop-i.invariant.front k (omega arith)) (λ k h lt. c.loop-i.invariant.back k (omega arith) lt)
