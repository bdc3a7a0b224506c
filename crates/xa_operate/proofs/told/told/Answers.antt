use Rattle.std.proofs.Common.{◌≡◌, ◌-◌, ◌∙◌, length, take, drop, arith}
use Rattle.std.proofs.lemmas.Grind.{common_steps}
use Rattle.xa_operate.proofs.Counting.{pair_passed}
use Rattle.xa_operate.proofs.told.told.Goals as goal

pub loop-rest-preserved : goal.loop-rest-preserved
loop-rest-preserved c =
    let behind : take (length c.loop-rest.rest.now - 2) (drop 2 c.loop-rest.rest.now) ≡ drop 2 c.loop-rest.rest.now = grind (arith, common_steps) in
    rw behind (c.loop-rest.invariant ∙ pair_passed c.args.id c.loop-rest.rest.now c.in-len2-up.len_at_least c.if-first-id.false)
