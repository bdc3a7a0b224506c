use Rattle.std.proofs.Common.{◌≡◌, ◌-◌, ◌≤◌, length, take, drop, arith}
use Rattle.std.proofs.lemmas.Grind.{common_steps}
use Rattle.xa_script.proofs.Digits.{pair_read}
use Rattle.xa_script.proofs.hexadecimal.read_bytes.Goals as goal

pub loop-rest-preserved : goal.loop-rest-preserved
loop-rest-preserved c =
    let two : 2 ≤ length c.loop-rest.rest.now = omega arith in
    let behind : take (length c.loop-rest.rest.now - 2) (drop 2 c.loop-rest.rest.now) ≡ drop 2 c.loop-rest.rest.now = grind (arith, common_steps) in
    record {
      same = rw (c.in_ok-push.ensures.items, behind) (pair_read c.args.digits.now c.loop-rest.bytes.items c.loop-rest.rest.now c.in-Some.byte two c.in-Some.ensures c.loop-rest.invariant.same);
      half = rw (c.in_ok-push.ensures.items, behind) (grind (arith, common_steps, c.loop-rest.invariant.half));
    }
