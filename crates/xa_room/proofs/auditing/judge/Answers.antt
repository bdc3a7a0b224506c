use Rattle.std.proofs.Common.{◌∷◌, refl, inr}
use Rattle.xa_room.proofs.Judging.{judges_good, judges_bad}
use Rattle.xa_room.proofs.auditing.judge.Goals as goal

pub loop-i-preserved : goal.loop-i-preserved
loop-i-preserved c =
    let inv = c.loop-i.invariant.so_far in
    let r = c.index-told-i in
    let good = c.in-None.ensures.none refl inv.0 inv.1 in
    record {
      size = c.in-None.ensures.len;
      so_far = (
        r.result.place ∷ inv.0,
        good.0,
        λ answer js. inv.2 answer
            (judges_good c.args.kept.now inv.0 c.args.told.now c.loop-i.i r.result answer c.loop-i-test.true r.is good.1 js),
      );
    }

pub returns-in-Some : goal.returns-in-Some
returns-in-Some c =
    let inv = c.loop-i.invariant.so_far in
    let r = c.index-told-i in
    inr (inv.2 _ (judges_bad c.args.kept.now inv.0 c.args.told.now c.loop-i.i r.result c.in-Some.fault c.loop-i-test.true r.is (c.in-Some.ensures.some inv.0 inv.1)))
