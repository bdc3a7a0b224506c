use Rattle.std.proofs.Common.{subst}
use Rattle.std.proofs.lemmas.List.Elements.{All-more}
use Rattle.xa_frame.proofs.Lists.{put_more}
use Rattle.xa_frame.proofs.encode.put_list.Goals as goal

pub loop-item-preserved : goal.loop-item-preserved
loop-item-preserved g c =
    let l = c.loop-item in
    let xs = c.args.list.now in
    let x = c.item-item.result in
    record {
      bytes = put_more g.T.Listed.spell xs l.item-index x c.put_length.new.out.items l.out.items c.put.new.out.items c.loop-item-test.true c.item-item.is l.invariant.bytes c.in_ok-put.ensures.bytes;
      holds = All-more g.T.Listed.fits xs l.item-index x c.loop-item-test.true l.invariant.holds (subst g.T.Listed.fits c.item-item.is c.in_ok-put.ensures.holds);
    }
