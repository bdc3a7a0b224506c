use Rattle.std.proofs.Common.{option_copied}
use Rattle.std.specs.Map.Iter.{deref}
use Rattle.std.proofs.lemmas.Map.Iter.{rest_more}
use Rattle.xa_model.specs.Listed.{is_above}
use Rattle.xa_recovery.proofs.Loops.{same_name}
use Rattle.xa_recovery.proofs.listing.add_decided.Goals as goal

pub loop-xid-preserved : goal.loop-xid-preserved
loop-xid-preserved c =
    let more = rest_more deref c.loop-xid.xid-iterator c.next.new.self c.next.result c.in-Some.xid c.in-Some.is c.next.ensures.steps in
    same_name (is_above (option_copied c.args.after)) c.in-Some.xid.now c.next.new.self c.loop-xid.xid-iterator c.loop-xid.above.keys c.add_xid.new.above.keys _
    more c.in_ok-add_xid.ensures c.loop-xid.invariant
