use Rattle.std.proofs.Common.{option_copied, refl}
use Rattle.std.specs.Map.Iter.{deref}
use Rattle.std.proofs.lemmas.Map.Iter.{rest_more}
use Rattle.xa_model.specs.Listed.{is_above}
use Rattle.xa_recovery.proofs.Loops.{one_name}
use Rattle.xa_recovery.proofs.listing.add_prepared.Goals as goal

pub loop-branch-preserved : goal.loop-branch-preserved
loop-branch-preserved c =
    let more = rest_more deref c.loop-branch.branch-iterator c.next.new.self c.next.result c.in-Some.branch c.in-Some.is c.next.ensures.steps in
    one_name (is_above (option_copied c.args.after)) (λ b. b.xid) c.in-Some.branch.now.xid c.in-Some.branch.now c.next.new.self c.loop-branch.branch-iterator c.loop-branch.above.keys c.add_xid.new.above.keys _
    more refl c.in_ok-add_xid.ensures c.loop-branch.invariant
