use Rattle.std.proofs.Common.{refl}
use Rattle.xa_xid.specs.Triple.{Triple}
use Rattle.xa_codes.specs.declared.direction.Direction.{Direction}
use Rattle.std.specs.Map.Iter.{deref_pair}
use Rattle.std.proofs.lemmas.Map.Iter.{rest_more}
use Rattle.xa_recovery.specs.Snapshots.{known_body}
use Rattle.xa_recovery.proofs.Loops.{one_body}
use Rattle.xa_recovery.proofs.snapshots.put_decided.Goals as goal

pub loop-xid-preserved : goal.loop-xid-preserved
loop-xid-preserved c =
    let e : Triple × Direction = (c.in-Some.xid.now, c.in-Some.direction.now) in
    let more = rest_more deref_pair c.loop-xid.xid-iterator c.next.new.self c.next.result (c.in-Some.xid, c.in-Some.direction) c.in-Some.is c.next.ensures.steps in
    one_body known_body c.loop-xid.bodies.items c.put_known.new.bodies.items (known_body e) e c.next.new.self c.loop-xid.xid-iterator _
    more refl c.in_ok-put_known.ensures c.loop-xid.invariant
