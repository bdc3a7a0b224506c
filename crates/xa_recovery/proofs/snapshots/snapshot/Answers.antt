use Rattle.std.proofs.Common.{[], refl, ◌∙◌}
use Rattle.xa_recovery.proofs.ListedMaps.{bodies_are, of_parts}
use Rattle.xa_recovery.proofs.snapshots.snapshot.Goals as goal

pub returns : goal.returns
returns c =
    let parts = c.into_parts-committed.result in
    let is = c.into_parts-committed.ensures in
    bodies_are c.args.boot c.args.durable.boot parts.0.entries parts.1.entries parts.2.entries
    [] c.in_ok-bodies.bodies.items c.put_committed.new.bodies.items
    c.put_prepared.new.bodies.items c.put_decided.new.bodies.items
    refl c.in_ok-bodies.ensures c.in_ok-put_committed.ensures c.in_ok-put_prepared.ensures c.in_ok-put_decided.ensures
    ∙ of_parts c.args.durable c.args.boot parts.0.entries parts.1.entries parts.2.entries is.committed is.prepared is.decided
