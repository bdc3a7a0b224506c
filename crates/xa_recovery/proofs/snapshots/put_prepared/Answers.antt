use Rattle.std.proofs.Common.{◌++◌, ℕ, map, ap, refl}
use Rattle.xa_recovery.specs.declared.durable.InDoubt.{InDoubt}
use Rattle.xa_recovery.specs.Snapshots.{held_body}
use Rattle.xa_recovery.proofs.Loops.{one_body, all_bodies}
use Rattle.xa_recovery.proofs.snapshots.put_prepared.Goals as goal

pub loop-timestamp-init : goal.loop-timestamp-init
loop-timestamp-init c = ap (λ es. c.args.bodies.now.items ++ map held_body es) c.into_iter-timestamp-iterator.ensures.into_iter_gives.0

pub loop-timestamp-preserved : goal.loop-timestamp-preserved
loop-timestamp-preserved c =
    let e : ℕ × InDoubt = (c.in-Some.timestamp, c.in-Some.branch) in
    one_body held_body c.loop-timestamp.bodies.items c.put_held.new.bodies.items (held_body e) e c.next.new.self c.loop-timestamp.timestamp-iterator _
    c.in-Some.ensures.steps refl c.in_ok-put_held.ensures c.loop-timestamp.invariant

pub returns : goal.returns
returns c = all_bodies held_body c.loop-timestamp.bodies.items _ c.loop-timestamp.timestamp-iterator c.in-None.ensures.steps.0 c.loop-timestamp.invariant
