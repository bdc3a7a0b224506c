use Rattle.std.proofs.Common.{◌++◌, ℕ, List, map, ap, refl}
use Rattle.xa_codes.specs.declared.write.Write.{Write}
use Rattle.xa_recovery.specs.Snapshots.{base_body}
use Rattle.xa_recovery.proofs.Loops.{one_body, all_bodies}
use Rattle.xa_recovery.proofs.snapshots.put_committed.Goals as goal

pub loop-timestamp-init : goal.loop-timestamp-init
loop-timestamp-init c = ap (λ es. c.args.bodies.now.items ++ map base_body es) c.into_iter-timestamp-iterator.ensures.into_iter_gives.0

pub loop-timestamp-preserved : goal.loop-timestamp-preserved
loop-timestamp-preserved c =
    let e : ℕ × List Write = (c.in-Some.timestamp, c.in-Some.writes) in
    one_body base_body c.loop-timestamp.bodies.items c.put_base.new.bodies.items (base_body e) e c.next.new.self c.loop-timestamp.timestamp-iterator _
    c.in-Some.ensures.steps refl c.in_ok-put_base.ensures c.loop-timestamp.invariant

pub returns : goal.returns
returns c = all_bodies base_body c.loop-timestamp.bodies.items _ c.loop-timestamp.timestamp-iterator c.in-None.ensures.steps.0 c.loop-timestamp.invariant
