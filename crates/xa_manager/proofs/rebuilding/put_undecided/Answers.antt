use Rattle.std.proofs.Common.{ℕ, map, ap, refl}
use Rattle.xa_limits.specs.declared.TheConstants.{MOST_VALUE}
use Rattle.xa_recovery.specs.declared.durable.InDoubt.{InDoubt}
use Rattle.xa_recovery.specs.Durable.{as_prepared}
use Rattle.xa_recovery.specs.Snapshots.{held_body}
use Rattle.xa_recovery.proofs.Loops.{one_body, all_bodies}
use Rattle.xa_manager.proofs.NewTables.{prepared_added, prepared_whole}
use Rattle.xa_manager.proofs.KeysBack.{keys_first, keys_more}
use Rattle.xa_manager.proofs.ShortWrites.{prepared_next}
use Rattle.xa_manager.proofs.rebuilding.put_undecided.Goals as goal

pub loop-timestamp-preserved : goal.loop-timestamp-preserved
loop-timestamp-preserved c =
    let e : ℕ × InDoubt = (c.in-Some.timestamp, c.in-Some.branch) in
    let more = c.in-Some.ensures.steps in record {
      stands = λ low older new above start.
          prepared_added low older (map as_prepared c.args.prepared.entries) (map as_prepared c.next.new.self) (map as_prepared c.loop-timestamp.timestamp-iterator) (as_prepared e) c.loop-timestamp.records c.restore.new.self
          (ap (λ es. map as_prepared es) more) (rw (← c.as_slice.ensures) c.in_ok-restore.ensures.stands) (c.loop-timestamp.invariant.stands low older new above start);
      short = λ all start.
          let i = c.loop-timestamp.invariant.short all start in
          let next = prepared_next (map as_prepared c.loop-timestamp.timestamp-iterator) (map as_prepared c.next.new.self) (as_prepared e) (ap (λ es. map as_prepared es) more) i.0 in
          (next.1, c.restore.ensures.within MOST_VALUE i.1 (rw c.as_slice.ensures next.0));
      keys = λ start.
          keys_more c.loop-timestamp.records c.restore.new.self (map as_prepared c.loop-timestamp.timestamp-iterator) (map as_prepared c.next.new.self) (as_prepared e) (ap (λ es. map as_prepared es) more) c.restore.ensures.others
          (rw c.as_slice.ensures at c.in_ok-restore.ensures.keys) (c.loop-timestamp.invariant.keys start);
      bodies = one_body held_body c.loop-timestamp.bodies.items c.put_held.new.bodies.items (held_body e) e c.next.new.self c.loop-timestamp.timestamp-iterator _
          more refl c.in_ok-put_held.ensures c.loop-timestamp.invariant.bodies;
    }

pub returns-clause-stands : goal.returns-clause-stands
returns-clause-stands c = λ low older new above start.
    prepared_whole low older (map as_prepared c.args.prepared.entries) (map as_prepared c.loop-timestamp.timestamp-iterator) c.loop-timestamp.records (ap (λ es. map as_prepared es) c.in-None.ensures.steps.0) (c.loop-timestamp.invariant.stands low older new above start)

pub returns-clause-short : goal.returns-clause-short
returns-clause-short c = λ all start. (c.loop-timestamp.invariant.short all start).1

pub returns-clause-keys : goal.returns-clause-keys
returns-clause-keys c = λ all apart none. (c.loop-timestamp.invariant.keys (keys_first c.args.records.now (map as_prepared c.args.prepared.entries) all apart none)).keys

pub returns-clause-bodies : goal.returns-clause-bodies
returns-clause-bodies c =
    all_bodies held_body c.loop-timestamp.bodies.items _ c.loop-timestamp.timestamp-iterator c.in-None.ensures.steps.0 c.loop-timestamp.invariant.bodies
