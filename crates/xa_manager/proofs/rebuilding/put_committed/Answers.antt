use Rattle.std.proofs.Common.{ℕ, List, ◌++◌, map, ap, refl, sym, subst, ◌∙◌}
use Rattle.xa_codes.specs.declared.write.Write.{Write}
use Rattle.xa_limits.specs.declared.TheConstants.{MOST_VALUE}
use Rattle.xa_recovery.specs.Durable.{as_committed}
use Rattle.xa_recovery.specs.Snapshots.{base_body}
use Rattle.xa_recovery.proofs.Loops.{one_body, all_bodies}
use Rattle.xa_manager.specs.Rebuilding.{CommittedUpto, CommittedAreShort}
use Rattle.xa_manager.proofs.NewTables.{committed_added, committed_whole, committed_first}
use Rattle.xa_manager.proofs.KeysBack.{none_more}
use Rattle.xa_manager.proofs.ShortWrites.{committed_next}
use Rattle.xa_manager.proofs.rebuilding.put_committed.Goals as goal

pub loop-timestamp-preserved : goal.loop-timestamp-preserved
loop-timestamp-preserved c =
    let e : ℕ × List Write = (c.in-Some.timestamp, c.in-Some.writes) in
    let more = c.in-Some.ensures.steps in record {
      stands = λ new ordered start.
          committed_added c.args.least c.min.result (map as_committed c.args.committed.entries) (map as_committed c.next.new.self) (map as_committed c.loop-timestamp.timestamp-iterator) (as_committed e) c.loop-timestamp.records c.restore.new.self c.low_water.new.self
          (ap (λ es. map as_committed es) more) c.min.ensures (rw (← c.as_slice.ensures) c.in_ok-restore.ensures.stands) c.low_water.ensures.stands (c.loop-timestamp.invariant.stands new ordered start);
      short = λ all start.
          let i = c.loop-timestamp.invariant.short all start in
          let next = committed_next (map as_committed c.loop-timestamp.timestamp-iterator) (map as_committed c.next.new.self) (as_committed e) (ap (λ es. map as_committed es) more) i.0 in
          (next.1, c.low_water.ensures.within MOST_VALUE (c.restore.ensures.within MOST_VALUE i.1 (rw c.as_slice.ensures next.0)));
      unwritten = λ none t.
          c.low_water.ensures.own t ∙ none_more c.loop-timestamp.records c.restore.new.self c.in-Some.timestamp (c.in_ok-restore.ensures.decided refl) c.restore.ensures.others (c.loop-timestamp.invariant.unwritten none) t;
      bodies = one_body base_body c.loop-timestamp.bodies.items c.put_base.new.bodies.items (base_body e) e c.next.new.self c.loop-timestamp.timestamp-iterator _
          more refl c.in_ok-put_base.ensures c.loop-timestamp.invariant.bodies;
    }

pub loop-timestamp-init : goal.loop-timestamp-init
loop-timestamp-init c =
    let is = sym c.into_iter-timestamp-iterator.ensures.into_iter_gives.0 in record {
      stands = λ new ordered start.
          subst (λ (es : List (ℕ × List Write)). CommittedUpto c.args.least (map as_committed c.args.committed.entries) (map as_committed es) c.args.records.now) is
          (committed_first c.args.least (map as_committed c.args.committed.entries) c.args.records.now new ordered start);
      short = λ all start. (subst (λ (es : List (ℕ × List Write)). CommittedAreShort (map as_committed es)) is all, start);
      unwritten = λ none. none;
      bodies = ap (λ es. c.args.bodies.now.items ++ map base_body es) (sym is);
    }

pub returns-clause-stands : goal.returns-clause-stands
returns-clause-stands c = λ new ordered start.
    committed_whole c.args.least (map as_committed c.args.committed.entries) (map as_committed c.loop-timestamp.timestamp-iterator) c.loop-timestamp.records (ap (λ es. map as_committed es) c.in-None.ensures.steps.0) (c.loop-timestamp.invariant.stands new ordered start)

pub returns-clause-short : goal.returns-clause-short
returns-clause-short c = λ all start. (c.loop-timestamp.invariant.short all start).1

pub returns-clause-unwritten : goal.returns-clause-unwritten
returns-clause-unwritten c = c.loop-timestamp.invariant.unwritten

pub returns-clause-bodies : goal.returns-clause-bodies
returns-clause-bodies c =
    all_bodies base_body c.loop-timestamp.bodies.items _ c.loop-timestamp.timestamp-iterator c.in-None.ensures.steps.0 c.loop-timestamp.invariant.bodies
