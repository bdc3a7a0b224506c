use Rattle.xa_model.specs.Durable.{durable}
use Rattle.xa_model.proofs.Recoveries.{recoverable_durable}
use Rattle.xa_manager.specs.View.{view_of}
use Rattle.xa_manager.proofs.InDoubts.{gathers_none, gathers_next, gathers_all}
use Rattle.xa_manager.proofs.tables.Tables.in_doubt.Goals as goal

pub loop-xid-init : goal.loop-xid-init
loop-xid-init c =
    let gives = c.into_iter-xid-iterator.ensures.into_iter_gives in record {
      ordered = c.new-prepared.ensures.ordered;
      gathers = λ s st.
          rw (gives.0, c.new-prepared.ensures.empty)
          (gathers_none (durable s).prepared c.in_ok-items.items (recoverable_durable s st.recoverable).distinct gives.5 (c.in_ok-items.ensures s st.recoverable.sound st.branches));
    }

pub loop-xid-preserved-in_ok-insert : goal.loop-xid-preserved-in_ok-insert
loop-xid-preserved-in_ok-insert c = record {
  ordered = c.insert.ensures.ordered;
  gathers = gathers_next (view_of c.args.self.now) c.in-Some.xid c.in-Some.timestamp c.new-writes.result c.in_ok-writes_of.field-0.items c.loop-xid.xid-iterator c.next.new.self
      c.loop-xid.prepared.entries _ c.in-Some.ensures.steps c.in_ok-insert.ensures.entries c.new-writes.ensures c.in_ok-writes_of.ensures.writes c.loop-xid.invariant.gathers;
}

pub loop-xid-preserved : goal.loop-xid-preserved
loop-xid-preserved c = record {
  ordered = c.insert.ensures.ordered;
  gathers = gathers_next (view_of c.args.self.now) c.in-Some.xid c.in-Some.timestamp c.new-writes.result c.in_ok-writes_of.field-0.items c.loop-xid.xid-iterator c.next.new.self
      c.loop-xid.prepared.entries _ c.in-Some.ensures.steps c.in_ok-insert.ensures.entries c.new-writes.ensures c.in_ok-writes_of.ensures.writes c.loop-xid.invariant.gathers;
}

pub returns : goal.returns
returns c = λ s st.
    gathers_all (durable s).prepared c.loop-xid.xid-iterator c.loop-xid.prepared.entries (recoverable_durable s st.recoverable).prepared c.loop-xid.invariant.ordered c.in-None.ensures.steps.0 (c.loop-xid.invariant.gathers s st)
