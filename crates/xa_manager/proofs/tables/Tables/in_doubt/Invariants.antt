use Rattle.std.specs.BTreeMap.{IsOrdered}
use Rattle.std.specs.Ordering.{nat_cmp}
use Rattle.xa_model.specs.State.{State}
use Rattle.xa_model.specs.Durable.{durable}
use Rattle.xa_manager.specs.View.{view_of}
use Rattle.xa_manager.specs.Stands.{StandsFor}
use Rattle.xa_manager.proofs.InDoubts.{Gathers}
use Rattle.xa_manager.proofs.tables.Tables.in_doubt.Given as goal

abbrev pub invariant-loop-xid : goal.invariant-loop-xid
invariant-loop-xid l = record {
  ordered : IsOrdered nat_cmp l.prepared;
  gathers : (s : State) → StandsFor (view_of l.self) s → Gathers (durable s).prepared l.xid-iterator l.prepared.entries;
}
