use Rattle.std.proofs.Common.{refl}
use Rattle.xa_limits.specs.declared.TheConstants.{MOST_VALUE}
use Rattle.xa_model.specs.Phases.{rolled_back, committed}
use Rattle.xa_manager.specs.View.{view_of}
use Rattle.xa_manager.proofs.Finishing.{settled_stands, committed_records, gone_records}
use Rattle.xa_manager.proofs.tables.Tables.finish_branch.Goals as goal

pub returns-clause-rolled_back : goal.returns-clause-rolled_back
returns-clause-rolled_back c = λ is s end st here.
    settled_stands (view_of c.args.self.now) c.finish.new.self c.settle.new.self s (rolled_back s c.args.xid.now) end refl refl refl refl refl st (c.finish.ensures.rolled_back s st.recoverable.sound st.branches)
    (gone_records s c.args.xid.now c.timestamp-timestamp.result c.args.self.now.records c.settle.new.self st.recoverable.sound here (c.timestamp-timestamp.ensures s st.branches) st.records (rw is at c.settle.ensures.stands))

pub returns-clause-committed : goal.returns-clause-committed
returns-clause-committed c = λ is s end st here.
    settled_stands (view_of c.args.self.now) c.finish.new.self c.settle.new.self s (committed s c.args.xid.now) end refl refl refl refl refl st (c.finish.ensures.committed s st.recoverable.sound st.branches)
    (committed_records s c.args.xid.now c.timestamp-timestamp.result c.args.self.now.records c.settle.new.self st.recoverable.sound here (c.timestamp-timestamp.ensures s st.branches) st.records (rw is at c.settle.ensures.stands))

pub invariant_of-self : goal.invariant_of-self
invariant_of-self c = record {
  short = c.settle.ensures.within MOST_VALUE c.args.self.now.short;
  keys = c.settle.ensures.keys c.args.self.now.keys;
}
