use Rattle.xa_manager.proofs.Held.{works_where}
use Rattle.xa_manager.proofs.tables.Tables.leave_branch.Goals as goal

pub returns-clause-not_suspended : goal.returns-clause-not_suspended
returns-clause-not_suspended c = λ s st p recoverable. record {
  name = st.name;
  log_bytes = st.log_bytes;
  up = st.up;
  sessions = c.leave.ensures.not_suspended s st.recoverable.sound p.0 st.sessions;
  branches = c.leave-2.ensures.not_suspended s c.args.session st.branches p.1 (works_where s c.args.session c.args.xid.now p.0);
  records = st.records;
  recoverable = recoverable;
}
