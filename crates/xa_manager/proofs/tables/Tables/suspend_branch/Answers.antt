use Rattle.xa_manager.proofs.Held.{works_where}
use Rattle.xa_manager.proofs.tables.Tables.suspend_branch.Goals as goal

pub returns-clause-becomes : goal.returns-clause-becomes
returns-clause-becomes c = λ s st p recoverable. record {
  name = st.name;
  log_bytes = st.log_bytes;
  up = st.up;
  sessions = c.suspend.ensures.after s st.recoverable.sound p st.sessions;
  branches = c.suspend-2.ensures.suspends s c.args.session st.recoverable.sound st.branches (works_where s c.args.session c.args.xid.now p);
  records = st.records;
  recoverable = recoverable;
}
