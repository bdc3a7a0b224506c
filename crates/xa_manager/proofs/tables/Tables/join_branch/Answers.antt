use Rattle.std.proofs.Common.{subst}
use Rattle.xa_xid.specs.Triple.{Triple}
use Rattle.xa_assoc.specs.Sessions.{SessionsStandFor}
use Rattle.xa_model.specs.Associations.{joined}
use Rattle.xa_manager.proofs.tables.Tables.join_branch.Goals as goal

pub returns-clause-ok : goal.returns-clause-ok
returns-clause-ok c = λ s st recoverable. record {
  name = st.name;
  log_bytes = st.log_bytes;
  up = st.up;
  sessions = subst (λ (x : Triple). SessionsStandFor c.join.new.self (joined s c.args.session x).after) c.copied.ensures (c.in_ok-join.ensures.ok s st.recoverable.sound st.sessions);
  branches = c.join-2.ensures.joins s c.args.session st.recoverable.sound st.branches;
  records = st.records;
  recoverable = recoverable;
}
