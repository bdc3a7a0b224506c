use Rattle.xa_codes.specs.declared.codes.TheConstants.{XA_RBROLLBACK}
use Rattle.xa_model.specs.Associations.{ended}
use Rattle.xa_manager.proofs.Histories.{marked_records}
use Rattle.xa_manager.proofs.tables.Tables.fail_branch.Goals as goal

pub returns-clause-becomes : goal.returns-clause-becomes
returns-clause-becomes c = λ s st p recoverable.
    let n = c.args.session in
    let xid = c.args.xid.now in record {
      name = st.name;
      log_bytes = st.log_bytes;
      up = st.up;
      sessions = c.leave.ensures.failed s st.recoverable.sound st.sessions;
      branches = c.mark.ensures.marks (ended s n xid) (c.leave-2.ensures.ended s n st.recoverable.sound st.branches p);
      records = marked_records XA_RBROLLBACK xid s c.args.self.now.records st.records;
      recoverable = recoverable;
    }
