use Rattle.std.proofs.Common.{refl}
use Rattle.xa_model.specs.Trimming.{trimmed}
use Rattle.xa_assoc.proofs.Follows.{unmoved}
use Rattle.xa_manager.proofs.Histories.{trimmed_records}
use Rattle.xa_manager.proofs.tables.Tables.begin_boot.Goals as goal

pub returns-clause-begun : goal.returns-clause-begun
returns-clause-begun c = λ s st next recoverable. record {
  name = st.name;
  log_bytes = st.log_bytes;
  up = st.up;
  sessions = unmoved c.args.self.now.sessions s (trimmed s c.args.boot) refl refl st.sessions;
  branches = c.begin_boot.ensures s st.branches;
  records = trimmed_records c.args.boot s c.args.self.now.records st.recoverable next st.records;
  recoverable = recoverable;
}
