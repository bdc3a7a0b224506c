use Rattle.std.proofs.Common.{refl}
use Rattle.xa_branch.proofs.Elsewhere.{stands_elsewhere}
use Rattle.xa_model.specs.TimeLimits.{timeout_by}
use Rattle.xa_manager.proofs.tables.Tables.timeout.Goals as goal

pub returns-in-Ok-clause-follows : goal.returns-in-Ok-clause-follows
returns-in-Ok-clause-follows c =
    rw c.plain.ensures (record {
      answers = λ s st. refl;
      stands = λ s st recoverable. record {
        name = st.name;
        log_bytes = st.log_bytes;
        up = st.up;
        sessions = c.set_timeout.ensures.after s st.sessions;
        branches = stands_elsewhere c.args.self.now.branches s (timeout_by s c.args.session c.args.seconds).after refl refl refl refl refl refl st.branches;
        records = st.records;
        recoverable = recoverable;
      };
      served = refl;
    })
