use Rattle.std.proofs.Common.{sym}
use Rattle.xa_manager.proofs.tables.Tables.begin_refusal.Goals as goal

pub returns-clause-value : goal.returns-clause-value
returns-clause-value c = λ s st.
    c.begin_refusal.ensures.value s c.args.xid.now st.sessions (c.is_taken-taken.ensures s st)
    (sym (c.len.ensures.state s st.recoverable.sound st.branches)) (sym (c.given.ensures s st.branches))
