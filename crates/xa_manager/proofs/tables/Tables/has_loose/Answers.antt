use Rattle.xa_manager.proofs.Held.{loose_told}
use Rattle.xa_manager.proofs.tables.Tables.has_loose.Goals as goal

pub returns : goal.returns
returns c = λ s st. loose_told s c.args.xid.now c.loose.result (c.loose.ensures s st.recoverable.sound st.branches)
