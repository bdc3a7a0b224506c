use Rattle.std.proofs.Common.{◌∙◌}
use Rattle.xa_recovery.proofs.rebuilding.Rebuilding.is_used.Goals as goal

pub returns : goal.returns
returns c = λ x st. c.contains.ensures ∙ st.timestamps c.args.timestamp
