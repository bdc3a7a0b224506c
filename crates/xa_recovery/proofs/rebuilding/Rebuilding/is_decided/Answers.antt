use Rattle.std.proofs.Common.{ap, ◌∙◌}
use Rattle.xa_model.specs.Durable.{is_decided}
use Rattle.xa_recovery.proofs.Tests.{has_name}
use Rattle.xa_recovery.proofs.rebuilding.Rebuilding.is_decided.Goals as goal

pub returns : goal.returns
returns c = λ x st. c.contains_key.ensures ∙ (has_name c.args.xid.now c.args.self.now.decided.entries ∙ ap (is_decided c.args.xid.now) st.decided)
