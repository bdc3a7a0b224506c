use Rattle.std.proofs.Common.{ap, ◌∙◌}
use Rattle.std.specs.Prelude.{is_some}
use Rattle.xa_model.specs.Fold.{prepared_as}
use Rattle.xa_recovery.proofs.Entries.{told_some}
use Rattle.xa_recovery.proofs.rebuilding.Rebuilding.is_prepared.Goals as goal

pub returns : goal.returns
returns c = λ x st. c.contains_key.ensures ∙ (ap is_some (st.names c.args.xid.now) ∙ told_some (λ p. p.timestamp) (prepared_as c.args.xid.now) x.durable.prepared)
