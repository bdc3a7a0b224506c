use Rattle.std.proofs.Common.{◌==◌, length, ap, sym, ◌∙◌}
use Rattle.std.proofs.lemmas.List.{length-map}
use Rattle.xa_recovery.specs.Durable.{as_prepared}
use Rattle.xa_recovery.proofs.rebuilding.Rebuilding.none_is_prepared.Goals as goal

pub returns : goal.returns
returns c = λ x st. ap (λ n. n == 0) (c.len.ensures.len ∙ (sym (length-map c.args.self.now.prepared.entries as_prepared) ∙ ap length st.prepared))
