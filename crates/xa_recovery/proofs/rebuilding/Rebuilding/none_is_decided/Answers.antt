use Rattle.std.proofs.Common.{◌==◌, length, ap, sym, ◌∙◌}
use Rattle.std.proofs.lemmas.List.{length-map}
use Rattle.xa_recovery.specs.Durable.{as_decided}
use Rattle.xa_recovery.proofs.rebuilding.Rebuilding.none_is_decided.Goals as goal

pub returns : goal.returns
returns c = λ x st. ap (λ n. n == 0) (c.len.ensures.len ∙ (sym (length-map c.args.self.now.decided.entries as_decided) ∙ ap length st.decided))
