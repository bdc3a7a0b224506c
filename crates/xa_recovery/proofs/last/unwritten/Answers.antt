use Rattle.std.proofs.Common.{◌∙◌, ap, not, rules, List}
use Rattle.std.specs.Prelude.{filter}
use Rattle.std.proofs.lemmas.Fn.{filter_same}
use Rattle.xa_codes.specs.declared.write.Write.{Write}
use Rattle.xa_recovery.specs.Last.{has_key}
use Rattle.xa_recovery.proofs.last.unwritten.Goals as goal

pub returns : goal.returns
returns c =
    c.new.ensures ∙ c.shrink_to_fit.ensures.items
    ∙ filter_same _ (λ (w : Write). not (has_key c.args.written.now w.key)) _ (λ x b f' r. search rules) _ _ c.retain.ensures.filtered
    ∙ ap (λ (ws : List Write). filter (λ (w : Write). not (has_key c.args.written.now w.key)) ws) c.into_vec-kept.ensures
