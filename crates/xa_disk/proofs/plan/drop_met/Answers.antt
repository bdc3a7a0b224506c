use Rattle.std.proofs.Common.{◌==◌, ◌∙◌, not, rules, ap, List}
use Rattle.std.proofs.lemmas.Fn.{filter_same}
use Rattle.xa_disk.specs.declared.plan.Plan.{Plan}
use Rattle.xa_disk.specs.Plans.{due}
use Rattle.xa_disk.proofs.Plans.{due_kept}
use Rattle.xa_disk.proofs.plan.drop_met.Goals as goal

pub returns : goal.returns
returns c k le =
    ap (λ (l : List Plan). due l k) (filter_same _ (λ p. not (p.left == 0)) _ (λ x b f' r. search rules) _ _ c.retain.ensures.filtered)
    ∙ due_kept c.args.plans.now.items k le
