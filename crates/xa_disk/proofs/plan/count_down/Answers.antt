use Rattle.std.proofs.Common.{◌∙◌, ap, ℕ, get_or, set, arith}
use Rattle.std.proofs.lemmas.List.Edits.{map_over_more}
use Rattle.xa_disk.specs.declared.plan.Plan.{Plan}
use Rattle.xa_disk.specs.declared.plan.Effect.TheVariants.{Kept}
use Rattle.xa_disk.specs.Plans.{counted}
use Rattle.xa_disk.proofs.Plans.{there}
use Rattle.xa_disk.proofs.plan.count_down.Goals as goal

pub loop-plan-preserved : goal.loop-plan-preserved
loop-plan-preserved c =
    let i = c.loop-plan.plan-index in
    let none : Plan = record { left = 0; effect = Kept } in
    let p : Plan = get_or c.loop-plan.plans i none in
    ap (λ (n : ℕ). set c.loop-plan.plans i (record { left = n; effect = p.effect })) c.saturating_sub-plan.ensures
    ∙ map_over_more counted c.args.plans.now c.loop-plan.plans i p (omega arith) c.loop-plan.invariant (there c.loop-plan.plans i none p (omega (arith, c.loop-plan.auto.plans)))
