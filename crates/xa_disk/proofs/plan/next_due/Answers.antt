use Rattle.std.proofs.Common.{◌≡◌, ◌==◌, ◌+◌, ◌∙◌, ap, sym, cond, List, Option, Some, Bool, get_or, take, arith, eq-eqb}
use Rattle.std.proofs.lemmas.List.{take_more}
use Rattle.xa_disk.specs.declared.plan.Plan.{Plan}
use Rattle.xa_disk.specs.declared.plan.Effect.{Effect}
use Rattle.xa_disk.specs.declared.plan.Effect.TheVariants.{Kept}
use Rattle.xa_disk.specs.Plans.{due}
use Rattle.xa_disk.proofs.Plans.{due_push, not_next}
use Rattle.xa_disk.proofs.plan.next_due.Goals as goal
use Rattle.xa_disk.proofs.plan.next_due.Goals.{then-plan-eq1, else-plan-eq1}

pub loop-plan-preserved : goal.loop-plan-preserved
loop-plan-preserved c =
    let i = c.loop-plan.plan-index in
    let p : Plan = get_or c.args.plans.now i (record { left = 0; effect = Kept }) in
    let before : Option Effect = due (take i c.args.plans.now) 1 in
    let step : due (take (i + 1) c.args.plans.now) 1 ≡ cond (p.left == 1) (Some p.effect) before =
    ap (λ (l : List Plan). due l 1) (take_more c.args.plans.now i (record { left = 0; effect = Kept }) (omega arith)) ∙ due_push (take i c.args.plans.now) p 1 in
    elim c.if-plan-eq1.branch [
      | then-plan-eq1 w ↦ w.found-is ∙ sym (step ∙ ap (λ (b : Bool). cond b (Some p.effect) before) (eq-eqb p.left 1 w.if-plan-eq1.true))
      | else-plan-eq1 w ↦ w.found-is ∙ c.loop-plan.invariant ∙ sym (step ∙ ap (λ (b : Bool). cond b (Some p.effect) before) (not_next p.left w.if-plan-eq1.false))
    ]
