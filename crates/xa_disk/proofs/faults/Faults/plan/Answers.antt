use Rattle.std.proofs.Common.{◌==◌, ◌∙◌, ap, List, cond, Option, Some}
use Rattle.xa_disk.specs.declared.plan.Effect.{Effect}
use Rattle.xa_disk.specs.declared.plan.Effect.TheVariants.{Lost}
use Rattle.xa_disk.specs.declared.plan.Plan.{Plan}
use Rattle.xa_disk.specs.Plans.{due, stops_in}
use Rattle.xa_disk.proofs.Plans.{due_push, planned_more}
use Rattle.xa_disk.proofs.faults.Faults.plan.Goals as goal

pub returns-clause-planned : goal.returns-clause-planned
returns-clause-planned c j =
    let old = c.args.self.now in
    ap (λ (l : List Plan). cond (stops_in old j) (Some Lost) (due l j)) c.in_ok-push.ensures.items
    ∙ ap (λ (o : Option Effect). cond (stops_in old j) (Some Lost) o) (due_push old.plans.items (record { left = c.args.k; effect = c.args.effect }) j)
    ∙ planned_more (c.args.k == j) (stops_in old j) (Some c.args.effect) (Some Lost) (due old.plans.items j)
