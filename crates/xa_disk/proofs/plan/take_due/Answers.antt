use Rattle.std.proofs.Common.{◌≡◌, ◌++◌, ◌∙◌, ap, List, take, drop, length, map, rules}
use Rattle.xa_disk.specs.declared.plan.Plan.{Plan}
use Rattle.xa_disk.specs.Plans.{due, counted}
use Rattle.xa_disk.proofs.Plans.{due_counted}
use Rattle.xa_disk.proofs.Put.{written_back}
use Rattle.xa_disk.proofs.plan.take_due.Goals as goal

pub returns-clause-later : goal.returns-clause-later
returns-clause-later c k le =
    let back : take c.args.plans.now.len (c.count_down.new.plans ++ drop (length c.count_down.new.plans) c.args.plans.now.items) ≡ c.count_down.new.plans = written_back _ _ _ (search rules) (search rules) in
    c.drop_met.ensures k le ∙ ap (λ (l : List Plan). due l k) (back ∙ c.count_down.ensures ∙ ap (λ (l : List Plan). map counted l) c.deref_mut.ensures.value) ∙ due_counted c.args.plans.now.items k le
