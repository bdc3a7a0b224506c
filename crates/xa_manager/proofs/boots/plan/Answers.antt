use Rattle.std.proofs.Common.{◌≡◌, Option, map, length, Ok, ap, refl, subst, sym, ◌∙◌}
use Rattle.xa_manager.specs.declared.boots.NextBoot.{NextBoot}
use Rattle.xa_model.specs.Durable.{Durable}
use Rattle.xa_recovery.specs.Durable.{as_prepared, as_decided}
use Rattle.xa_recovery.specs.Log.{LogRebuilt}
use Rattle.xa_manager.specs.Rereading.{IsNext}
use Rattle.xa_manager.proofs.Begins.{count_of}
use Rattle.xa_manager.proofs.NextBoots.{next_limits, next_form, is_next, no_next}
use Rattle.xa_manager.proofs.boots.plan.Goals as goal
use Rattle.xa_manager.proofs.boots.plan.Goals.{in-Some+in_ok-ready-in-Some, in-None}

pub ready-requires-clause-limits : goal.ready-requires-clause-limits
ready-requires-clause-limits c = next_limits (map (λ b. b.items) c.args.bodies.items) c.in_ok-durable.durable c.in-Some.next c.in_ok-durable.ensures (sym c.in-Some.is ∙ c.next_boot.ensures)

pub ready-requires-clause-form : goal.ready-requires-clause-form
ready-requires-clause-form c = next_form (map (λ b. b.items) c.args.bodies.items) c.in_ok-durable.durable c.in_ok-durable.ensures

pub returns : goal.returns
returns c =
    let bodies = map (λ b. b.items) c.args.bodies.items in
    let d : Durable = c.in_ok-durable.durable in
    let same : ◌≡◌ {A = Durable} d c.of-came_to.result.value = sym c.of-came_to.ensures in (
      subst (λ (x : Durable). LogRebuilt bodies (Ok x)) same c.in_ok-durable.ensures,
      subst (λ (x : Durable). IsNext x c.args.moment c.match-next_boot.next) same
          (elim c.match-next_boot.branch [
            | in-Some+in_ok-ready-in-Some w ↦ subst (λ (o : Option NextBoot). IsNext d c.args.moment o) (sym w.next-is)
                (is_next c.args.moment bodies d w.in-Some.next w.in_ok-ready-in-Some.field-0 c.in_ok-durable.ensures (sym w.in-Some.is ∙ c.next_boot.ensures) w.in_ok-ready-in-Some.ensures.boot w.in_ok-ready-in-Some.ensures.ready w.in_ok-ready-in-Some.ensures.short w.in_ok-ready-in-Some.ensures.keys)
            | in-None w ↦ subst (λ (o : Option NextBoot). IsNext d c.args.moment o) (sym w.next-is) (no_next c.args.moment d (sym w.in-None.is ∙ c.next_boot.ensures))
          ]),
      record {
        boot = c.boot-boot.ensures ∙ ap (λ (x : Durable). x.boot) same;
        prepared = count_of as_prepared c.prepared.result.now.entries _ d.prepared c.len-prepared.result c.len-prepared.ensures.len c.prepared.ensures refl ∙ ap (λ (x : Durable). length x.prepared) same;
        completed = count_of as_decided c.decided.result.now.entries _ d.decided c.len-completed.result c.len-completed.ensures.len c.decided.ensures refl ∙ ap (λ (x : Durable). length x.decided) same;
      },
    )
