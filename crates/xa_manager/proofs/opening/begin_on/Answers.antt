use Rattle.std.proofs.Common.{◌≡◌, ◌+◌, ◌<◌, ℕ, List, true, false, ap, sym, refl, ◌∙◌, subst, arith}
use Rattle.xa_log.specs.Buffer.{HoldsEach}
use Rattle.xa_log.specs.Believed.Pair.{generation}
use Rattle.xa_log.specs.Reading.{bodies_of}
use Rattle.xa_log.specs.Believed.Stands.{EndsBehind}
use Rattle.xa_log.specs.declared.appending.Appended.TheVariants.{Kept}
use Rattle.xa_manager.specs.Believed.Opening.{HasBodies, has_boot_room}
use Rattle.xa_manager.specs.Believed.Refused.{LogsFirst}
use Rattle.xa_manager.proofs.Begins.{planned, first_bodies, first_few, first_sizes, first_room, first_newer, logs_boot}
use Rattle.xa_manager.proofs.FirstRecords.{not_kept}
use Rattle.xa_manager.proofs.NewBoots.{new_stands}
use Rattle.xa_manager.proofs.Reserved.{boot_same, ends_same, found_same}
use Rattle.xa_manager.proofs.opening.begin_on.Goals as goal

pub begins_with_room-requires : goal.begins_with_room-requires
begins_with_room-requires g c =
    let plan = planned 0 (bodies_of c.args.bodies.items) c.in_ok-prepared.field-0 c.in-Some.next c.in_ok-prepared.ensures.0 c.in_ok-prepared.ensures.1 c.in-Some.is in
    record { sizes = first_sizes 0 _ c.in_ok-prepared.field-0.durable.value c.in-Some.next c.deref.result.now plan c.deref.ensures.value }

pub returns-then-not-begins_with_room-clause-refused : goal.returns-then-not-begins_with_room-clause-refused
returns-then-not-begins_with_room-clause-refused g c =
    let plan = planned 0 (bodies_of c.args.bodies.items) c.in_ok-prepared.field-0 c.in-Some.next c.in_ok-prepared.ensures.0 c.in_ok-prepared.ensures.1 c.in-Some.is in (
      c.in_ok-prepared.field-0.durable.value,
      plan.comes,
      plan.boots,
      first_room 0 _ c.in_ok-prepared.field-0.durable.value c.in-Some.next c.deref.result.now c.args.log_bytes c.in_ok-prepared.field-0.prepared c.in_ok-prepared.field-0.completed false plan c.deref.ensures.value
          c.in_ok-prepared.ensures.2.prepared
          c.in_ok-prepared.ensures.2.completed
          (sym c.if-not-begins_with_room.true ∙ c.begins_with_room.ensures),
    )

pub log_first-requires-clause-sizes : goal.log_first-requires-clause-sizes
log_first-requires-clause-sizes g c =
    let plan = planned 0 (bodies_of c.args.bodies.items) c.in_ok-prepared.field-0 c.in-Some.next c.in_ok-prepared.ensures.0 c.in_ok-prepared.ensures.1 c.in-Some.is in
    first_sizes 0 _ c.in_ok-prepared.field-0.durable.value c.in-Some.next _ plan c.deref-3.ensures.value

pub log_first-requires-clause-holds : goal.log_first-requires-clause-holds
log_first-requires-clause-holds g c = subst (λ (vs : List (List ℕ)). HoldsEach c.reserve_for.new.log vs) (c.deref-2.ensures.value ∙ sym c.deref-3.ensures.value) c.in-Ok.ensures.holds

pub log_first-requires-clause-modern : goal.log_first-requires-clause-modern
log_first-requires-clause-modern g c = λ new. c.in-Ok.ensures.ok.fields.format ∙ c.requires.modern new

pub reserve_for-requires : goal.reserve_for-requires
reserve_for-requires g c =
    let plan = planned 0 (bodies_of c.args.bodies.items) c.in_ok-prepared.field-0 c.in-Some.next c.in_ok-prepared.ensures.0 c.in_ok-prepared.ensures.1 c.in-Some.is in
    first_sizes 0 _ c.in_ok-prepared.field-0.durable.value c.in-Some.next _ plan c.deref-2.ensures.value

pub log_first-requires-clause-above : goal.log_first-requires-clause-above
log_first-requires-clause-above g c =
    let plan = planned 0 (bodies_of c.args.bodies.items) c.in_ok-prepared.field-0 c.in-Some.next c.in_ok-prepared.ensures.0 c.in_ok-prepared.ensures.1 c.in-Some.is in
    subst (λ (n : ℕ). n < generation c.deref-3.result.now) (sym (c.in-Ok.ensures.ok.fields.number ∙ c.requires.number))
    (first_newer 0 _ c.in_ok-prepared.field-0.durable.value c.in-Some.next c.deref-3.result.now plan c.deref-3.ensures.value)

pub log_first-requires-clause-first : goal.log_first-requires-clause-first
log_first-requires-clause-first g c = λ new.
    let plan = planned 0 (bodies_of c.args.bodies.items) c.in_ok-prepared.field-0 c.in-Some.next c.in_ok-prepared.ensures.0 c.in_ok-prepared.ensures.1 c.in-Some.is in
    first_few 0 _ c.in_ok-prepared.field-0.durable.value c.in-Some.next _ plan c.deref-3.ensures.value (c.requires.made new)

pub returns-clause-begun : goal.returns-clause-begun
returns-clause-begun g c = λ found sized.
    let plan = planned 0 (bodies_of c.args.bodies.items) c.in_ok-prepared.field-0 c.in-Some.next c.in_ok-prepared.ensures.0 c.in_ok-prepared.ensures.1 c.in-Some.is in
    let d = c.in_ok-prepared.field-0.durable.value in
    let xs = c.deref-3.result.now in
    let room : has_boot_room c.args.log_bytes d (d.boot + 1) ≡ true =
    first_room 0 _ d c.in-Some.next c.deref.result.now c.args.log_bytes c.in_ok-prepared.field-0.prepared c.in_ok-prepared.field-0.completed true plan c.deref.ensures.value
    c.in_ok-prepared.ensures.2.prepared
    c.in_ok-prepared.ensures.2.completed
    (sym c.if-not-begins_with_room.false ∙ c.begins_with_room.ensures) in
    let same = first_bodies 0 _ d c.in-Some.next xs plan c.deref-3.ensures.value in
    let mid = c.reserve_for.new.log in
    let ends = c.log_first.ensures.ends c.in-Kept.is (bodies_of c.args.bodies.items) c.requires.made (ends_same g.D.Disk c.args.log.now mid c.in-Ok.ensures.ok (bodies_of c.args.bodies.items) c.requires.ends) in
    record {
      durable = d;
      comes = plan.comes;
      boots = plan.boots;
      limit = c.requires.limit;
      room = room;
      stands = new_stands g.D.Disk _ d (d.boot + 1) c.args.name c.args.log_bytes
          refl refl refl refl (c.log_first.ensures.settings ∙ c.in-Ok.ensures.ok.fields.log_bytes ∙ sized) c.new.ensures plan.ready.branches plan.ready.records
          (subst (λ (l : List (List ℕ)). EndsBehind l c.log_first.new.log) same ends)
          (c.log_first.ensures.modern c.in-Kept.is (c.in-Ok.ensures.ok.fields.lost ∙ c.requires.ends.alive))
          (c.log_first.ensures.number c.in-Kept.is (bodies_of c.args.bodies.items) c.requires.made (ends_same g.D.Disk c.args.log.now mid c.in-Ok.ensures.ok (bodies_of c.args.bodies.items) c.requires.ends) ∙ ap (λ (l : List (List ℕ)). generation l) same)
          (λ h. subst (λ (l : List (List ℕ)). HasBodies g.D.Disk l c.log_first.new.log) same
          (c.log_first.ensures.kept h c.in-Kept.is (bodies_of c.args.bodies.items) c.requires.made (found_same g.D.Disk c.args.log.now mid c.in-Ok.ensures.ok c.args.is_new (bodies_of c.args.bodies.items) (found h))))
          plan.limits plan.form (omega arith) room;
    }

pub returns-clause-logs : goal.returns-clause-logs
returns-clause-logs g c =
    let plan = planned 0 (bodies_of c.args.bodies.items) c.in_ok-prepared.field-0 c.in-Some.next c.in_ok-prepared.ensures.0 c.in_ok-prepared.ensures.1 c.in-Some.is in
    let d = c.in_ok-prepared.field-0.durable.value in
    boot_same g.D.Disk c.args.log.now c.reserve_for.new.log c.in-Ok.ensures.ok c.args.is_new (bodies_of c.args.bodies.items) c.args.log_bytes Kept c.log_first.new.log
    (logs_boot g.D.Disk 0 c.args.is_new (bodies_of c.args.bodies.items) c.args.log_bytes Kept c.reserve_for.new.log c.log_first.new.log d c.in-Some.next c.deref-3.result.now plan c.deref-3.ensures.value
    (first_room 0 _ d c.in-Some.next c.deref.result.now c.args.log_bytes c.in_ok-prepared.field-0.prepared c.in_ok-prepared.field-0.completed true plan c.deref.ensures.value
    c.in_ok-prepared.ensures.2.prepared
    c.in_ok-prepared.ensures.2.completed
    (sym c.if-not-begins_with_room.false ∙ c.begins_with_room.ensures))
    (subst (λ a. LogsFirst g.D.Disk c.args.is_new a c.deref-3.result.now c.reserve_for.new.log c.log_first.new.log) c.in-Kept.is c.log_first.ensures.logs))

pub returns-in-Refused-clause-leaves : goal.returns-in-Refused-clause-leaves
returns-in-Refused-clause-leaves g c =
    let plan = planned 0 (bodies_of c.args.bodies.items) c.in_ok-prepared.field-0 c.in-Some.next c.in_ok-prepared.ensures.0 c.in_ok-prepared.ensures.1 c.in-Some.is in
    let d = c.in_ok-prepared.field-0.durable.value in (
      c.log_first.result,
      not_kept c.log_first.result c.in-Refused.is,
      boot_same g.D.Disk c.args.log.now c.reserve_for.new.log c.in-Ok.ensures.ok c.args.is_new (bodies_of c.args.bodies.items) c.args.log_bytes c.log_first.result c.log_first.new.log
          (logs_boot g.D.Disk 0 c.args.is_new (bodies_of c.args.bodies.items) c.args.log_bytes c.log_first.result c.reserve_for.new.log c.log_first.new.log d c.in-Some.next c.deref-3.result.now plan c.deref-3.ensures.value
          (first_room 0 _ d c.in-Some.next c.deref.result.now c.args.log_bytes c.in_ok-prepared.field-0.prepared c.in_ok-prepared.field-0.completed true plan c.deref.ensures.value
          c.in_ok-prepared.ensures.2.prepared
          c.in_ok-prepared.ensures.2.completed
          (sym c.if-not-begins_with_room.false ∙ c.begins_with_room.ensures))
          c.log_first.ensures.logs),
    )
