use Rattle.std.proofs.Common.{◌≤◌, List, arith, length, refl, rules, sym, subst, ◌∙◌, ap}
use Rattle.std.specs.List.{AllByRecursion}
use Rattle.std.proofs.lemmas.List.{length-map}
use Rattle.xa_log.specs.Believed.Chain.{IsBody}
use Rattle.xa_log.specs.Reading.{bodies_of}
use Rattle.xa_log.specs.Written.{HasWritten}
use Rattle.xa_log.specs.declared.format.Format.{Format}
use Rattle.xa_manager.specs.declared.manager.Manager.{Manager}
use Rattle.xa_manager.specs.declared.together.Asked.{Asked}
use Rattle.xa_log.specs.Believed.LogView.{LogView}
use Rattle.xa_xid.specs.Triple.{Triple}
use Rattle.xa_manager.specs.Believed.Answered.{StaysFor}
use Rattle.xa_manager.specs.Acts.{AreDistinct, GiveRoomsBack}
use Rattle.xa_manager.specs.Believed.Together.{AreReady, IsGroup, members_of}
use Rattle.xa_manager.proofs.GroupFacts.{bodies_are, each_row, each_size, group_stands, prepares_distinct}
use Rattle.xa_manager.proofs.Taking.{tables_up}
use Rattle.xa_manager.proofs.GroupReplies.{group_up, some_bodies}
use Rattle.xa_manager.proofs.Grouping.{rooms_back}
use Rattle.xa_manager.proofs.manager.Manager.begin_group.Goals as goal

pub take_memory_together-requires : goal.take_memory_together-requires
take_memory_together-requires g c =
    let t = c.in-Ok.together in
    let some : 1 ≤ length t.members.items = search rules in
    record { some = some_bodies g.D.Disk c.args.self.now c.deref.result.now t c.in-Ok.ensures some }

pub write_group-requires-clause-some : goal.write_group-requires-clause-some
write_group-requires-clause-some g c =
    let t = c.in-Ok.together in
    let some : 1 ≤ length t.members.items = search rules in
    let bodies = some_bodies g.D.Disk c.args.self.now c.deref.result.now t c.in-Ok.ensures some in
    subst (λ (l : _). 1 ≤ length (bodies_of l)) (sym c.deref-2.ensures.value)
    (omega (arith, bodies, length-map t.bodies.items (λ (b : _). b.items)))

pub write_group-requires-clause-sizes : goal.write_group-requires-clause-sizes
write_group-requires-clause-sizes g c =
    let t = c.in-Ok.together in
    subst (λ (l : _). AllByRecursion (IsBody c.take_memory_together.new.self.log.format) (bodies_of l)) (sym c.deref-2.ensures.value)
    (subst (λ (f : Format). AllByRecursion (IsBody f) (bodies_of t.bodies.items)) (sym c.take_memory_together.ensures.log.fields.format)
    (each_size g.D.Disk c.args.self.now (members_of c.deref.result.now t.members.items) (bodies_of t.bodies.items) c.in-Ok.ensures.appends))

pub returns-in-Some-clause-ok : goal.returns-in-Some-clause-ok
returns-in-Some-clause-ok g c = λ s st.
    let m = c.args.self.now in
    let t = c.in-Ok.together in
    let m1 = c.take_memory_together.new.self in
    let some : 1 ≤ length t.members.items = search rules in
    let group : IsGroup g.D.Disk m c.args.calls.items t = subst (λ (l : List Asked). IsGroup g.D.Disk m l t) c.deref.ensures.value c.in-Ok.ensures in
    let ready : AreReady g.D.Disk m t m1 = c.in-Ok-take_memory_together.ensures.ok in
    let up = group_up g.D.Disk m c.args.calls.items t group some in
    let distinct = subst AreDistinct (sym group.prepares) (prepares_distinct c.args.calls.items t.members.items group.distinct) in (
      m1.log,
      record {
        stands = c.take_memory_together.ensures.stays c.args.calls.items group s st;
        up = ready.up ∙ up;
        written = subst (λ (l : _). HasWritten g.D.Disk (bodies_of l) c.in-Some.written m1.log c.write_group.new.self) c.deref-2.ensures.value c.in-Some.ensures.written;
        at = group_stands g.D.Disk m c.args.calls.items t s st group;
        bodies = bodies_are g.D.Disk m s (members_of c.args.calls.items t.members.items) (bodies_of t.bodies.items) st group.appends;
        rooms = (ready.tables s distinct (tables_up g.D.Disk m s up st)).branches.rooms;
      },
    )

pub returns-in-Some-clause-group : goal.returns-in-Some-clause-group
returns-in-Some-clause-group g c =
    let m = c.args.self.now in
    let t = c.in-Ok.together in
    let some : 1 ≤ length t.members.items = search rules in
    let group : IsGroup g.D.Disk m c.args.calls.items t = subst (λ (l : List Asked). IsGroup g.D.Disk m l t) c.deref.ensures.value c.in-Ok.ensures in (
      record {
        range = c.in-Some.ensures.written.range;
        some = some;
        places = group.places;
        rows = each_row g.D.Disk m (members_of c.args.calls.items t.members.items) (bodies_of t.bodies.items) group.appends;
        distinct = group.distinct;
        prepares = group.prepares;
        unanswered = search rules;
        replies = search rules;
      },
      refl,
    )

pub returns-in-Some-clause-bounded : goal.returns-in-Some-clause-bounded
returns-in-Some-clause-bounded g c = c.in-Ok.ensures.bounded

pub returns-in-Some-clause-wrote : goal.returns-in-Some-clause-wrote
returns-in-Some-clause-wrote g c = record {
  log = c.take_memory_together.new.self.log;
  reserved = c.take_memory_together.ensures.log;
  written = subst (λ (l : _). HasWritten g.D.Disk (bodies_of l) c.in-Some.written c.take_memory_together.new.self.log c.write_group.new.self) c.deref-2.ensures.value c.in-Some.ensures.written;
}

-- nothing was written: the rooms are given back
pub returns-in-None-clause-err : goal.returns-in-None-clause-err
returns-in-None-clause-err g c =
    let m = c.args.self.now in
    let t = c.in-Ok.together in
    let m1 = c.take_memory_together.new.self in
    let some : 1 ≤ length t.members.items = search rules in
    let group : IsGroup g.D.Disk m c.args.calls.items t = subst (λ (l : List Asked). IsGroup g.D.Disk m l t) c.deref.ensures.value c.in-Ok.ensures in
    let given : GiveRoomsBack m1.tables t.prepares.items c.give_rooms_back.new.self =
    subst (λ (xids : List Triple). GiveRoomsBack m1.tables xids c.give_rooms_back.new.self) c.deref-in-None.ensures.value c.give_rooms_back.ensures.given in
    subst (λ (l : LogView _). StaysFor g.D.Disk m (record m1 { log = l; tables = c.give_rooms_back.new.self })) (sym c.in-None.ensures.none.0)
    (rooms_back g.D.Disk m m1 c.args.calls.items t c.give_rooms_back.new.self (some_bodies g.D.Disk m c.args.calls.items t group some) group c.in-Ok-take_memory_together.ensures.ok
    (c.take_memory_together.ensures.stays c.args.calls.items group) given)
