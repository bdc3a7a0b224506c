use Rattle.std.proofs.Common.{◌≡◌, List, ap, subst, sym, ◌∙◌}
use Rattle.xa_xid.specs.Triple.{Triple}
use Rattle.xa_manager.specs.declared.manager.Manager.{Manager}
use Rattle.xa_manager.specs.Acts.{GiveRoomsBack, MakeRooms, StaysIfDistinct}
use Rattle.xa_manager.specs.Believed.Answered.{StaysFor}
use Rattle.xa_manager.specs.declared.tables.Tables.{Tables}
use Rattle.xa_manager.specs.View.{view_of}
use Rattle.xa_manager.proofs.Finishing.{beside_rooms}
use Rattle.xa_manager.proofs.Grouping.{group_stays}
use Rattle.xa_manager.proofs.PlannedLogs.{planned_stays}
use Rattle.xa_manager.proofs.manager.Manager.take_memory_together.Goals as goal

pub returns-in_err-make_rooms-clause-stays : goal.returns-in_err-make_rooms-clause-stays
returns-in_err-make_rooms-clause-stays g c = λ calls group.
    let m = c.args.self.now in
    let t = c.args.together.now in
    let stays : StaysIfDistinct m.tables t.prepares.items c.make_rooms.new.self =
    subst (λ (xids : List Triple). StaysIfDistinct m.tables xids c.make_rooms.new.self) c.deref.ensures.value c.in_err-make_rooms.ensures.err in
    group_stays g.D.Disk m calls t c.make_rooms.new.self c.requires.some group stays

pub returns-then-has_reserved-clause-stays : goal.returns-then-has_reserved-clause-stays
returns-then-has_reserved-clause-stays g c = λ calls group s st.
    let m = c.args.self.now in
    let t = c.args.together.now in
    let made : MakeRooms m.tables t.prepares.items c.make_rooms.new.self =
    subst (λ (xids : List Triple). MakeRooms m.tables xids c.make_rooms.new.self) c.deref.ensures.value c.in_ok-make_rooms.ensures.ok in
    let stays : StaysIfDistinct m.tables t.prepares.items c.make_rooms.new.self = λ u distinct before. beside_rooms t.prepares.items (view_of c.make_rooms.new.self) u (made u distinct before) in
    c.has_reserved.ensures.stays s (group_stays g.D.Disk m calls t c.make_rooms.new.self c.requires.some group stays s st)

-- where the buffer found no memory, the rooms are given back
pub returns-clause-stays : goal.returns-clause-stays
returns-clause-stays g c = λ calls group.
    let m = c.args.self.now in
    let t = c.args.together.now in
    let made : MakeRooms m.tables t.prepares.items c.make_rooms.new.self =
    subst (λ (xids : List Triple). MakeRooms m.tables xids c.make_rooms.new.self) c.deref.ensures.value c.in_ok-make_rooms.ensures.ok in
    let same : c.has_reserved.new.self.tables ≡ c.make_rooms.new.self = ap (λ (k : Manager _). k.tables) c.has_reserved.ensures.same in
    let given : GiveRoomsBack c.make_rooms.new.self t.prepares.items c.give_rooms_back.new.self =
    subst (λ (k : Tables). GiveRoomsBack k t.prepares.items c.give_rooms_back.new.self) same
    (subst (λ (xids : List Triple). GiveRoomsBack c.has_reserved.new.self.tables xids c.give_rooms_back.new.self) c.deref-2.ensures.value c.give_rooms_back.ensures.given) in
    let stays : StaysIfDistinct m.tables t.prepares.items c.give_rooms_back.new.self = λ u distinct before. given u distinct (made u distinct before) in
    subst (λ (k : Manager _). StaysFor g.D.Disk m (record k { tables = c.give_rooms_back.new.self })) (sym c.has_reserved.ensures.same)
    (λ s st. planned_stays g.D.Disk (record m { tables = c.give_rooms_back.new.self }) c.has_reserved.new.self.log c.has_reserved.ensures.log.fields c.has_reserved.ensures.log.keeps s
    (group_stays g.D.Disk m calls t c.give_rooms_back.new.self c.requires.some group stays s st))
