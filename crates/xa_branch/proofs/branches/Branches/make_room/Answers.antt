use Rattle.std.proofs.Common.{[], refl, sym}
use Rattle.xa_branch.specs.declared.lasting.Lasting.TheVariants as lasts
use Rattle.xa_branch.proofs.Preparing.{room_made, rooms_kept}
use Rattle.xa_branch.proofs.Rooms.{no_rooms_yet}
use Rattle.xa_branch.proofs.Setting.{set_same, on_ok, on_err}
use Rattle.xa_branch.proofs.branches.Branches.make_room.Goals as goal

pub returns-clause-ok : goal.returns-clause-ok
returns-clause-ok c =
    let m = c.args.self.now in
    let t = c.in-Some.working.timestamp in
    on_ok c.add.result _ _
    (λ sets s st. room_made m _ [] s c.args.xid.now c.in-Some.working (lasts.Prepared t) (no_rooms_yet m s st) (sym c.in-Some.ensures)
    (set_same m.lasting _ c.copied.result c.args.xid.now (lasts.Prepared t) (lasts.Prepared t) c.copied.ensures refl sets))
    c.add.ensures.ok

pub returns-clause-beside : goal.returns-clause-beside
returns-clause-beside c =
    let m = c.args.self.now in
    let xid = c.args.xid.now in
    let t = c.in-Some.working.timestamp in
    on_ok c.add.result _ _
    (λ sets xids s apart st. room_made m _ xids s xid c.in-Some.working (lasts.Prepared t) st (sym c.in-Some.ensures)
    (set_same m.lasting _ c.copied.result xid (lasts.Prepared t) (lasts.Prepared t) c.copied.ensures refl sets))
    c.add.ensures.ok

pub returns-clause-kept : goal.returns-clause-kept
returns-clause-kept c = on_err c.add.result _ _ (λ same xids s st. rooms_kept c.args.self.now _ xids s same st) c.add.ensures.err

pub returns-clause-err : goal.returns-clause-err
returns-clause-err c = on_err c.add.result _ _ (λ same s st. (rooms_kept c.args.self.now _ [] s same (no_rooms_yet c.args.self.now s st)).stand) c.add.ensures.err
