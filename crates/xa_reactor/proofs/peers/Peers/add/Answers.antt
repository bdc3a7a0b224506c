use Rattle.std.proofs.Common.{None, Some, ap, refl, sym}
use Rattle.std.specs.Option.{option_map}
use Rattle.xa_reactor.specs.Believed.Tending.{seat_of, sessions_of}
use Rattle.xa_reactor.proofs.Doing.{puts_slot, tends_connected, tends_none, tends_refused, tends_twice}
use Rattle.xa_reactor.specs.Users.{users_of}
use Rattle.xa_reactor.proofs.peers.Peers.add.Goals as goal

pub returns-in_default-clause-tends : goal.returns-in_default-clause-tends
returns-in_default-clause-tends g c =
    tends_refused (users_of c.args.common.now) g.D.Reception.connected g.D.Door.called g.D.Door.left (sessions_of c.args.self.now.all) (sessions_of c.reserve-else-is_err.new.self)
    c.args.door.now c.connect.new.door _ c.in_default.ensures.connected (ap sessions_of (sym c.reserve-else-is_err.ensures.rest_kept))

pub returns-clause-tends : goal.returns-clause-tends
returns-clause-tends g c =
    let before = sessions_of c.reserve-else-is_err.new.self in
    let after = sessions_of c.insert_reserved-key.new.self in
    tends_twice (users_of c.args.common.now) g.D.Reception.connected g.D.Door.called g.D.Door.left (sessions_of c.args.self.now.all) before after
    c.args.door.now c.args.door.now c.connect.new.door
    (tends_none (users_of c.args.common.now) g.D.Reception.connected g.D.Door.called g.D.Door.left _ before c.args.door.now (ap sessions_of (sym c.reserve-else-is_err.ensures.rest_kept)))
    (tends_connected (users_of c.args.common.now) g.D.Reception.connected g.D.Door.called g.D.Door.left before after c.args.door.now c.connect.new.door
    c.insert_reserved-key.result (record { session = c.in-Ok.session; standing = c.first_standing-standing.result; login = None })
    (ap (λ slot. option_map seat_of slot) c.insert_reserved-key.ensures.was_vacant) (c.first_standing-standing.ensures, refl) c.in-Ok.ensures.connected
    (puts_slot c.reserve-else-is_err.new.self c.insert_reserved-key.new.self c.insert_reserved-key.result (Some c.new.result) _ c.insert_reserved-key.ensures.updates (ap Some c.new.ensures.seat)))
