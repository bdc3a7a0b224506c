use Rattle.std.proofs.Common.{None, ap, refl, sym}
use Rattle.std.specs.Option.{option_map}
use Rattle.xa_reactor.specs.Believed.Tending.{seat_of, sessions_of}
use Rattle.xa_reactor.proofs.Doing.{puts_slot}
use Rattle.xa_reactor.proofs.ForAll.{all_left}
use Rattle.xa_reactor.proofs.peers.part_in.Goals as goal

pub returns-clause-tends : goal.returns-clause-tends
returns-clause-tends g c =
    all_left g.D.Reception.connected g.D.Door.called g.D.Door.left (sessions_of c.args.all.now) (sessions_of c.try_remove.new.self)
    c.args.door.now c.hangup.new.self c.args.key (seat_of c.in_ok-peer.peer)
    (ap (λ slot. option_map seat_of slot) (sym c.in_ok-peer.ensures.value)) c.hangup.ensures
    (puts_slot c.args.all.now c.try_remove.new.self c.args.key None None c.in_ok-peer.ensures.updates refl)
