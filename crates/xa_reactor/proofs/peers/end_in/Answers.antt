use Rattle.std.proofs.Common.{None, ap, refl, sym}
use Rattle.std.specs.Option.{option_map}
use Rattle.xa_reactor.specs.Believed.Tending.{seat_of, sessions_of}
use Rattle.xa_reactor.proofs.Doing.{puts_slot}
use Rattle.xa_reactor.proofs.ForAll.{all_left}
use Rattle.xa_reactor.proofs.peers.end_in.Goals as goal

pub returns-in-Some-clause-tends : goal.returns-in-Some-clause-tends
returns-in-Some-clause-tends g c =
    all_left g.D.Reception.connected g.D.Door.called g.D.Door.left (sessions_of c.args.all.now) (sessions_of c.try_remove.new.self)
    c.args.door.now c.hangup.new.self c.args.key (seat_of c.in-Some.peer)
    (ap (λ slot. option_map seat_of slot) (sym c.in-Some.ensures.value)) c.hangup.ensures
    (puts_slot c.args.all.now c.try_remove.new.self c.args.key None None c.in-Some.ensures.updates refl)
