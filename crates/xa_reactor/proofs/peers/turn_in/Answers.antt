use Rattle.std.proofs.Common.{ap, refl, sym}
use Rattle.std.specs.Option.{option_map}
use Rattle.slab.specs.Slab.{with_value}
use Rattle.xa_reactor.specs.Believed.Tending.{seat_of, sessions_of}
use Rattle.xa_reactor.proofs.Doing.{same_sessions}
use Rattle.xa_reactor.proofs.Noticed.{on_some}
use Rattle.xa_reactor.proofs.ForAll.{all_answered}
use Rattle.xa_reactor.proofs.peers.turn_in.Goals as goal

pub returns-in-Some-clause-tends : goal.returns-in-Some-clause-tends
returns-in-Some-clause-tends g c =
    let there = sym c.in-Some.ensures.value in
    all_answered g.D.Reception.connected g.D.Door.called g.D.Door.left (sessions_of c.args.all.now)
    (sessions_of (with_value c.args.all.now c.args.key c.turn.new.self)) c.args.door.now c.turn.new.door c.args.key (seat_of c.in-Some.peer.now)
    (ap (λ slot. option_map seat_of slot) there) c.turn.ensures.answers
    (same_sessions c.args.all.now c.args.key c.in-Some.peer.now c.turn.new.self there c.turn.ensures.session)

pub returns-in-Some-clause-turned : goal.returns-in-Some-clause-turned
returns-in-Some-clause-turned g c =
    on_some _ _ _ c.in-Some.peer.now (sym c.in-Some.ensures.value) (c.turn.new.self, c.turn.ensures.steps, refl)
