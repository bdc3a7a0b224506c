use Rattle.std.proofs.Common.{ap, refl, sym}
use Rattle.std.specs.Option.{option_map}
use Rattle.xa_reactor.specs.Believed.Tending.{seat_of, sessions_of}
use Rattle.xa_reactor.proofs.Asking.{opens_at}
use Rattle.xa_reactor.proofs.Doing.{same_sessions}
use Rattle.xa_reactor.proofs.Noticed.{on_some}
use Rattle.xa_reactor.proofs.ForAll.{all_none}
use Rattle.xa_reactor.proofs.peers.Peers.open_turn.Goals as goal

pub returns-in-Some-clause-same : goal.returns-in-Some-clause-same
returns-in-Some-clause-same g c =
    sym (same_sessions c.args.self.now.all c.args.key c.in-Some.peer.now c.open_turn.new.self (sym c.in-Some.ensures.value) c.open_turn.ensures.session)

pub returns-in-Some-clause-opens : goal.returns-in-Some-clause-opens
returns-in-Some-clause-opens g c =
    opens_at g.D.Door.called g.D.Reception.connected g.D.Door.left (sessions_of c.args.self.now.all) c.in-Some.peer.now c.args.key c.open_turn.result c.open_turn.new.self
    c.args.door.now c.open_turn.new.door (ap (λ slot. option_map seat_of slot) (sym c.in-Some.ensures.value)) c.open_turn.ensures.opens

pub returns-in-None-clause-opens : goal.returns-in-None-clause-opens
returns-in-None-clause-opens g c = all_none g.D.Reception.connected g.D.Door.called g.D.Door.left _ _ c.args.door.now refl

pub returns-in-Some-clause-opened : goal.returns-in-Some-clause-opened
returns-in-Some-clause-opened g c =
    on_some _ _ _ c.in-Some.peer.now (sym c.in-Some.ensures.value) (c.open_turn.new.self, c.open_turn.ensures.steps, refl)
