use Rattle.xa_reactor.specs.Believed.Tending.{sessions_of}
use Rattle.xa_reactor.proofs.ForAll.{all_aside, all_thrice}
use Rattle.xa_reactor.proofs.tools.give_each.Goals as goal

pub loop-preserved : goal.loop-preserved
loop-preserved g c =
    let peers = c.give_turn.new.self.all in
    all_thrice g.D.Reception.connected g.D.Door.called g.D.Door.left (sessions_of c.args.peers.now.all) (sessions_of c.loop.peers.all) (sessions_of peers) (sessions_of peers)
    c.args.door.now c.loop.door c.give_turn.new.door c.keep_short.new.door c.loop.invariant c.give_turn.ensures.tends
    (all_aside g.D.Reception.connected g.D.Door.called g.D.Door.left peers c.give_turn.new.door c.keep_short.new.door c.keep_short.ensures.aside)
