use Rattle.xa_reactor.specs.Believed.Tending.{sessions_of}
use Rattle.xa_reactor.proofs.ForAll.{all_twice}
use Rattle.xa_reactor.proofs.attending.cut_all.Goals as goal

pub loop-preserved : goal.loop-preserved
loop-preserved g c =
    all_twice g.D.Reception.connected g.D.Door.called g.D.Door.left (sessions_of c.args.peers.now.all) (sessions_of c.loop.peers.all) (sessions_of c.cut_peers.new.peers.all)
    c.args.door.now c.loop.door c.cut_peers.new.door c.loop.invariant c.cut_peers.ensures.tends
