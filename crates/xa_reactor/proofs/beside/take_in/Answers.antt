use Rattle.xa_reactor.specs.Believed.Tending.{sessions_of}
use Rattle.xa_reactor.proofs.Doing.{tends_twice}
use Rattle.xa_reactor.specs.Users.{users_of}
use Rattle.xa_reactor.proofs.beside.take_in.Goals as goal

pub loop-preserved : goal.loop-preserved
loop-preserved g c =
    tends_twice (users_of c.args.common.now) g.D.Reception.connected g.D.Door.called g.D.Door.left (sessions_of c.args.peers.now.all) (sessions_of c.loop.peers.all) (sessions_of c.add.new.self.all)
    c.args.door.now c.loop.door c.add.new.door c.loop.invariant c.add.ensures.tends
