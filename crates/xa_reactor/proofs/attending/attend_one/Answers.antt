use Rattle.xa_reactor.specs.Believed.Tending.{sessions_of}
use Rattle.xa_reactor.specs.Users.{users_of}
use Rattle.xa_reactor.proofs.Doing.{tends_login, tends_twice}
use Rattle.xa_reactor.proofs.attending.attend_one.Goals as goal

pub returns : goal.returns
returns g c =
    let users = users_of c.args.common.now in
    let old = sessions_of c.args.peers.now.all in
    let between = sessions_of c.look_at-outcome.new.peers.all in
    tends_twice users g.D.Reception.connected g.D.Door.called g.D.Door.left old between (sessions_of c.settle.new.peers.all)
    c.args.door.now c.args.door.now c.settle.new.door
    (tends_login users g.D.Reception.connected g.D.Door.called g.D.Door.left old between c.args.door.now c.look_at-outcome.ensures.logs)
    (c.settle.ensures users)
