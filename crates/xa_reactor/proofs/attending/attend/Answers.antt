use Rattle.xa_reactor.specs.Believed.Tending.{sessions_of}
use Rattle.xa_reactor.proofs.Doing.{tends_thrice}
use Rattle.xa_reactor.specs.Users.{users_of}
use Rattle.xa_reactor.proofs.attending.attend.Goals as goal

pub returns : goal.returns
returns g c =
    tends_thrice (users_of c.args.common.now) g.D.Reception.connected g.D.Door.called g.D.Door.left (sessions_of c.args.peers.now.all) (sessions_of c.attend_all.new.peers.all)
    (sessions_of c.cut_all.new.peers.all) (sessions_of c.attend_all-2.new.peers.all)
    c.args.door.now c.attend_all.new.door c.cut_all.new.door c.attend_all-2.new.door c.attend_all.ensures (c.cut_all.ensures (users_of c.args.common.now)) c.attend_all-2.ensures
