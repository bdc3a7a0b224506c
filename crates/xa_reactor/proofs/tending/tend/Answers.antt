use Rattle.std.proofs.Common.{subst}
use Rattle.xa_reactor.specs.Believed.Tending.{Table, Tends, TendsPosting, nobody, sessions_of}
use Rattle.xa_reactor.proofs.Doing.{posting_tended, posting_twice, tends_twice}
use Rattle.xa_reactor.proofs.Settled.{still_settled}
use Rattle.xa_reactor.specs.Users.{users_of}
use Rattle.xa_reactor.proofs.tending.tend.Goals as goal

pub returns : goal.returns
returns g c =
    let after : Table = sessions_of c.run.new.peers.all in
    let ends : Tends (users_of c.args.common.now) g.D.Reception.connected g.D.Door.called g.D.Door.left after c.run.new.door nobody c.end_all.new.door =
    tends_twice (users_of c.args.common.now) g.D.Reception.connected g.D.Door.called g.D.Door.left after (sessions_of c.part_stopper-stopper.new.self.all) nobody
    c.run.new.door c.part_stopper-stopper.new.door c.end_all.new.door (c.part_stopper-stopper.ensures.tends (users_of c.args.common.now)) (c.end_all.ensures (users_of c.args.common.now)) in
    record {
      tends =
          subst (λ (table : Table). TendsPosting g.D.Reception.posts (users_of c.args.common.now) g.D.Reception.connected g.D.Door.called g.D.Door.left table c.args.door.now nobody c.end_all.new.door) c.new-peers.ensures.nobody
          (posting_twice g.D.Reception.posts (users_of c.args.common.now) g.D.Reception.connected g.D.Door.called g.D.Door.left (sessions_of c.new-peers.result.all) after nobody
          c.args.door.now c.run.new.door c.end_all.new.door c.run.ensures.tends
          (posting_tended g.D.Reception.posts (users_of c.args.common.now) g.D.Reception.connected g.D.Door.called g.D.Door.left after nobody c.run.new.door c.end_all.new.door ends));
      settled = λ was.
          still_settled (users_of c.args.common.now) g.D.Reception.connected g.D.Door.called g.D.Door.left g.D.Reception.is_settled g.met.D.Reception.keeps_settled after nobody
          c.run.new.door c.end_all.new.door ends (c.run.ensures.settled was);
    }
