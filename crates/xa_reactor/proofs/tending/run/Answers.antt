use Rattle.xa_reactor.specs.Believed.Tending.{sessions_of}
use Rattle.xa_reactor.proofs.Doing.{posting_twice}
use Rattle.xa_reactor.specs.Users.{users_of}
use Rattle.xa_reactor.proofs.tending.run.Goals as goal

pub loop-preserved : goal.loop-preserved
loop-preserved g c = record {
  tends = posting_twice g.D.Reception.posts (users_of c.args.common.now) g.D.Reception.connected g.D.Door.called g.D.Door.left
      (sessions_of c.args.peers.now.all) (sessions_of c.loop.peers.all) (sessions_of c.serve_round.new.peers.all)
      c.args.door.now c.loop.door c.serve_round.new.door c.loop.invariant.tends c.serve_round.ensures.tends;
  settled = λ was. c.serve_round.ensures.settled (c.loop.invariant.settled was);
}

pub returns-then-not-branch-clause-tends : goal.returns-then-not-branch-clause-tends
returns-then-not-branch-clause-tends g c =
    posting_twice g.D.Reception.posts (users_of c.args.common.now) g.D.Reception.connected g.D.Door.called g.D.Door.left
    (sessions_of c.args.peers.now.all) (sessions_of c.loop.peers.all) (sessions_of c.serve_round.new.peers.all)
    c.args.door.now c.loop.door c.serve_round.new.door c.loop.invariant.tends c.serve_round.ensures.tends

pub returns-in_err-serve_round-clause-tends : goal.returns-in_err-serve_round-clause-tends
returns-in_err-serve_round-clause-tends g c =
    posting_twice g.D.Reception.posts (users_of c.args.common.now) g.D.Reception.connected g.D.Door.called g.D.Door.left
    (sessions_of c.args.peers.now.all) (sessions_of c.loop.peers.all) (sessions_of c.serve_round.new.peers.all)
    c.args.door.now c.loop.door c.serve_round.new.door c.loop.invariant.tends c.serve_round.ensures.tends
