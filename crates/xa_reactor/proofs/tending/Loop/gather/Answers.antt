use Rattle.xa_reactor.specs.Believed.Tending.{Table, sessions_of}
use Rattle.xa_reactor.proofs.ForAll.{all_posting_twice}
use Rattle.xa_reactor.proofs.tending.Loop.gather.Goals as goal

pub returns-in_default-clause-tends : goal.returns-in_default-clause-tends
returns-in_default-clause-tends g c =
    let before : Table = sessions_of c.loop-looks.peers.all in
    let after : Table = sessions_of c.linger_once.new.peers.all in
    all_posting_twice g.D.Reception.connected g.D.Door.called g.D.Door.left g.D.Reception.posts (sessions_of c.args.peers.now.all) before after
    c.args.door.now c.loop-looks.door c.linger_once.new.door c.loop-looks.invariant.tends c.linger_once.ensures.tends

pub loop-looks-preserved : goal.loop-looks-preserved
loop-looks-preserved g c =
    let before : Table = sessions_of c.loop-looks.peers.all in
    let after : Table = sessions_of c.linger_once.new.peers.all in
    record {
      tends = all_posting_twice g.D.Reception.connected g.D.Door.called g.D.Door.left g.D.Reception.posts (sessions_of c.args.peers.now.all) before after
          c.args.door.now c.loop-looks.door c.linger_once.new.door c.loop-looks.invariant.tends c.linger_once.ensures.tends;
      lent = c.linger_once.ensures.lent;
    }
