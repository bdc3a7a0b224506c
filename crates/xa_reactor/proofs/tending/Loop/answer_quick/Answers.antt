use Rattle.xa_reactor.specs.Believed.Tending.{sessions_of}
use Rattle.xa_reactor.proofs.ForAll.{all_posting_tended}
use Rattle.xa_reactor.proofs.tending.Loop.answer_quick.Goals as goal

pub returns-clause-tends : goal.returns-clause-tends
returns-clause-tends g c =
    all_posting_tended g.D.Reception.connected g.D.Door.called g.D.Door.left g.D.Reception.posts
    (sessions_of c.args.peers.now.all) (sessions_of c.answer_quick.new.peers.all) c.args.door.now c.answer_quick.new.door c.answer_quick.ensures.tends
