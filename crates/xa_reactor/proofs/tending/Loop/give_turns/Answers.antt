use Rattle.xa_reactor.specs.Believed.Tending.{sessions_of}
use Rattle.xa_reactor.proofs.ForAll.{all_posting_tended, settled_by_all}
use Rattle.xa_reactor.proofs.tending.Loop.give_turns.Goals as goal

pub returns-clause-tends : goal.returns-clause-tends
returns-clause-tends g c =
    all_posting_tended g.D.Reception.connected g.D.Door.called g.D.Door.left g.D.Reception.posts (sessions_of c.args.peers.now.all) (sessions_of c.give_each.new.peers.all)
    c.args.door.now c.give_each.new.door c.give_each.ensures

pub returns-clause-settled : goal.returns-clause-settled
returns-clause-settled g c was =
    settled_by_all g.D.Reception.connected g.D.Door.called g.D.Door.left g.D.Reception.is_settled g.met.D.Reception.keeps_settled _ _
    c.args.door.now c.give_each.new.door c.give_each.ensures was

pub give_together-requires : goal.give_together-requires
give_together-requires g c = c.begin.ensures.lent (sessions_of c.args.peers.now.all)
