use Rattle.xa_reactor.specs.Believed.Tending.{Table, sessions_of}
use Rattle.xa_reactor.proofs.ForAll.{all_aside, all_posting_tended, all_posting_thrice, all_posting_twice, all_twice, settled_by_all}
use Rattle.xa_reactor.proofs.tending.Loop.give_together.Goals as goal

pub returns-clause-tends : goal.returns-clause-tends
returns-clause-tends g c =
    let before : Table = sessions_of c.args.peers.now.all in
    let lingered : Table = sessions_of c.give_more-given.new.peers.all in
    let more : Table = sessions_of c.gather-more.new.peers.all in
    let peers = c.close_all.new.peers.all in
    all_posting_thrice g.D.Reception.connected g.D.Door.called g.D.Door.left g.D.Reception.posts before lingered more (sessions_of peers)
    c.args.door.now c.give_more-given.new.door c.gather-more.new.door c.keep_short.new.door
    (all_posting_twice g.D.Reception.connected g.D.Door.called g.D.Door.left g.D.Reception.posts before (sessions_of c.linger-lingered.new.peers.all) lingered
    c.args.door.now c.linger-lingered.new.door c.give_more-given.new.door
    (all_posting_thrice g.D.Reception.connected g.D.Door.called g.D.Door.left g.D.Reception.posts before (sessions_of c.answer_quick.new.peers.all) (sessions_of c.gather-gathered.new.peers.all) (sessions_of c.linger-lingered.new.peers.all)
    c.args.door.now c.answer_quick.new.door c.gather-gathered.new.door c.linger-lingered.new.door
    (all_posting_twice g.D.Reception.connected g.D.Door.called g.D.Door.left g.D.Reception.posts before (sessions_of c.open_turns.new.peers.all) (sessions_of c.answer_quick.new.peers.all)
    c.args.door.now c.open_turns.new.door c.answer_quick.new.door c.open_turns.ensures.tends c.answer_quick.ensures.tends)
    c.gather-gathered.ensures.tends c.linger-lingered.ensures.tends)
    c.give_more-given.ensures.tends)
    c.gather-more.ensures.tends
    (all_posting_tended g.D.Reception.connected g.D.Door.called g.D.Door.left g.D.Reception.posts more (sessions_of peers) c.gather-more.new.door c.keep_short.new.door
    (all_twice g.D.Reception.connected g.D.Door.called g.D.Door.left more (sessions_of peers) (sessions_of peers)
    c.gather-more.new.door c.close_all.new.door c.keep_short.new.door c.close_all.ensures.tends
    (all_aside g.D.Reception.connected g.D.Door.called g.D.Door.left peers c.close_all.new.door c.keep_short.new.door c.keep_short.ensures.aside)))

pub returns-clause-settled : goal.returns-clause-settled
returns-clause-settled g c =
    let peers = c.close_all.new.peers.all in
    settled_by_all g.D.Reception.connected g.D.Door.called g.D.Door.left g.D.Reception.is_settled g.met.D.Reception.keeps_settled
    (sessions_of peers) (sessions_of peers) c.close_all.new.door c.keep_short.new.door
    (all_aside g.D.Reception.connected g.D.Door.called g.D.Door.left peers c.close_all.new.door c.keep_short.new.door c.keep_short.ensures.aside)
    c.close_all.ensures.settled
