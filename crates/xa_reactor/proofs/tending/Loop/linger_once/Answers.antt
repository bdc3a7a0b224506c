use Rattle.std.proofs.Common.{◌≡◌, ◌∙◌, ap, subst, sym}
use Rattle.xa_reactor.specs.Believed.Tending.{Table, sessions_of}
use Rattle.xa_reactor.specs.Together.{HasLent}
use Rattle.xa_reactor.specs.ForAll.{PostsForAll}
use Rattle.xa_reactor.proofs.ForAll.{all_posting_twice}
use Rattle.xa_reactor.proofs.tending.Loop.linger_once.Goals as goal

pub open_turns-requires : goal.open_turns-requires
open_turns-requires g c =
    let same : sessions_of c.note_all-accepts.new.peers.all ≡ sessions_of c.args.peers.now.all = c.note_all-accepts.ensures.same ∙ ap sessions_of c.reserve.ensures.same.0 in
    subst (λ (t : Table). HasLent t c.args.self.now.tools.together) (sym same) c.requires

pub returns-clause-tends : goal.returns-clause-tends
returns-clause-tends g c =
    let before : Table = sessions_of c.args.peers.now.all in
    let mid : Table = sessions_of c.open_turns.new.peers.all in
    let same : sessions_of c.note_all-accepts.new.peers.all ≡ before = c.note_all-accepts.ensures.same ∙ ap sessions_of c.reserve.ensures.same.0 in
    all_posting_twice g.D.Reception.connected g.D.Door.called g.D.Door.left g.D.Reception.posts before mid (sessions_of c.answer_quick.new.peers.all)
    c.args.door.now c.open_turns.new.door c.answer_quick.new.door
    (subst (λ (t : Table). PostsForAll g.D.Reception.connected g.D.Door.called g.D.Door.left g.D.Reception.posts t c.args.door.now mid c.open_turns.new.door)
    same c.open_turns.ensures.tends)
    c.answer_quick.ensures.tends
