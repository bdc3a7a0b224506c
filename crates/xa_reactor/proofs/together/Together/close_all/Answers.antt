use Rattle.std.proofs.Common.{◌∙◌, ap, arith}
use Rattle.std.specs.Vec.{vec_len}
use Rattle.std.specs.VecDeque.{deque_len}
use Rattle.xa_reactor.specs.Believed.Tending.{sessions_of}
use Rattle.xa_reactor.proofs.Asking.{lent_still}
use Rattle.xa_reactor.proofs.Keeping.{kept_count, kept_more}
use Rattle.xa_reactor.proofs.ForAll.{all_thrice, all_twice, settled_by_all}
use Rattle.xa_reactor.proofs.together.Together.close_all.Goals as goal

pub give_waiting-requires-clause-lent : goal.give_waiting-requires-clause-lent
give_waiting-requires-clause-lent g c = c.answer_quick.ensures.lent.waiting

pub give_waiting-requires-2-clause-lent : goal.give_waiting-requires-2-clause-lent
give_waiting-requires-2-clause-lent g c =
    lent_still (sessions_of c.answer_quick.new.peers.all) (sessions_of c.give_waiting.new.peers.all) c.answer_quick.new.self.quick.items
    c.give_waiting.ensures.same c.answer_quick.ensures.lent.quick

pub returns-clause-tends : goal.returns-clause-tends
returns-clause-tends g c =
    all_twice g.D.Reception.connected g.D.Door.called g.D.Door.left (sessions_of c.args.peers.now.all) (sessions_of c.give_waiting-2.new.peers.all)
    (sessions_of c.go_on_all.new.peers.all) c.args.door.now c.give_waiting-2.new.door c.go_on_all.new.door
    (all_thrice g.D.Reception.connected g.D.Door.called g.D.Door.left (sessions_of c.args.peers.now.all) (sessions_of c.answer_quick.new.peers.all)
    (sessions_of c.give_waiting.new.peers.all) (sessions_of c.give_waiting-2.new.peers.all)
    c.args.door.now c.answer_quick.new.door c.give_waiting.new.door c.give_waiting-2.new.door
    c.answer_quick.ensures.tends c.give_waiting.ensures.tends c.give_waiting-2.ensures.tends)
    c.go_on_all.ensures.tends

pub returns-clause-goes : goal.returns-clause-goes
returns-clause-goes g c =
    let old = c.args.peers.now in
    let quick = c.answer_quick in
    let one = c.give_waiting in
    let two = c.give_waiting-2 in
    let xs = c.args.self.now.over.items in
    let first = kept_more old quick.new.peers one.new.peers xs quick.new.self.over.items one.new.over.items one.ensures.over.0 quick.ensures.kept one.ensures.over.1 one.ensures.turns.1 in
    let all = kept_more old one.new.peers two.new.peers xs one.new.over.items two.new.over.items two.ensures.over.0 first two.ensures.over.1 two.ensures.turns.1 in
    record {
      between = two.new.peers;
      over = two.new.over.items;
      kept = all;
      count = kept_count old two.new.peers xs two.new.over.items all _
          (omega (arith, ap vec_len quick.ensures.waiting, quick.ensures.turns, one.ensures.turns.0, two.ensures.turns.0, ap deque_len one.ensures.turns.1, ap deque_len two.ensures.turns.1));
      same = two.ensures.same ∙ one.ensures.same ∙ quick.ensures.same;
      goes = c.go_on_all.ensures.goes;
    }

pub returns-clause-settled : goal.returns-clause-settled
returns-clause-settled g c =
    settled_by_all g.D.Reception.connected g.D.Door.called g.D.Door.left g.D.Reception.is_settled g.met.D.Reception.keeps_settled
    (sessions_of c.give_waiting-2.new.peers.all) (sessions_of c.go_on_all.new.peers.all)
    c.give_waiting-2.new.door c.go_on_all.new.door c.go_on_all.ensures.tends c.give_waiting-2.ensures.settled
