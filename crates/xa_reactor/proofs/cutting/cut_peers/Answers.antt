use Rattle.std.proofs.Common.{◌≡◌, ◌∙◌, ap, arith, subst, sym}
use borrow.Author.Count.{below_more}
use Rattle.slab.specs.Slab.{get}
use Rattle.xa_reactor.specs.Believed.Tending.{sessions_of}
use Rattle.xa_reactor.specs.Cuts.{left_by}
use Rattle.xa_reactor.proofs.Left.{cut_beyond}
use Rattle.xa_reactor.proofs.ForAll.{all_twice}
use Rattle.xa_reactor.proofs.cutting.cut_peers.Goals as goal

pub loop-key-preserved : goal.loop-key-preserved
loop-key-preserved g c =
    let last = c.loop-key.peers.all in
    let next = c.cut_one-ends.new.all in
    let first = c.args.peers.now.all in
    let i = c.loop-key.invariant in
    record {
      tends = all_twice g.D.Reception.connected g.D.Door.called g.D.Door.left (sessions_of first) (sessions_of last) (sessions_of next)
          c.args.door.now c.loop-key.door c.cut_one-ends.new.door i.tends c.cut_one-ends.ensures.tends;
      left = below_more (λ key. get next key ≡ left_by c.args.cut (get first key)) c.loop-key.key
          (λ key below. c.cut_one-ends.ensures.others key (λ is. absurd (omega (arith, is, below))) ∙ i.left key below)
          (c.cut_one-ends.ensures.left ∙ ap (λ slot. left_by c.args.cut slot) (i.rest c.loop-key.key (omega arith)));
      rest = λ key beyond. c.cut_one-ends.ensures.others key (λ is. absurd (omega (arith, is, beyond))) ∙ i.rest key (omega (arith, beyond));
      turns = i.turns;
    }

pub returns-clause-cut : goal.returns-clause-cut
returns-clause-cut g c =
    cut_beyond c.args.cut c.args.peers.now.all c.loop-key.peers.all c.loop-key.key c.loop-key.invariant.left c.loop-key.invariant.rest
    (omega (arith, c.capacity-key-end.ensures.slots))

pub returns-clause-tends : goal.returns-clause-tends
returns-clause-tends g c = c.loop-key.invariant.tends

pub returns-clause-turns : goal.returns-clause-turns
returns-clause-turns g c = c.loop-key.invariant.turns
