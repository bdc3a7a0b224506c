use Rattle.std.proofs.Common.{◌∙◌, arith, subst, sym}
use borrow.Author.Count.{below_more}
use Rattle.slab.specs.Slab.{get}
use Rattle.xa_reactor.specs.Believed.Tending.{sessions_of}
use Rattle.xa_reactor.specs.Since.{IsLooked}
use Rattle.xa_reactor.proofs.Looking.{looked_at, looked_one, looked_other}
use Rattle.xa_reactor.proofs.ForAll.{all_twice}
use Rattle.xa_reactor.proofs.peers.Peers.end_overdue.Goals as goal

pub loop-key-preserved : goal.loop-key-preserved
loop-key-preserved g c =
    let looks = c.end_if_overdue.ensures.looks in
    let last = c.loop-key.self.all in
    let next = c.end_if_overdue.new.all in
    let first = c.args.self.now.all in
    record {
      tends = all_twice g.D.Reception.connected g.D.Door.called g.D.Door.left (sessions_of first) (sessions_of last) (sessions_of next)
          c.args.door.now c.loop-key.door c.end_if_overdue.new.door c.loop-key.invariant.tends c.end_if_overdue.ensures.tends;
      looked = below_more (λ key. IsLooked g.D.Reception.ties c.args.settings.now c.args.now (get first key) (get next key)) c.loop-key.key
          (λ key below.
          subst (λ slot. IsLooked g.D.Reception.ties c.args.settings.now c.args.now (get first key) slot)
          (sym (looked_other g.D.Reception.ties c.args.settings.now c.args.now c.loop-key.key key last next c.loop-key.door looks (λ is. absurd (omega (arith, is, below)))))
          (c.loop-key.invariant.looked key below))
          (subst (λ slot. IsLooked g.D.Reception.ties c.args.settings.now c.args.now slot (get next c.loop-key.key))
          (c.loop-key.invariant.rest c.loop-key.key (omega arith))
          (looked_one g.D.Reception.ties c.args.settings.now c.args.now c.loop-key.key last next c.loop-key.door looks));
      rest = λ key beyond.
          looked_other g.D.Reception.ties c.args.settings.now c.args.now c.loop-key.key key last next c.loop-key.door looks (λ is. absurd (omega (arith, is, beyond)))
          ∙ c.loop-key.invariant.rest key (omega (arith, beyond));
      turns = c.loop-key.invariant.turns;
    }

pub returns-clause-looks : goal.returns-clause-looks
returns-clause-looks g c =
    looked_at g.D.Reception.ties c.args.settings.now c.args.now c.args.self.now.all c.loop-key.self.all c.loop-key.key
    c.loop-key.invariant.looked c.loop-key.invariant.rest (omega (arith, c.capacity-key-end.ensures.slots))

pub returns-clause-tends : goal.returns-clause-tends
returns-clause-tends g c = c.loop-key.invariant.tends

pub returns-clause-turns : goal.returns-clause-turns
returns-clause-turns g c = c.loop-key.invariant.turns
