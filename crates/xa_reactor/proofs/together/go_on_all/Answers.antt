use Rattle.std.proofs.Common.{◌≡◌, ◌∙◌, ◌-◌, ap, arith, refl, subst, sym}
use Rattle.std.specs.Vec.Iter.{drain_items}
use Rattle.std.specs.Vec.{vec_len}
use Rattle.std.proofs.lemmas.List.{take_all}
use Rattle.xa_reactor.specs.Believed.Tending.{sessions_of}
use Rattle.xa_reactor.specs.Together.{GoesOnAll}
use Rattle.xa_reactor.proofs.ForAll.{all_none, all_twice}
use Rattle.xa_reactor.proofs.together.go_on_all.Goals as goal

pub loop-key-init : goal.loop-key-init
loop-key-init g c =
    let over = c.args.over.now in
    let all : drain_items c.into_iter-key-iterator.result ≡ over.items =
    ap drain_items c.into_iter-key-iterator.ensures.into_iter_gives
    ∙ (c.drain-key-items.ensures.rest ∙ take_all (vec_len over - 0) over.items (omega arith)) in
    record {
      goes = λ final later. subst (λ turns. GoesOnAll c.args.peers.now turns final) all later;
      tends = all_none g.D.Reception.connected g.D.Door.called g.D.Door.left _ _ c.args.door.now refl;
    }

pub loop-key-preserved : goal.loop-key-preserved
loop-key-preserved g c = record {
  goes = λ final later.
      c.loop-key.invariant.goes final
      (subst (λ turns. GoesOnAll c.loop-key.peers turns final) (sym c.in-Some.ensures.steps.0) (c.go_on.new.self, c.go_on.ensures.goes, later));
  tends = all_twice g.D.Reception.connected g.D.Door.called g.D.Door.left (sessions_of c.args.peers.now.all) (sessions_of c.loop-key.peers.all) (sessions_of c.go_on.new.self.all)
      c.args.door.now c.loop-key.door c.go_on.new.door c.loop-key.invariant.tends c.go_on.ensures.tends;
}

pub returns-clause-goes : goal.returns-clause-goes
returns-clause-goes g c =
    c.loop-key.invariant.goes c.loop-key.peers
    (subst (λ turns. GoesOnAll c.loop-key.peers turns c.loop-key.peers) (sym c.in-None.ensures.steps.0) refl)
