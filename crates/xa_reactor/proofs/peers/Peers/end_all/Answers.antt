use Rattle.std.proofs.Common.{◌≡◌, ◌∙◌, None, arith, subst}
use borrow.Author.Count.{below_more}
use Rattle.slab.specs.Slab.{get}
use Rattle.xa_reactor.specs.Believed.Tending.{sessions_of}
use Rattle.xa_reactor.proofs.Doing.{no_sessions, none_beyond}
use Rattle.xa_reactor.specs.ForAll.{TendsForAll}
use Rattle.xa_reactor.proofs.ForAll.{all_twice}
use Rattle.xa_reactor.proofs.peers.Peers.end_all.Goals as goal

pub loop-key-preserved : goal.loop-key-preserved
loop-key-preserved g c = record {
  tends = all_twice g.D.Reception.connected g.D.Door.called g.D.Door.left (sessions_of c.args.self.now.all) (sessions_of c.loop-key.self.all) (sessions_of c.end_in.new.all)
      c.args.door.now c.loop-key.door c.end_in.new.door c.loop-key.invariant.tends c.end_in.ensures.tends;
  none = below_more (λ key. get c.end_in.new.all key ≡ None) _ (λ key below. c.end_in.ensures.others key (c.loop-key.invariant.none key below)) c.end_in.ensures.updates.changed;
  slots = c.end_in.ensures.slots ∙ c.loop-key.invariant.slots;
}

pub returns : goal.returns
returns g c =
    let last = c.loop-key.self.all in
    let none = none_beyond last.slots c.loop-key.key c.loop-key.invariant.none (omega (arith, c.loop-key.invariant.slots, c.capacity-key-end.ensures.slots)) in
    subst (λ table. TendsForAll g.D.Reception.connected g.D.Door.called g.D.Door.left (sessions_of c.args.self.now.all) c.args.door.now table c.loop-key.door)
    (no_sessions last none) c.loop-key.invariant.tends
