use Rattle.std.proofs.Common.{◌∙◌, arith, refl}
use Rattle.xa_reactor.specs.Believed.Tending.{Table, sessions_of}
use Rattle.xa_reactor.proofs.ForAll.{all_posting_none, all_posting_twice}
use Rattle.xa_reactor.proofs.together.Together.open_turns.Goals as goal

pub loop-init : goal.loop-init
loop-init g c =
    let table : Table = sessions_of c.args.peers.now.all in
    record {
      tends = all_posting_none g.D.Reception.connected g.D.Door.called g.D.Door.left g.D.Reception.posts table table c.args.door.now refl;
      lent = c.reserve.ensures.lent table c.requires;
      turns = omega (arith, c.reserve.ensures.turns);
    }

pub loop-preserved : goal.loop-preserved
loop-preserved g c = record {
  tends = all_posting_twice g.D.Reception.connected g.D.Door.called g.D.Door.left g.D.Reception.posts (sessions_of c.args.peers.now.all) (sessions_of c.loop.peers.all) (sessions_of c.open_turn.new.peers.all)
      c.args.door.now c.loop.door c.open_turn.new.door c.loop.invariant.tends c.open_turn.ensures.tends;
  lent = c.open_turn.ensures.lent;
  turns = c.open_turn.ensures.turns ∙ c.loop.invariant.turns;
}

pub returns-then-not-reserve-clause-lent : goal.returns-then-not-reserve-clause-lent
returns-then-not-reserve-clause-lent g c = c.reserve.ensures.lent (sessions_of c.args.peers.now.all) c.requires
