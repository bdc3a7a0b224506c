use Rattle.std.proofs.Common.{◌∙◌}
use Rattle.xa_server.specs.Believed.Loops.{Called}
use Rattle.xa_server.proofs.Rounds.{none_still, takes_twice}
use Rattle.xa_server.proofs.post.Post.take_back.Goals as goal

pub returns-then-owed-eq0-2-clause-back : goal.returns-then-owed-eq0-2-clause-back
returns-then-owed-eq0-2-clause-back g c =
    takes_twice g.M.Manages.manages g.S.Start.start g.S.Start.base c.args.asks.now c.loop.asks c.take_turn.new.asks _ _ _
    c.loop.invariant.back c.take_turn.ensures.back

pub loop-preserved : goal.loop-preserved
loop-preserved g c = record {
  back = takes_twice g.M.Manages.manages g.S.Start.start g.S.Start.base c.args.asks.now c.loop.asks c.take_turn.new.asks _ _ _
      c.loop.invariant.back c.take_turn.ensures.back;
  same = λ none.
      c.take_turn.ensures.same
      (none_still (Called g.M.Manages.manages g.S.Start.start g.S.Start.base) c.args.asks.now c.loop.asks _ _ none c.loop.invariant.back.some)
      ∙ c.loop.invariant.same none;
}
