use Rattle.std.proofs.Common.{◌∷◌, ◌++◌, [], inr, refl, arith}
use Rattle.std.proofs.lemmas.List.{length-append}
use Rattle.std.proofs.lemmas.Result.{err_from_is_err_and}
use Rattle.xa_talk.proofs.Ticking.{tick_more}
use Rattle.xa_talk.proofs.tick.tick_run.Goals as goal

pub loop-init : goal.loop-init
loop-init g c = (c.in-Ok.connection, [], refl, (c.plain-last.ensures, refl, refl))

pub loop-preserved : goal.loop-preserved
loop-preserved g c =
    let before = c.loop.invariant in (
      before.0,
      before.1 ++ c.in_ok-last.last ∷ [],
      omega (arith, before.2, length-append before.1 (c.in_ok-last.last ∷ [])),
      tick_more _ _ _ _ _ _ _ before.1 _ _ _ _ _ _ before.3 c.in_ok-last.ensures,
    )

pub returns-in_err-last : goal.returns-in_err-last
returns-in_err-last g c =
    let p = err_from_is_err_and c.from_residual.result c.from_residual.ensures.1 in
    let before = c.loop.invariant in
    rw (p.1, p.2) (inr record {
      replies = before.1;
      last = c.loop.last;
      behind = c.loop.ticker;
      c = before.0;
      c' = c.loop.connection;
      c'' = c.tick.new.connection;
      ticks = before.3;
      ended = c.in_err-last.ensures;
    })

pub returns : goal.returns
returns g c =
    let before = c.loop.invariant in
    inr record {
      replies = before.1;
      last = c.loop.last;
      behind = c.loop.ticker;
      c = before.0;
      c' = c.loop.connection;
      c'' = c.loop.connection;
      ticks = before.3;
      ended = (omega (arith, before.2, c.loop-test.false), refl, refl);
    }
