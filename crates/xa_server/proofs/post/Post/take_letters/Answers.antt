use Rattle.std.proofs.Common.{List, arith, ap, length}
use Rattle.xa_handles.specs.Owing.{owes_some}
use Rattle.xa_reactor.specs.declared.ask.Ask.{Ask}
use Rattle.xa_server.proofs.Rounds.{takes_twice}
use Rattle.xa_server.proofs.post.Post.take_letters.Goals as goal

pub take_letter-requires : goal.take_letter-requires
take_letter-requires g c = owes_some c.loop.self.handle.asker c.owed.result c.owed.ensures c.if-owed-eq0.false

pub returns-in_err-held-clause-back : goal.returns-in_err-held-clause-back
returns-in_err-held-clause-back g c =
    takes_twice g.M.Manages.manages g.S.Start.start g.S.Start.base c.args.asks.now c.loop.asks c.take_letter.new.asks _ _ _
    c.loop.invariant.back c.take_letter.ensures

pub loop-preserved : goal.loop-preserved
loop-preserved g c = record {
  back = takes_twice g.M.Manages.manages g.S.Start.start g.S.Start.base c.args.asks.now c.loop.asks c.take_letter.new.asks _ _ _
      c.loop.invariant.back c.take_letter.ensures;
  same = λ none. absurd (omega (arith, ap (λ (xs : List Ask). length xs) none));
}
