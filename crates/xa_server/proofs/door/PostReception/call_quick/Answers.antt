use Rattle.std.proofs.Common.{◌<◌, arith, length, refl}
use Rattle.xa_reactor.proofs.Each.{one_more, still}
use Rattle.xa_reactor.specs.Asking.{HasRequest}
use Rattle.xa_reactor.specs.declared.ask.Ask.{Ask}
use Rattle.xa_server.specs.Believed.Loops.{Called}
use Rattle.xa_server.proofs.Rounds.{tells_by, tells_more, tells_none}
use Rattle.xa_server.proofs.door.PostReception.call_quick.Goals as goal

pub loop-ask-init : goal.loop-ask-init
loop-ask-init g c = record { some = tells_none _ c.args.asks.now c.args.self.now; part = refl }

pub answer_now-requires : goal.answer_now-requires
answer_now-requires g c =
    still (λ (a b : Ask). Unit {0}) HasRequest c.loop-ask.ask-index c.args.asks.now c.loop-ask.asks _ c.loop-ask.invariant.part c.requires (omega arith)

pub loop-ask-preserved : goal.loop-ask-preserved
loop-ask-preserved g c =
    let lt : c.loop-ask.ask-index < length c.loop-ask.asks = omega arith in
    record {
      some = tells_more _ c.args.asks.now c.loop-ask.asks c.args.self.now c.loop-ask.self c.answer_now.new.self c.loop-ask.ask-index _ c.answer_now.new.ask
          c.loop-ask.invariant.some lt
          (tells_by (Called g.M.Manages.manages g.S.Start.start g.S.Start.base) (λ p. p.handle.asker) c.loop-ask.self c.answer_now.new.self _ c.answer_now.new.ask c.answer_now.ensures);
      part = one_more (λ (a b : Ask). Unit {0}) c.loop-ask.ask-index c.args.asks.now c.loop-ask.asks c.answer_now.new.ask c.answer_now.new.ask c.loop-ask.invariant.part lt tt;
    }

pub returns : goal.returns
returns g c = c.loop-ask.invariant.some
