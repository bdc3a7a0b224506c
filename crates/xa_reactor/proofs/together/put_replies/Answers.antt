use Rattle.std.proofs.Common.{◌<◌, ◌≤◌, length, arith, refl}
use Rattle.xa_reactor.specs.Asking.{MayBeTold, PutsIf}
use Rattle.xa_reactor.proofs.Each.{all_of, one_more, still}
use Rattle.xa_reactor.proofs.together.put_replies.Goals as goal

pub loop-ask-init : goal.loop-ask-init
loop-ask-init c = refl

-- what isn't put yet is told still
pub put_reply-requires : goal.put_reply-requires
put_reply-requires c =
    still PutsIf MayBeTold c.loop-ask.ask-index c.args.asks.now c.loop-ask.asks _ c.loop-ask.invariant c.requires (omega arith)

pub loop-ask-preserved : goal.loop-ask-preserved
loop-ask-preserved c =
    let lt : c.loop-ask.ask-index < length c.loop-ask.asks = omega arith in
    one_more PutsIf c.loop-ask.ask-index c.args.asks.now c.loop-ask.asks _ _ c.loop-ask.invariant lt c.put_reply.ensures

pub returns : goal.returns
returns c =
    let le : length c.loop-ask.asks ≤ c.loop-ask.ask-index = omega arith in
    all_of PutsIf c.loop-ask.ask-index c.args.asks.now c.loop-ask.asks c.loop-ask.invariant le
