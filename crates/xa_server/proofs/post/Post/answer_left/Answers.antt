use Rattle.std.proofs.Common.{◌≡◌, ◌<◌, ℕ, List, length, refl, ap, arith, subst}
use Rattle.std.specs.List.{AllWithin}
use Rattle.std.proofs.lemmas.List.Elements.{All-from_all_within, All-get_or, AllWithin-more_set, AllWithin-none}
use Rattle.xa_reactor.specs.Asking.{IsAnswered}
use Rattle.xa_reactor.specs.declared.ask.Ask.{Ask}
use Rattle.xa_server.specs.Believed.Loops.{Called}
use Rattle.xa_server.specs.Rounds.{IsWithin}
use Rattle.xa_server.proofs.Rounds.{left_within, tells_more, tells_none}
use Rattle.xa_server.proofs.post.Post.answer_left.Goals as goal

pub loop-ask-init : goal.loop-ask-init
loop-ask-init g c = record {
  some = tells_none (Called g.M.Manages.manages g.S.Start.start g.S.Start.base) _ _;
  same = λ none. refl;
  none = AllWithin-none IsAnswered _ 0;
  settled = λ owes. owes;
}

pub answer-requires : goal.answer-requires
answer-requires g c =
    let lt : c.loop-ask.ask-index < length c.loop-ask.asks = omega arith in
    All-get_or IsWithin c.loop-ask.asks c.loop-ask.ask-index _ lt
    (left_within (Called g.M.Manages.manages g.S.Start.start g.S.Start.base) c.args.asks.now c.loop-ask.asks _ _ c.loop-ask.invariant.some c.requires)

pub loop-ask-preserved : goal.loop-ask-preserved
loop-ask-preserved g c =
    let lt : c.loop-ask.ask-index < length c.loop-ask.asks = omega arith in
    record {
      some = tells_more (Called g.M.Manages.manages g.S.Start.start g.S.Start.base) c.args.asks.now c.loop-ask.asks _ _ _ c.loop-ask.ask-index _ c.answer.new.ask
          c.loop-ask.invariant.some lt c.answer.ensures.told;
      same = λ none. absurd (omega (arith, ap (λ (xs : List Ask). length xs) none));
      none = AllWithin-more_set c.loop-ask.asks c.loop-ask.ask-index c.answer.new.ask lt IsAnswered c.loop-ask.invariant.none c.answer.ensures.gone;
      settled = λ owes. c.answer.ensures.settled (c.loop-ask.invariant.settled owes);
    }

pub returns-clause-none : goal.returns-clause-none
returns-clause-none g c =
    let all : c.loop-ask.ask-index ≡ length c.loop-ask.asks = omega arith in
    All-from_all_within IsAnswered c.loop-ask.asks
    (subst (λ (n : ℕ). AllWithin IsAnswered c.loop-ask.asks 0 n) all c.loop-ask.invariant.none)
