use Rattle.std.proofs.Common.{All, List, subst, take_all}
use Rattle.std.proofs.lemmas.List.Elements.{All-more, recursion_from_All}
use Rattle.xa_frame.specs.Limits.{Holds}
use Rattle.xa_manager.specs.declared.together.Asked.{Asked}
use Rattle.xa_sequencer.proofs.Asking.{all_asked}
use Rattle.xa_sequencer.proofs.together.hold_all.Goals as goal

pub loop-call-preserved : goal.loop-call-preserved
loop-call-preserved c =
    let held = subst (λ (x : Asked). Holds x.request) c.call-item.is c.hold.ensures in
    All-more (λ (x : Asked). Holds x.request) c.args.calls.now c.loop-call.call-index c.call-item.result c.loop-call-test.true c.loop-call.invariant held

pub returns : goal.returns
returns c =
    let calls = c.args.calls.now in
    let whole = take_all c.loop-call.call-index calls c.loop-call-test.false in
    let held = subst (λ (xs : List Asked). All (λ (x : Asked). Holds x.request) xs) whole c.loop-call.invariant in
    all_asked calls c.requires (recursion_from_All (λ (x : Asked). Holds x.request) calls held)
