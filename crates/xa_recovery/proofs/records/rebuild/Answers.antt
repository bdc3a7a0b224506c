use Rattle.std.proofs.Common.{◌≡◌, ◌∙◌, ap, sym, ◌+◌, ◌++◌, ◌∷◌, [], take}
use Rattle.std.proofs.lemmas.List.{take_more}
use Rattle.xa_recovery.proofs.OneMore.{refused_at}
use Rattle.xa_recovery.proofs.records.rebuild.Goals as goal

pub loop-index-preserved : goal.loop-index-preserved
loop-index-preserved c =
    let rs = c.args.records.now in
    let r = c.index-records-index.result in
    let step : take (c.loop-index.index + 1) rs ≡ take c.loop-index.index rs ++ r ∷ [] = take_more rs c.loop-index.index r c.loop-index-test.true ∙ ap (λ x. take c.loop-index.index rs ++ x ∷ []) (sym c.index-records-index.is) in
    rw step (c.in-Ok.ensures (take c.loop-index.index rs) c.loop-index.invariant)

pub returns-in-Err : goal.returns-in-Err
returns-in-Err c =
    let rs = c.args.records.now in
    let r = c.index-records-index.result in
    let step : take (c.loop-index.index + 1) rs ≡ take c.loop-index.index rs ++ r ∷ [] = take_more rs c.loop-index.index r c.loop-index-test.true ∙ ap (λ x. take c.loop-index.index rs ++ x ∷ []) (sym c.index-records-index.is) in
    refused_at rs c.loop-index.index r c.in-Err.fault c.loop-index-test.true step (c.in-Err.ensures (take c.loop-index.index rs) c.loop-index.invariant)
