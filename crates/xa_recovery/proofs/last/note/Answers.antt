use Rattle.std.proofs.Common.{◌≡◌, ◌∙◌, ap, sym, ◌+◌, ◌++◌, ◌∷◌, [], take}
use Rattle.std.proofs.lemmas.List.{take_more}
use Rattle.xa_recovery.proofs.Upto.{noted_more}
use Rattle.xa_recovery.proofs.last.note.Goals as goal

pub loop-write-preserved : goal.loop-write-preserved
loop-write-preserved c = λ key.
    let ws = c.args.writes.now in
    let w = c.write-item.result in
    let step : take (c.loop-write.write-index + 1) ws ≡ take c.loop-write.write-index ws ++ w ∷ [] = take_more ws c.loop-write.write-index w c.loop-write-test.true ∙ ap (λ x. take c.loop-write.write-index ws ++ x ∷ []) (sym c.write-item.is) in
    rw step (noted_more key _ w (take c.loop-write.write-index ws) _ _ _ (c.in_ok-insert.ensures.updates.0 key) c.in_ok-copied.ensures (c.loop-write.invariant key))
