use Rattle.std.proofs.Common.{◌≡◌, ◌∙◌, ap, sym, ◌+◌, ◌++◌, ◌∷◌, [], take}
use Rattle.std.proofs.lemmas.List.{take_more}
use Rattle.mv_rules.proofs.Gathered.{collected_more}
use Rattle.mv_rules.proofs.Within.{inserted_short, few_inserted, inserted_keys, own_key}
use Rattle.mv_rules.proofs.writes.collect.Goals as goal

pub loop-written-preserved : goal.loop-written-preserved
loop-written-preserved c =
    let own = c.args.own.now in
    let o = c.written-item.result in
    let step : take (c.loop-written.written-index + 1) own ≡ take c.loop-written.written-index own ++ o ∷ [] = take_more own c.loop-written.written-index o c.loop-written-test.true ∙ ap (λ x. take c.loop-written.written-index own ++ x ∷ []) (sym c.written-item.is) in
    record {
      values = λ held key. rw step (collected_more c.args.ts c.args.pool.now c.args.chains.now key (take c.loop-written.written-index own) o _ _ c.in_ok-key.key c.in_ok-value.value (c.in_ok-insert.ensures.updates.0 key) c.in_ok-key.ensures (c.in_ok-value.ensures.value held) (c.loop-written.invariant.values held key));
      ordered = c.insert.ensures.ordered;
      short = λ n h. rw c.in_ok-insert.ensures.entries (inserted_short n _ c.loop-written.values.entries _ _ (c.in_ok-value.ensures.short n h) (c.loop-written.invariant.short n h));
      few = rw c.in_ok-insert.ensures.entries (few_inserted _ c.loop-written.values.entries _ _ c.loop-written.written-index c.loop-written.invariant.few);
      keys = λ h.
          let key = own_key c.loop-written.written-index own o c.loop-written-test.true c.written-item.is h in
          rw c.in_ok-insert.ensures.entries (inserted_keys _ c.loop-written.values.entries _ _ (rw c.in_ok-key.ensures key) (c.loop-written.invariant.keys h));
    }
