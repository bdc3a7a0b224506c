use Rattle.std.proofs.Common.{◌≡◌, ◌∙◌, ap, sym, ◌+◌, ◌++◌, ◌∷◌, [], take, Some, subst, List}
use Rattle.std.proofs.lemmas.List.{take_more, take_all}
use Rattle.slab.specs.Slab.{get as chain_in}
use Rattle.mv_rules.specs.declared.own.Own.{Own}
use Rattle.mv_rules.proofs.Listed.{SettledUpto, settled_begins, settled_one, settled_beyond}
use Rattle.mv_rules.proofs.steps.settle_all.Goals as goal
use Rattle.mv_rules.proofs.steps.settle_all.Goals.{in-Some, in_default}

pub loop-written-init : goal.loop-written-init
loop-written-init c = record {
  settled = settled_begins c.args.ts c.args.fate c.args.pool.now c.args.chains.now;
  within = λ n h. h;
}

pub loop-written-preserved : goal.loop-written-preserved
loop-written-preserved c =
    let own = c.args.own.now in
    let o = c.written-item.result in
    let step : take (c.loop-written.written-index + 1) own ≡ take c.loop-written.written-index own ++ o ∷ [] = take_more own c.loop-written.written-index o c.loop-written-test.true ∙ ap (λ x. take c.loop-written.written-index own ++ x ∷ []) (sym c.written-item.is) in
    elim c.match-get_mut.branch [
      | in-Some w ↦
          let here : chain_in c.loop-written.chains o.index ≡ Some w.in-Some.chain.now = sym w.in-Some.ensures.value in
          rw (w.pool-is, w.chains-is) (record {
            settled = λ held. rw step (settled_one c.args.ts c.args.fate (take c.loop-written.written-index own) o c.args.pool.now c.loop-written.pool w.settle.new.pool c.args.chains.now c.loop-written.chains w.in-Some.chain.now w.settle.new.self here w.settle.ensures.others w.settle.ensures.kept w.settle.ensures.versions (λ k key low ws rs st u. w.settle.ensures.stands key low ws rs k st u) (c.loop-written.invariant.settled held));
            within = λ n h. w.settle.ensures.within n (c.loop-written.invariant.within n h);
          })
      | in_default w ↦
          rw (w.pool-is, w.chains-is) (record {
            settled = λ held. rw step (settled_beyond c.args.ts c.args.fate (take c.loop-written.written-index own) o c.args.pool.now c.loop-written.pool c.args.chains.now c.loop-written.chains (sym w.in_default.ensures.value) (c.loop-written.invariant.settled held));
            within = c.loop-written.invariant.within;
          })
    ]

pub returns-clause-settled : goal.returns-clause-settled
returns-clause-settled c = λ held.
    let done : SettledUpto c.args.ts c.args.fate c.args.own.now c.args.pool.now c.args.chains.now c.loop-written.pool c.loop-written.chains = subst (λ (own : List Own). SettledUpto c.args.ts c.args.fate own c.args.pool.now c.args.chains.now c.loop-written.pool c.loop-written.chains) (take_all c.loop-written.written-index c.args.own.now c.loop-written-test.false) (c.loop-written.invariant.settled held) in
    record {
      held = done.held;
      stands = done.stands;
      listed = λ i e key low writes reads s u. rw (done.listed i e).0 ((done.listed i e).1 key low writes reads s u);
      exact = λ i e. (done.listed i e).0;
      others = done.others;
    }

pub returns-clause-within : goal.returns-clause-within
returns-clause-within c = c.loop-written.invariant.within
