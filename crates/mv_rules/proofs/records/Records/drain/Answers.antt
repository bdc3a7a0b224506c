use Rattle.std.proofs.Common.{◌≡◌, ◌∙◌, ◌+◌, ◌++◌, ◌∷◌, [], List, take, ap, sym, subst}
use Rattle.std.specs.Prelude.{option_map, bytes_eq, if◌then◌else◌}
use Rattle.std.proofs.lemmas.List.{take_more, take_all}
use Rattle.mv_chain.specs.Chain.{pruned}
use Rattle.mv_rules.specs.declared.own.Own.{Own}
use Rattle.mv_rules.specs.Tidy.{kept_of, names, forgotten, tidied_if}
use Rattle.mv_rules.proofs.Tidied.{tidied_one}
use Rattle.mv_rules.proofs.records.Records.drain.Goals as goal

pub loop-own-preserved : goal.loop-own-preserved
loop-own-preserved c =
    let due = c.args.due.now in
    let o = c.own-item.result in
    let done : List Own = take c.loop-own.own-index due in
    let step : take (c.loop-own.own-index + 1) due ≡ done ++ o ∷ [] = take_more due c.loop-own.own-index o c.loop-own-test.true ∙ ap (λ x. done ++ x ∷ []) (sym c.own-item.is) in
    record {
      stands = λ h s whole le. c.forget.ensures.stands h (c.prune.ensures.stands h (c.loop-own.invariant.stands h s whole le) whole le) (λ t e. whole t c.as_slice-in-loop-own.result.now e) le;
      kept = λ h s whole le q.
          let stood = c.loop-own.invariant.stands h s whole le in
          let was = c.loop-own.invariant.kept h s whole le q in
          let pruned_ : kept_of q c.prune.new.self ≡ (if bytes_eq q o.key then option_map (pruned c.args.low) (kept_of q c.loop-own.self) else kept_of q c.loop-own.self) = rw c.as_slice.ensures at (c.prune.ensures.kept h stood q) in
          let forgot : kept_of q c.forget.new.self ≡ (if bytes_eq q o.key then forgotten c.args.low (kept_of q c.prune.new.self) else kept_of q c.prune.new.self) = rw c.as_slice-in-loop-own.ensures at (c.forget.ensures.kept h (c.prune.ensures.stands h stood whole le) q) in
          subst (λ (xs : List Own). kept_of q c.forget.new.self ≡ tidied_if c.args.low (names q xs) (kept_of q c.args.self.now)) (sym step) (tidied_one c.args.low q done o (kept_of q c.args.self.now) (kept_of q c.loop-own.self) (kept_of q c.prune.new.self) (kept_of q c.forget.new.self) was pruned_ forgot);
      notes = c.forget.ensures.notes ∙ (c.prune.ensures.notes ∙ c.loop-own.invariant.notes);
      within = λ n h. c.forget.ensures.within n (c.prune.ensures.within n (c.loop-own.invariant.within n h));
    }

pub returns-clause-kept : goal.returns-clause-kept
returns-clause-kept c =
    λ h s whole le q.
    subst (λ (xs : List Own). kept_of q c.loop-own.self ≡ tidied_if c.args.low (names q xs) (kept_of q c.args.self.now)) (take_all c.loop-own.own-index c.args.due.now c.loop-own-test.false) (c.loop-own.invariant.kept h s whole le q)
