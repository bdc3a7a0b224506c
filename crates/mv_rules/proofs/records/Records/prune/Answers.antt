use Rattle.std.proofs.Common.{sym, refl}
use Rattle.mv_chain.specs.Chain.{pruned}
use Rattle.mv_rules.proofs.Changed.{pruned_at}
use Rattle.mv_rules.proofs.Tidied.{kept_with}
use Rattle.mv_rules.proofs.records.Records.prune.Goals as goal

pub returns-in-Some-get_mut-clause-stands : goal.returns-in-Some-get_mut-clause-stands
returns-in-Some-get_mut-clause-stands c =
    λ h s whole le.
    pruned_at h c.args.self.now c.args.key.now c.in-Some.i.now c.in-Some-get_mut.chain.now c.prune.new.self c.prune.new.pool c.args.self.now.notes s (sym c.in-Some.ensures.value) (sym c.in-Some-get_mut.ensures.value) c.prune.ensures.others c.prune.ensures.kept c.args.low whole le c.prune.ensures.stands (λ t. refl)

pub returns-in-Some-get_mut-clause-kept : goal.returns-in-Some-get_mut-clause-kept
returns-in-Some-get_mut-clause-kept c =
    λ h s.
    kept_with h c.args.self.now c.args.key.now c.in-Some.i.now c.in-Some-get_mut.chain.now c.prune.new.self c.prune.new.pool c.args.self.now.notes s (sym c.in-Some.ensures.value) (sym c.in-Some-get_mut.ensures.value) c.prune.ensures.others c.prune.ensures.kept (pruned c.args.low) c.prune.ensures.versions
