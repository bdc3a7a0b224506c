use Rattle.std.proofs.Common.{ap, sym, ◌∙◌, ◌≡◌, true, Some, None, Option, refl}
use Rattle.std.specs.Prelude.{is_some}
use Rattle.slab.specs.Slab.{get as chain_in}
use Rattle.mv_chain.specs.declared.chain.Chain.{Chain}
use Rattle.mv_chain.specs.Idle.{is_idle}
use Rattle.mv_rules.specs.Held.{shown_in}
use Rattle.mv_rules.specs.Records.{index_of, chain_at}
use Rattle.mv_rules.proofs.Frames.{removed_there}
use Rattle.mv_rules.proofs.Indices.{found_at}
use Rattle.mv_rules.proofs.Forgotten.{found_removed, stands_forgotten}
use Rattle.mv_rules.proofs.Tidied.{kept_forgotten}
use Rattle.mv_rules.proofs.records.Records.forget.Goals as goal

pub returns-in-Some-try_remove-clause-stands : goal.returns-in-Some-try_remove-clause-stands
returns-in-Some-try_remove-clause-stands c =
    λ h s whole le.
    let here : index_of c.args.key.now c.args.self.now ≡ Some c.in-Some.i.now = sym c.in-Some.ensures.value in
    let there : chain_in c.args.self.now.chains c.in-Some.i.now ≡ Some c.in-Some-get.chain.now = sym c.in-Some-get.ensures in
    let idle : is_idle c.args.low (chain_at c.in-Some.i.now c.args.self.now) ≡ true = ap (λ (o : Option Chain). is_idle c.args.low (shown_in c.args.self.now.pool o)) there ∙ (sym c.is_idle.ensures ∙ c.if-not-is_idle.false) in
    stands_forgotten h c.args.self.now _ c.args.key.now c.in-Some.i.now c.args.low here idle le whole c.remove.ensures.updates.1 (λ q d. ap (λ es. found_at q es) c.remove.ensures.entries ∙ found_removed q c.args.key.now c.args.self.now.indices.entries d)
    (removed_there c.args.self.now.pool c.clear.new.pool c.args.self.now.chains c.try_remove.new.self c.in-Some.i.now c.in-Some-try_remove.chain c.clear.new.self.slots.items (sym c.in-Some-try_remove.ensures.value) c.try_remove.ensures.updates c.clear.ensures.others) (λ t. refl) s

pub returns-in_default-get-clause-kept : goal.returns-in_default-get-clause-kept
returns-in_default-get-clause-kept c =
    λ h s.
    let here : index_of c.args.key.now c.args.self.now ≡ Some c.in-Some.i.now = sym c.in-Some.ensures.value in
    let there : chain_in c.args.self.now.chains c.in-Some.i.now ≡ None = sym c.in_default-get.ensures in
    absurd (cc (s.chains.within c.args.key.now c.in-Some.i.now here, ap is_some there))

pub returns-in-Some-try_remove-clause-kept : goal.returns-in-Some-try_remove-clause-kept
returns-in-Some-try_remove-clause-kept c =
    λ h s.
    let here : index_of c.args.key.now c.args.self.now ≡ Some c.in-Some.i.now = sym c.in-Some.ensures.value in
    let there : chain_in c.args.self.now.chains c.in-Some.i.now ≡ Some c.in-Some-get.chain.now = sym c.in-Some-get.ensures in
    let idle : is_idle c.args.low (chain_at c.in-Some.i.now c.args.self.now) ≡ true = ap (λ (o : Option Chain). is_idle c.args.low (shown_in c.args.self.now.pool o)) there ∙ (sym c.is_idle.ensures ∙ c.if-not-is_idle.false) in
    kept_forgotten h c.args.self.now (record { alloc = c.args.self.now.alloc; indices = c.remove.new.self; chains = c.try_remove.new.self; pool = c.clear.new.pool; notes = c.args.self.now.notes }) c.args.key.now c.in-Some.i.now c.args.low here idle c.remove.ensures.updates.1 (λ q d. ap (λ es. found_at q es) c.remove.ensures.entries ∙ found_removed q c.args.key.now c.args.self.now.indices.entries d)
    (removed_there c.args.self.now.pool c.clear.new.pool c.args.self.now.chains c.try_remove.new.self c.in-Some.i.now c.in-Some-try_remove.chain c.clear.new.self.slots.items (sym c.in-Some-try_remove.ensures.value) c.try_remove.ensures.updates c.clear.ensures.others) s.chains
