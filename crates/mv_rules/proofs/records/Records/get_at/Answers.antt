use Rattle.std.proofs.Common.{◌≡◌, ◌∙◌, Some, ap}
use Rattle.std.specs.Prelude.{option_map}
use Rattle.mv_chain.specs.Pool.{versions_of}
use Rattle.mv_rules.specs.Held.{shown_in}
use Rattle.mv_rules.specs.Records.{chain_at}
use Rattle.mv_rules.specs.Tidy.{kept_of}
use Rattle.mv_rules.proofs.Exact.{reads_there}
use Rattle.mv_rules.proofs.Changed.{read_at}
use Rattle.mv_rules.proofs.Changed.{with_chain}
use Rattle.mv_rules.proofs.Tidied.{kept_with, same_with}
use Rattle.mv_rules.proofs.records.Records.get_at.Goals as goal
use Rattle.mv_chain.specs.Chain.{marked_at}

pub returns-clause-stands : goal.returns-clause-stands
returns-clause-stands c =
    λ h s here le.
    let k = s.chains.held.kept c.args.i c.index_mut-chain.result.now c.index_mut-chain.ensures.value in
    read_at h c.args.self.now c.args.key.now c.args.i c.index_mut-chain.result.now c.read.new.chain c.read.new.pool c.read.new.notes s here c.index_mut-chain.ensures.value c.read.ensures.others c.read.ensures.kept c.args.ts c.read.result le (c.read.ensures.stands k) c.read.ensures.notes

pub returns-clause-same : goal.returns-clause-same
returns-clause-same c =
    λ none h s here.
    same_with h c.args.self.now c.args.key.now c.args.i c.index_mut-chain.result.now c.read.new.chain c.read.new.pool c.read.new.notes s here c.index_mut-chain.ensures.value c.read.ensures.others c.read.ensures.kept (λ k. c.read.ensures.same none)

pub returns-clause-reads : goal.returns-clause-reads
returns-clause-reads c =
    λ answered h s here.
    let r = c.args.self.now in
    let a = c.index_mut-chain.result.now in
    let there : kept_of c.args.key.now r ≡ Some (versions_of r.pool a) = ap (λ o. option_map (λ j. chain_at j r) o) here ∙ ap (λ o. Some (shown_in r.pool o)) c.index_mut-chain.ensures.value in
    reads_there c.args.ts c.args.key.now r (with_chain r c.args.i c.read.new.pool c.read.new.chain c.read.new.notes) (versions_of r.pool a) there
    (kept_with h r c.args.key.now c.args.i a c.read.new.chain c.read.new.pool c.read.new.notes s here c.index_mut-chain.ensures.value c.read.ensures.others c.read.ensures.kept (marked_at c.args.ts) (λ k. c.read.ensures.versions answered k))
    (c.read.ensures.noted answered)
