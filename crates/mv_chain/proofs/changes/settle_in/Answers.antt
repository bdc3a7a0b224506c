use Rattle.std.proofs.Common.{◌∙◌, subst, sym, refl, false}
use Rattle.mv_chain.specs.declared.version.Version.{Version}
use Rattle.mv_chain.specs.Chain.{base, IsChain}
use Rattle.mv_chain.specs.Pool.{shown_at}
use Rattle.mv_chain.proofs.Exact.{committed_own, rolled_back_own, settled_nothing}
use Rattle.mv_chain.proofs.Anywhere.{chain_settled}
use Rattle.mv_chain.proofs.Chains.{index_within, chain_removed}
use Rattle.mv_chain.specs.declared.fate.Fate.TheVariants.{Committed}
use Rattle.mv_chain.proofs.Frames.{changed_shown, changed_held, taken_out_shown, taken_out_held, taken_out_leaves}
use Rattle.mv_chain.proofs.Counted.{changed_counts, taken_out_counts}
use Rattle.mv_chain.proofs.Within.{taken_out_within}
use Rattle.mv_chain.proofs.changes.settle_in.Goals as goal

pub returns-in_default-clause-versions : goal.returns-in_default-clause-versions
returns-in_default-clause-versions c = λ k.
    settled_nothing c.args.ts c.args.fate (shown_at c.args.pool.now c.args.slots.now.items) ((rw c.deref.ensures at c.in_default.ensures.found) k.chain)

pub returns-in-Committed-clause-versions : goal.returns-in-Committed-clause-versions
returns-in-Committed-clause-versions c = λ k.
    let vs = shown_at c.args.pool.now c.args.slots.now.items in
    let found = (rw c.deref.ensures at c.in-Some.ensures.found) k.chain in
    let within = rw c.deref.ensures at c.in-Some.ensures.within in
    rw c.in-Committed.is (changed_shown (λ (v : Version). record v { pending = false }) c.args.pool.now c.commit.new.pool c.args.slots.now.items c.in-Some.i _ base within k.held (rw c.deref-in-Committed.ensures at c.commit.ensures)
    ∙ committed_own c.args.ts c.in-Some.i vs _ base (index_within c.args.ts c.in-Some.i vs found.0) k.chain (found.1 base).0 refl)

pub returns-in-Committed-clause-kept : goal.returns-in-Committed-clause-kept
returns-in-Committed-clause-kept c = λ k.
    let vs = shown_at c.args.pool.now c.args.slots.now.items in
    let found = (rw c.deref.ensures at c.in-Some.ensures.found) k.chain in
    let within = rw c.deref.ensures at c.in-Some.ensures.within in
    let same = changed_shown (λ (v : Version). record v { pending = false }) c.args.pool.now c.commit.new.pool c.args.slots.now.items c.in-Some.i _ base within k.held (rw c.deref-in-Committed.ensures at c.commit.ensures)
    ∙ committed_own c.args.ts c.in-Some.i vs _ base (index_within c.args.ts c.in-Some.i vs found.0) k.chain (found.1 base).0 refl in
    record {
      held = changed_held (λ (v : Version). record v { pending = false }) c.args.pool.now c.commit.new.pool c.args.slots.now.items _ c.commit.ensures k.held;
      chain = subst IsChain (sym same) (chain_settled c.args.ts Committed vs k.chain);
    }

pub returns-in-RolledBack-clause-versions : goal.returns-in-RolledBack-clause-versions
returns-in-RolledBack-clause-versions c = λ k.
    let vs = shown_at c.args.pool.now c.args.slots.now.items in
    let found = (rw c.deref.ensures at c.in-Some.ensures.found) k.chain in
    let within = rw c.deref.ensures at c.in-Some.ensures.within in
    rw (c.in-RolledBack.is, c.take_out.ensures.slots)
    (taken_out_shown c.args.pool.now c.take_out.new.pool c.args.slots.now.items c.in-Some.i 0 within k.held (c.take_out.ensures.updates 0)
    ∙ rolled_back_own c.args.ts c.in-Some.i vs base (index_within c.args.ts c.in-Some.i vs found.0) k.chain (found.1 base).0 (found.1 base).1)

pub returns-in-RolledBack-clause-kept : goal.returns-in-RolledBack-clause-kept
returns-in-RolledBack-clause-kept c = λ k.
    let vs = shown_at c.args.pool.now c.args.slots.now.items in
    let within = rw c.deref.ensures at c.in-Some.ensures.within in
    rw c.take_out.ensures.slots (record {
      held = taken_out_held c.args.pool.now c.take_out.new.pool c.args.slots.now.items c.in-Some.i 0 within k.held (c.take_out.ensures.updates 0);
      chain = rw (taken_out_shown c.args.pool.now c.take_out.new.pool c.args.slots.now.items c.in-Some.i 0 within k.held (c.take_out.ensures.updates 0)) (chain_removed c.in-Some.i vs k.chain);
    })

pub returns-in-RolledBack-clause-others : goal.returns-in-RolledBack-clause-others
returns-in-RolledBack-clause-others c =
    let within = rw c.deref.ensures at c.in-Some.ensures.within in
    rw c.take_out.ensures.slots (taken_out_leaves c.args.pool.now c.take_out.new.pool c.args.slots.now.items c.in-Some.i 0 within (c.take_out.ensures.updates 0))

pub returns-in-RolledBack-clause-within : goal.returns-in-RolledBack-clause-within
returns-in-RolledBack-clause-within c = λ n h. taken_out_within n _ c.args.pool.now c.take_out.new.pool (c.take_out.ensures.updates 0) h

pub returns-in-Committed-clause-count : goal.returns-in-Committed-clause-count
returns-in-Committed-clause-count c = λ k.
    changed_counts (λ (v : Version). record v { pending = false }) _ c.args.pool.now c.commit.new.pool c.args.slots.now.items c.commit.ensures

pub returns-in-RolledBack-clause-count : goal.returns-in-RolledBack-clause-count
returns-in-RolledBack-clause-count c = λ k.
    let within = rw c.deref.ensures at c.in-Some.ensures.within in
    rw c.take_out.ensures.slots (taken_out_counts c.args.pool.now c.take_out.new.pool c.args.slots.now.items c.in-Some.i 0 within k.held (c.take_out.ensures.updates 0))
