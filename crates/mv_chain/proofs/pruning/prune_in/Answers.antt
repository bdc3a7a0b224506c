use Rattle.std.proofs.Common.{◌≡◌, ◌-◌, ℕ, suc, refl, sym, subst, arith}
use Rattle.mv_chain.specs.Chain.{IsChain}
use Rattle.mv_chain.specs.Pool.{shown_at}
use Rattle.mv_chain.proofs.Frames.{nothing_leaves, leaves_then}
use Rattle.mv_chain.proofs.Counted.{counts_then}
use Rattle.mv_chain.proofs.Pruned.{IsPrunedTo, pruned_begins, pruned_step, chain_pruned}
use Rattle.mv_chain.proofs.pruning.prune_in.Goals as goal

pub loop-left-init : goal.loop-left-init
loop-left-init c = record {
  within = rw c.deref.ensures at c.find-left.ensures.within;
  others = nothing_leaves c.args.pool.now c.args.slots.now.items;
  values = λ n h. h;
  held = λ h. h;
  count = λ h. refl;
  pruned = λ k. pruned_begins c.args.low c.find-left.result (shown_at c.args.pool.now c.args.slots.now.items) ((rw c.deref.ensures at c.find-left.ensures.index) k.chain);
}

pub loop-left-preserved : goal.loop-left-preserved
loop-left-preserved c =
    let before = c.loop-left.invariant in
    let step = c.prune_at-based.ensures in
    let old = shown_at c.args.pool.now c.args.slots.now.items in
    let cur = shown_at c.loop-left.pool c.loop-left.slots.items in
    let next : c.loop-left.left ≡ suc (c.loop-left.left - 1) = omega (arith, c.loop-left-test.true) in
    record {
      within = step.within;
      others = leaves_then c.args.pool.now c.loop-left.pool c.prune_at-based.new.pool c.args.slots.now.items c.loop-left.slots.items c.prune_at-based.new.slots.items before.others step.others;
      values = λ n h. step.values n (before.values n h);
      held = λ h. step.held (before.held h);
      count = λ h. counts_then c.args.pool.now c.loop-left.pool c.prune_at-based.new.pool c.args.slots.now.items c.loop-left.slots.items c.prune_at-based.new.slots.items (before.count h) (step.count (before.held h));
      pruned = λ k. pruned_step c.args.low (c.loop-left.left - 1) old cur _ c.loop-left.based c.prune_at-based.result
          (subst (λ (n : ℕ). IsPrunedTo c.args.low n c.loop-left.based old cur) next (before.pruned k)) (step.versions (before.held k.held)) step.based;
    }

pub returns-clause-kept : goal.returns-clause-kept
returns-clause-kept c = λ k.
    let old = shown_at c.args.pool.now c.args.slots.now.items in
    let cur = shown_at c.loop-left.pool c.loop-left.slots.items in
    let none : c.loop-left.left ≡ 0 = omega (arith, c.loop-left-test.false) in
    let done = subst (λ (n : ℕ). IsPrunedTo c.args.low n c.loop-left.based old cur) none (c.loop-left.invariant.pruned k) in
    record {
      held = c.loop-left.invariant.held k.held;
      chain = subst IsChain (sym done.items) (chain_pruned c.args.low old k.chain);
    }
