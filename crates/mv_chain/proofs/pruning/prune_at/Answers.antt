use Rattle.std.proofs.Common.{◌≡◌, ◌∙◌, ap, sym, false, get_or}
use Rattle.mv_chain.specs.Chain.{base}
use Rattle.mv_chain.specs.Pool.{shown_at}
use Rattle.mv_chain.proofs.Frames.{shown_index, taken_out_shown, taken_out_held}
use Rattle.mv_chain.proofs.Counted.{taken_out_counts}
use Rattle.mv_chain.proofs.pruning.prune_at.Goals as goal

pub returns-then-based-clause-versions : goal.returns-then-based-clause-versions
returns-then-based-clause-versions c = λ h.
    let old = c.args.pool.now in
    let slots = c.args.slots.now.items in
    let decided : (get_or (shown_at old slots) c.args.k base).pending ≡ false =
    ap (λ v. v.pending) (shown_index old slots c.args.k _ base c.requires) ∙ (sym (rw c.deref.ensures at c.pending_at.ensures) ∙ c.if-pending_at.false) in
    rw (c.take_out.ensures.slots, decided, c.if-based.true) (taken_out_shown old c.take_out.new.pool slots c.args.k 0 c.requires h (c.take_out.ensures.updates 0))

pub returns-then-based-clause-held : goal.returns-then-based-clause-held
returns-then-based-clause-held c = λ h.
    rw c.take_out.ensures.slots (taken_out_held c.args.pool.now c.take_out.new.pool c.args.slots.now.items c.args.k 0 c.requires h (c.take_out.ensures.updates 0))

pub returns-then-based-clause-count : goal.returns-then-based-clause-count
returns-then-based-clause-count c = λ h.
    rw c.take_out.ensures.slots (taken_out_counts c.args.pool.now c.take_out.new.pool c.args.slots.now.items c.args.k 0 c.requires h (c.take_out.ensures.updates 0))
