use Rattle.std.proofs.Common.{◌∙◌, subst, sym}
use Rattle.mv_chain.specs.Chain.{base, raised, shows, IsChain}
use Rattle.mv_chain.specs.Pool.{shown_at}
use Rattle.mv_chain.proofs.Anywhere.{chain_marked}
use Rattle.mv_chain.proofs.Looked.{look_marks, look_marks_none}
use Rattle.mv_chain.proofs.Frames.{shown_length, changed_shown, changed_held}
use Rattle.mv_chain.proofs.Counted.{changed_counts}
use Rattle.mv_chain.proofs.changes.mark_in.Goals as goal

pub returns-in-Some-clause-versions : goal.returns-in-Some-clause-versions
returns-in-Some-clause-versions c = λ ts k e.
    let look = c.args.look.now in
    changed_shown (raised look.from look.at) c.args.pool.now c.raise.new.pool c.args.slots.now c.in-Some.i _ base c.in-Some.ensures.1 k.held c.raise.ensures
    ∙ look_marks ts (shown_at c.args.pool.now c.args.slots.now) k.chain look e c.in-Some.i c.in-Some.ensures.0

pub returns-in-Some-clause-kept : goal.returns-in-Some-clause-kept
returns-in-Some-clause-kept c = λ ts k e.
    let look = c.args.look.now in
    let vs = shown_at c.args.pool.now c.args.slots.now in
    let same = changed_shown (raised look.from look.at) c.args.pool.now c.raise.new.pool c.args.slots.now c.in-Some.i _ base c.in-Some.ensures.1 k.held c.raise.ensures
    ∙ look_marks ts vs k.chain look e c.in-Some.i c.in-Some.ensures.0 in
    record {
      held = changed_held (raised look.from look.at) c.args.pool.now c.raise.new.pool c.args.slots.now _ c.raise.ensures k.held;
      chain = subst IsChain (sym same) (chain_marked (shows ts vs).from ts vs k.chain);
    }

pub returns-in-Some-clause-count : goal.returns-in-Some-clause-count
returns-in-Some-clause-count c =
    let look = c.args.look.now in
    changed_counts (raised look.from look.at) _ c.args.pool.now c.raise.new.pool c.args.slots.now c.raise.ensures

pub returns-in_default-clause-versions : goal.returns-in_default-clause-versions
returns-in_default-clause-versions c = λ ts k e.
    look_marks_none ts (shown_at c.args.pool.now c.args.slots.now) k.chain c.args.look.now e _ (sym (shown_length c.args.pool.now c.args.slots.now)) c.in_default.ensures
