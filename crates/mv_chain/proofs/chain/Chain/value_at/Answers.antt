use Rattle.std.proofs.Common.{◌∙◌, ap, sym, arith}
use Rattle.mv_chain.specs.Pool.{versions_of}
use Rattle.mv_chain.proofs.Frames.{shown_length}
use Rattle.mv_chain.proofs.Looked.{look_index, look_value_none}
use Rattle.mv_chain.proofs.Sought.{sees}
use Rattle.mv_chain.proofs.chain.Chain.value_at.Goals as goal

pub returns-in-None-clause-value : goal.returns-in-None-clause-value
returns-in-None-clause-value c = λ ts k e.
    let slots = c.args.self.now.slots.items in
    look_value_none ts (versions_of c.args.pool.now c.args.self.now) k.chain c.args.look.now e c.len.result (omega (arith, c.len.ensures, shown_length c.args.pool.now slots)) c.in-None.ensures

pub returns-in-Some-clause-value : goal.returns-in-Some-clause-value
returns-in-Some-clause-value c = λ ts k e.
    let vs = versions_of c.args.pool.now c.args.self.now in
    let index = look_index ts vs k.chain c.args.look.now e c.in-Some.i c.in-Some.ensures.0 in
    (rw c.deref.ensures at c.value_at.ensures) ∙ sym (ap (λ s. s.value) (sees c.args.pool.now c.args.self.now.slots.items k.chain ts c.in-Some.i _ (omega (arith, c.in-Some.ensures.1, c.len.ensures)) index))
