use Rattle.std.proofs.Common.{◌≡◌, ℕ, sym, subst, arith}
use Rattle.mv_chain.specs.Look.{IsBelow}
use Rattle.mv_chain.specs.Pool.{shown_at}
use Rattle.mv_chain.proofs.Chains.{marked_none}
use Rattle.mv_chain.proofs.Sought.{sees_late}
use Rattle.mv_chain.proofs.finding.read_above.Goals as goal

pub returns-then-below-eq0 : goal.returns-then-below-eq0
returns-then-below-eq0 c = λ h b.
    let vs = shown_at c.args.pool.now c.args.slots.now in
    let none : c.args.below ≡ 0 = omega (arith, c.if-below-eq0.true) in
    sym (marked_none c.args.ts vs (subst (λ (n : ℕ). IsBelow c.args.ts n vs) none b))

pub returns : goal.returns
returns c = λ h b.
    sees_late c.args.pool.now c.args.slots.now h c.args.ts c.args.below _ c.mark_at.result (omega (arith, c.if-below-eq0.false)) c.requires b c.mark_at.ensures
