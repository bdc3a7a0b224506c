use Rattle.std.proofs.Common.{◌≡◌, ◌⊎◌, inl, inr, false, sym, arith}
use Rattle.std.proofs.lemmas.Bool.Decides.{nat_tests}
use Rattle.mv_chain.specs.Pool.{shown_at}
use Rattle.mv_chain.proofs.Frames.{shown_length}
use Rattle.mv_chain.proofs.Looked.{look_undecided, look_own}
use Rattle.mv_chain.proofs.changes.own_index.Goals as goal
use Rattle.mv_chain.proofs.changes.own_index.Goals.{then-not-look-via-then-not-look, then-not-look-via-else-not-look+then-look-ts}

pub returns-then-not-look-clause-found : goal.returns-then-not-look-clause-found
returns-then-not-look-clause-found c = λ h.
    let look = c.look_in-look.result in
    let other : (look.pending ≡ false) ⊎ (look.from ≡ c.args.ts → ⊥) = elim c.then-not-look.branch [
      | then-not-look-via-then-not-look w ↦ inl (grind (arith, w.if-not-look.true))
      | then-not-look-via-else-not-look+then-look-ts w ↦ inr (λ same. grind (arith, nat_tests, w.if-look-ts.true, same))
    ] in
    look_undecided c.args.ts (shown_at c.args.pool.now c.args.slots.now) h look (c.look_in-look.ensures.found h) other

pub returns-clause-found : goal.returns-clause-found
returns-clause-found c = λ h.
    look_own c.args.ts (shown_at c.args.pool.now c.args.slots.now) h c.look_in-look.result (c.look_in-look.ensures.found h) _ c.last.result (sym (shown_length c.args.pool.now c.args.slots.now)) (grind (arith, c.if-not-look.false)) (grind (arith, nat_tests, c.if-look-ts.false)) c.last.ensures
