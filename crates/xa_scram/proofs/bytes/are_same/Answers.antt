use Rattle.std.proofs.Common.{ℕ, ap, sym, ◌∙◌, List, get_or, arith, below_more}
use Rattle.std.proofs.lemmas.Bool.{eq-eqb, eqb-true}
use Rattle.xa_scram.proofs.Xored.{by_index, same_from_xor, xor_same, or_left, or_right, or_both}
use Rattle.xa_scram.proofs.bytes.are_same.Goals as goal

pub loop-i-preserved : goal.loop-i-preserved
loop-i-preserved c = (
  λ e. below_more _ _ (c.loop-i.invariant.0 (or_left c.loop-i.differing _ e)) (same_from_xor _ _ (or_right c.loop-i.differing _ e)),
  λ same. or_both c.loop-i.differing _ (c.loop-i.invariant.1 (λ k h. same k (omega arith))) (xor_same _ _ (same c.loop-i.i (omega arith))),
)

pub returns : goal.returns
returns c = (
  λ e. by_index c.args.left.now c.args.right.now (c.told-left ∙ sym c.told-right)
      (λ k lt. c.loop-i.invariant.0 (eqb-true c.loop-i.differing 0 e) k (omega arith)),
  λ e. eq-eqb c.loop-i.differing 0 (c.loop-i.invariant.1 (λ k lt. ap (λ (x : List ℕ). get_or x k 0) e)),
)
