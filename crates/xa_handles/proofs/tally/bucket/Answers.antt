use Rattle.std.proofs.Common.{◌≡◌, ◌∙◌, ℕ, suc, ◌==◌, false, ◌+◌, ◌-◌, ◌/◌, ap, sym, arith}
use Rattle.xa_handles.specs.Counts.{halvings}
use Rattle.xa_handles.proofs.Halving.{none, once_more}
use Rattle.xa_handles.proofs.tally.bucket.Goals as goal

pub returns-then-rest-eq0-clause-is : goal.returns-then-rest-eq0-clause-is
returns-then-rest-eq0-clause-is c =
    let e = c.loop-exponent.exponent in
    let rest = c.loop-exponent.rest in
    let left : ℕ = c.args.last - e in
    let is_none : rest ≡ 0 = grind (arith, c.if-rest-eq0.true) in
    let over : e + halvings left rest ≡ e = omega (arith, none left rest is_none) in
    sym (c.loop-exponent.invariant.so_far ∙ over)

pub loop-exponent-preserved : goal.loop-exponent-preserved
loop-exponent-preserved c =
    let e = c.loop-exponent.exponent in
    let rest = c.loop-exponent.rest in
    let left : ℕ = c.args.last - (e + 1) in
    let half : ℕ = halvings left (rest / 2) in
    let one_less : c.args.last - e ≡ suc left = omega (arith, c.loop-exponent-test.true) in
    let some : (rest == 0) ≡ false = grind (arith, c.if-rest-eq0.false) in
    let once : halvings (c.args.last - e) rest ≡ suc half = ap (λ j. halvings j rest) one_less ∙ once_more left rest some in
    record {
      so_far = c.loop-exponent.invariant.so_far ∙ omega (arith, once);
      few = omega (arith, c.loop-exponent-test.true);
    }

pub returns-clause-is : goal.returns-clause-is
returns-clause-is c =
    let e = c.loop-exponent.exponent in
    let rest = c.loop-exponent.rest in
    let over : c.args.last - e ≡ 0 = omega (arith, c.loop-exponent-test.false) in
    let nothing : halvings (c.args.last - e) rest ≡ 0 = ap (λ j. halvings j rest) over in
    sym (c.loop-exponent.invariant.so_far
    ∙ omega (arith, nothing, c.loop-exponent-test.false, c.loop-exponent.invariant.few))
