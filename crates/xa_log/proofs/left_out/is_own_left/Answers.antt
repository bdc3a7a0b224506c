use Rattle.std.proofs.Common.{arith, ◌≡◌, ◌∙◌, ◌+◌, ◌&&◌, ◌||◌, false, Bool, sym, ap, nat_le, List, ℕ, length, drop, min}
use Rattle.std.proofs.lemmas.Bool.{and_left, and_right}
use Rattle.std.proofs.lemmas.Bool.Decides.{nat_tests}
use Rattle.xa_log.specs.Believed.LeftOut.{is_own}
use Rattle.xa_log.proofs.Left.{own_next, far_own}
use Rattle.xa_log.proofs.left_out.is_own_left.Goals as goal
use Rattle.xa_log.proofs.left_out.is_own_left.Goals.{else-distance-ge-MOST_GROUP-via-then-distance-ge-MOST_GROUP+else-is_own_body, else-distance-ge-MOST_GROUP-via-else-distance-ge-MOST_GROUP}

pub loop-body-preserved : goal.loop-body-preserved
loop-body-preserved c =
    let number : ℕ = c.args.number in
    let at : ℕ = c.loop-body.distance in
    let i : ℕ = c.loop-body.body-index in
    let item = c.body-item.result in
    let n : c.len.result ≡ length item.items = omega arith in
    let same : min (at + (36 + length item.items)) 262144 ≡ min c.min-distance.result 262144 = omega (arith, n) in
    let other : (nat_le 262144 at && is_own number item.items) ≡ false = elim c.else-distance-ge-MOST_GROUP.branch [
      | else-distance-ge-MOST_GROUP-via-then-distance-ge-MOST_GROUP+else-is_own_body w ↦
          and_right (nat_le 262144 at) (is_own number item.items) (ap (λ (l : List ℕ). is_own number l) (sym w.deref.ensures.value) ∙ sym w.is_own_body.ensures ∙ w.if-is_own_body.false)
      | else-distance-ge-MOST_GROUP-via-else-distance-ge-MOST_GROUP w ↦
          let near : nat_le 262144 at ≡ false = grind (arith, nat_tests, w.if-distance-ge-MOST_GROUP.false) in
          and_left (nat_le 262144 at) (is_own number item.items) near
    ] in
    sym (own_next number at c.min-distance.result c.args.bodies.now i item c.loop-body-test.true c.body-item.is same
    ∙ ap (λ (t : Bool). t || far_own number c.min-distance.result (drop (i + 1) c.args.bodies.now)) other)
    ∙ c.loop-body.invariant
