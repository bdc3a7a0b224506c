use Rattle.std.proofs.Common.{◌≡◌, ◌+◌, ◌-◌, ◌||◌, true, take, drop, ◌∙◌, ap, arith, ℕ}
use Rattle.std.specs.Prelude.{◌==◌, slice_index}
use Rattle.std.proofs.lemmas.Bool.Decides.{nat_tests}
use Rattle.xa_log.specs.Believed.LeftOut.{stamp_at}
use Rattle.xa_log.specs.Believed.Chain.{size_at}
use Rattle.xa_log.proofs.Left.{own_is, boot_is}
use Rattle.xa_log.proofs.left_out.is_own_body.Goals as goal
use Rattle.xa_log.proofs.left_out.is_own_body.Goals.{else-body-ne-PREPARED-via-then-body-ne-PREPARED+else-body-ne-COMMITTED, else-body-ne-PREPARED-via-else-body-ne-PREPARED}

pub returns : goal.returns
returns c =
    let kind : (slice_index c.args.body.now 0 == 2 || slice_index c.args.body.now 0 == 3) ≡ true = elim c.else-body-ne-PREPARED.branch [
      | else-body-ne-PREPARED-via-then-body-ne-PREPARED+else-body-ne-COMMITTED w ↦ grind (arith, nat_tests, w.if-body-ne-COMMITTED.false)
      | else-body-ne-PREPARED-via-else-body-ne-PREPARED w ↦ grind (arith, nat_tests, w.if-body-ne-PREPARED.false)
    ] in
    let at : 7 + slice_index c.args.body.now 5 + slice_index c.args.body.now 6 ≡ stamp_at c.args.body.now = omega arith in
    own_is c.args.number c.size_of.result c.args.body.now kind (omega (arith, c.if-body-at.false))
    (c.size_of.ensures ∙ ap (λ (k : ℕ). size_at (take (k + 4 - k) (drop k c.args.body.now))) at ∙ boot_is c.args.body.now _ (omega arith))
