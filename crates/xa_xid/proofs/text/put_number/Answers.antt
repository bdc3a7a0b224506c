use Rattle.std.proofs.Common.{length, ap, ◌∙◌, arith, length-append}
use Rattle.std.specs.Prelude.{decimal}
use Rattle.xa_xid.proofs.Number.{length-decimal_short}
use Rattle.xa_xid.proofs.text.put_number.Goals as goal
use Rattle.xa_xid.proofs.text.put_number.Goals.{then-n-lt0, else-n-lt0}

pub put_decimal-requires : goal.put_decimal-requires
put_decimal-requires c =
    let short = length-decimal_short c.unsigned_abs.result c.unsigned_abs.ensures.bound in
    elim c.if-n-lt0.branch [
      | then-n-lt0 w ↦ omega (arith, ap (λ o. length o.items) w.out-is)
      | else-n-lt0 w ↦ omega (arith, ap (λ o. length o.items) w.out-is)
    ]

pub returns-clause-len : goal.returns-clause-len
returns-clause-len c =
    let short = length-decimal_short c.unsigned_abs.result c.unsigned_abs.ensures.bound in
    let len = ap length c.put_decimal.ensures ∙ length-append c.if-n-lt0.out.items (decimal c.unsigned_abs.result) in
    elim c.if-n-lt0.branch [
      | then-n-lt0 w ↦ omega (arith, ap (λ o. length o.items) w.out-is)
      | else-n-lt0 w ↦ omega (arith, ap (λ o. length o.items) w.out-is)
    ]
