use Rattle.std.proofs.Common.{refl, subst}
use Rattle.xa_record.specs.Spelling.{spelled}
use Rattle.xa_recovery.specs.declared.bodies.Progress.{Progress}
use Rattle.xa_recovery.specs.Log.{HasComeTo}
use Rattle.xa_recovery.proofs.Spelled.{body_read, body_refused, order_stays}
use Rattle.xa_recovery.proofs.bodies.add_record.Goals as goal

pub returns-in-Ok : goal.returns-in-Ok
returns-in-Ok c = λ before at come.
    let h = subst (λ (p : Progress). HasComeTo p before) c.in-InOrder.is come in
    body_read c.in-InOrder.rebuilding c.in-Ok.more before c.args.record (spelled c.args.record) h c.requires refl (c.in-Ok.ensures h.records h.read)

pub returns-in-Err-Order : goal.returns-in-Err-Order
returns-in-Err-Order c = λ before at come.
    let h = subst (λ (p : Progress). HasComeTo p before) c.in-InOrder.is come in
    body_refused c.in-InOrder.rebuilding before c.args.index c.args.record (spelled c.args.record) h at c.requires refl c.in-Err-Order.field-0 c.in-Err-Order.field-0-is (c.in-Err-Order.ensures h.records h.read)

pub returns-in-OutOfOrder : goal.returns-in-OutOfOrder
returns-in-OutOfOrder c = λ before at come.
    order_stays c.in-OutOfOrder.first before c.args.record (spelled c.args.record) c.requires refl (subst (λ (p : Progress). HasComeTo p before) c.in-OutOfOrder.is come)
