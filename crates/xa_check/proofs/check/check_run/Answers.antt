use Rattle.std.proofs.Common.{◌∙◌, ap, refl, inr}
use Rattle.std.proofs.lemmas.Result.{err_from_is_err_and}
use Rattle.xa_check.proofs.Telling.{untold, unwritten}
use Rattle.xa_check.specs.declared.fault.CheckFault.TheVariants.{Memory}
use Rattle.xa_check.specs.declared.told.Told.{Told}
use Rattle.xa_check.proofs.check.check_run.Goals as goal

pub returns-in_err-told-clause-checks : goal.returns-in_err-told-clause-checks
returns-in_err-told-clause-checks g c =
    let p = err_from_is_err_and c.from_residual.result c.from_residual.ensures.1 in
    rw (p.1, p.2)
    (untold g.D.Disk.honest c.in_err-told.field-0.0 c.args.path.now c.args.log_bytes (g.D.Disk.seen c.args.first.now) (g.D.Disk.seen c.args.second.now)
    (g.W.Write.contents c.args.writer.now) c.in_err-told.ensures.kinds)

pub returns-in_err-text-clause-checks : goal.returns-in_err-text-clause-checks
returns-in_err-text-clause-checks g c =
    let p = err_from_is_err_and c.from_residual-in_err-text.result c.from_residual-in_err-text.ensures.1 in
    rw (p.1, p.2)
    (untold g.D.Disk.honest Memory c.args.path.now c.args.log_bytes (g.D.Disk.seen c.args.first.now) (g.D.Disk.seen c.args.second.now)
    (g.W.Write.contents c.args.writer.now) (inr refl))

pub returns-in_err-print-clause-checks : goal.returns-in_err-print-clause-checks
returns-in_err-print-clause-checks g c =
    let p = err_from_is_err_and c.from_residual-in_err-print.result c.from_residual-in_err-print.ensures.1 in
    rw (p.1, p.2)
    (unwritten g.D.Disk.honest c.in_err-print.field-0.0 c.args.path.now c.args.log_bytes (g.D.Disk.seen c.args.first.now) (g.D.Disk.seen c.args.second.now)
    (g.W.Write.contents c.args.writer.now) (g.W.Write.contents c.print.new.writer) c.in_ok-told.told c.in_ok-told.other c.as_slice.result.now
    (λ h. ap (λ (r : Told × Told). r.0) (c.in_ok-told.ensures.value h)) (λ h. ap (λ (r : Told × Told). r.1) (c.in_ok-told.ensures.value h))
    (c.as_slice.ensures.value ∙ c.in_ok-text.ensures) c.in_err-print.ensures)
