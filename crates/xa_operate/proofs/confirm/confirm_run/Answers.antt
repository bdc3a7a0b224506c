use Rattle.std.proofs.Common.{Bool, Err, Ok, false, refl, subst, true}
use Rattle.std.proofs.lemmas.Result.{err_from_is_err_and}
use Rattle.xa_talk.specs.declared.dial.Connection.{Connection}
use Rattle.xa_operate.specs.Confirms.{Told}
use Rattle.xa_operate.specs.declared.fault.OperateFault.TheVariants.{Declined}
use Rattle.xa_operate.proofs.Confirming.{seen, unseen}
use Rattle.xa_operate.proofs.confirm.confirm_run.Goals as goal

pub returns-in_err-operate_run : goal.returns-in_err-operate_run
returns-in_err-operate_run g c =
    let p = err_from_is_err_and c.from_residual.result c.from_residual.ensures.1 in
    rw (p.1, p.2) (unseen {C = Connection g.row.R.Denot g.row.W.Denot} {X = Unit {0}} c.args.format c.args.task.now (λ k. g.W.Write.contents k.writer)
    (λ k. g.R.Read.remaining k.reader) c.args.name.now (Err c.in_err-operate_run.field-0.0) c.preview_of-preview.result c.preview_of-preview.ensures
    (g.I.Read.remaining c.args.input.now) (g.I.Read.remaining c.args.input.now) (g.E.Write.contents c.args.errors.now)
    (g.E.Write.contents c.operate_run.new.output) (g.O.Write.contents c.args.output.now) (g.O.Write.contents c.args.output.now)
    c.in_err-operate_run.field-0.0 refl c.in_err-operate_run.ensures)

pub returns-in_err-is_told : goal.returns-in_err-is_told
returns-in_err-is_told g c =
    let p = err_from_is_err_and c.from_residual-in_err-is_told.result c.from_residual-in_err-is_told.ensures.1 in
    rw (p.1, p.2) (seen {C = Connection g.row.R.Denot g.row.W.Denot} {X = Unit {0}} c.args.format c.args.task.now (λ k. g.W.Write.contents k.writer)
    (λ k. g.R.Read.remaining k.reader) c.args.name.now (Err c.in_err-is_told.field-0.0) c.preview_of-preview.result c.preview_of-preview.ensures
    (g.I.Read.remaining c.args.input.now) (g.I.Read.remaining c.is_told.new.input) (g.E.Write.contents c.args.errors.now)
    (g.E.Write.contents c.is_told.new.errors) (g.O.Write.contents c.args.output.now) (g.O.Write.contents c.args.output.now)
    (g.E.Write.contents c.operate_run.new.output) (Err c.in_err-is_told.field-0.0) c.in_ok-operate_run.ensures c.in_err-is_told.ensures (refl, refl))

pub returns-then-branch : goal.returns-then-branch
returns-then-branch g c =
    let told = subst (λ (b : Bool). Told c.args.task.now (Ok b) (g.I.Read.remaining c.args.input.now) (g.I.Read.remaining c.is_told.new.input)
    (g.E.Write.contents c.operate_run.new.output) (g.E.Write.contents c.is_told.new.errors)) c.if-branch.true c.in_ok-is_told.ensures in
    seen {C = Connection g.row.R.Denot g.row.W.Denot} {X = Unit {0}} c.args.format c.args.task.now (λ k. g.W.Write.contents k.writer)
    (λ k. g.R.Read.remaining k.reader) c.args.name.now c.operate_run-then-branch.result c.preview_of-preview.result c.preview_of-preview.ensures
    (g.I.Read.remaining c.args.input.now) (g.I.Read.remaining c.is_told.new.input) (g.E.Write.contents c.args.errors.now)
    (g.E.Write.contents c.is_told.new.errors) (g.O.Write.contents c.args.output.now) (g.O.Write.contents c.operate_run-then-branch.new.output)
    (g.E.Write.contents c.operate_run.new.output) (Ok true) c.in_ok-operate_run.ensures told c.operate_run-then-branch.ensures

pub returns-else-branch : goal.returns-else-branch
returns-else-branch g c =
    let told = subst (λ (b : Bool). Told c.args.task.now (Ok b) (g.I.Read.remaining c.args.input.now) (g.I.Read.remaining c.is_told.new.input)
    (g.E.Write.contents c.operate_run.new.output) (g.E.Write.contents c.is_told.new.errors)) c.if-branch.false c.in_ok-is_told.ensures in
    seen {C = Connection g.row.R.Denot g.row.W.Denot} {X = Unit {0}} c.args.format c.args.task.now (λ k. g.W.Write.contents k.writer)
    (λ k. g.R.Read.remaining k.reader) c.args.name.now (Err Declined) c.preview_of-preview.result c.preview_of-preview.ensures
    (g.I.Read.remaining c.args.input.now) (g.I.Read.remaining c.is_told.new.input) (g.E.Write.contents c.args.errors.now)
    (g.E.Write.contents c.is_told.new.errors) (g.O.Write.contents c.args.output.now) (g.O.Write.contents c.args.output.now)
    (g.E.Write.contents c.operate_run.new.output) (Ok false) c.in_ok-operate_run.ensures told (refl, refl)
