use Rattle.std.proofs.Common.{◌∙◌, [], subst}
use Rattle.std.proofs.lemmas.Result.{err_from_is_err_and}
use Rattle.xa_talk.proofs.Reading.{nothing_consumed}
use Rattle.xa_talk.specs.Talks.{NextRead}
use Rattle.xa_operate.proofs.Confirming.{unread, unwritten}
use Rattle.xa_operate.proofs.confirm.is_told.Goals as goal

pub returns-in_err-print_text : goal.returns-in_err-print_text
returns-in_err-print_text g c =
    let p = err_from_is_err_and c.from_residual-in_err-print_text.result c.from_residual-in_err-print_text.ensures.1 in
    let printed = c.in_err-print_text.ensures in
    rw (p.1, p.2) (unwritten c.args.task.now c.in_err-print_text.field-0.0 c.as_slice.result.now (g.I.Read.remaining c.args.input.now)
    (g.I.Read.remaining c.args.input.now) (g.E.Write.contents c.args.errors.now) (g.E.Write.contents c.print_text.new.output) printed.0
    (c.as_slice.ensures.value ∙ c.in_ok-question.ensures) printed.1 ([], nothing_consumed (g.I.Read.remaining c.args.input.now)))

pub returns : goal.returns
returns g c =
    let read = subst (λ r. NextRead r (g.I.Read.remaining c.args.input.now) c.read_next.new.line.items (g.I.Read.remaining c.read_next.new.input)) c.in-Err.is c.read_next.ensures in
    unread c.args.task.now c.in-Err.fault c.as_slice.result.now (g.I.Read.remaining c.args.input.now) (g.I.Read.remaining c.read_next.new.input)
    (g.E.Write.contents c.args.errors.now) (g.E.Write.contents c.print_text.new.output) read.0
    (c.as_slice.ensures.value ∙ c.in_ok-question.ensures) c.in_ok-print_text.ensures read.1
