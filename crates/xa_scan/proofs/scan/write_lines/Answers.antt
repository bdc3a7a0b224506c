use Rattle.std.proofs.Common.{ℕ, List, length, ap, subst, arith, Err, Ok}
use Rattle.std.proofs.lemmas.Result.{err_from_is_err_and}
use Rattle.xa_log.specs.Reading.{bodies_of}
use Rattle.xa_scan.specs.Lines.{line_at}
use Rattle.xa_scan.specs.Scans.{PrintsLine}
use Rattle.xa_scan.proofs.Printing.{end_printed, line_failed, next_within, none_left, one_printed}
use Rattle.xa_scan.proofs.scan.write_lines.Goals as goal

pub returns-in_err-write_body : goal.returns-in_err-write_body
returns-in_err-write_body g c =
    let p = err_from_is_err_and c.from_residual.result c.from_residual.ensures.1 in
    let now = c.in_err-write_body.ensures in
    let fault = c.in_err-write_body.field-0.0 in
    rw (p.1, p.2)
    (line_failed (Unit {0}) (Unit {0}) c.args.format fault (bodies_of c.args.bodies.now) (bodies_of c.loop-body.rest.now) (bodies_of c.in-Some.others.now) c.in-Some.body.now.items c.loop-body.offset now.0
    (g.W.Write.contents c.args.writer.now) (g.W.Write.contents c.loop-body.writer) (g.W.Write.contents c.write_body.new.writer)
    c.loop-body.invariant (ap bodies_of c.in-Some.ensures.cases.0) now.1
    (subst (λ (body : List ℕ). PrintsLine {X = Unit {0}} (Err fault) (line_at c.args.format c.loop-body.offset body) now.0) c.as_slice-body.ensures.value now.2))

pub overflow_add-offset-in-Some : goal.overflow_add-offset-in-Some
overflow_add-offset-in-Some g c =
    let within = next_within c.args.format (bodies_of c.args.bodies.now) (bodies_of c.loop-body.rest.now) (bodies_of c.in-Some.others.now) c.in-Some.body.now.items c.loop-body.offset
    (g.W.Write.contents c.args.writer.now) (g.W.Write.contents c.loop-body.writer) c.loop-body.invariant (ap bodies_of c.in-Some.ensures.cases.0) in
    omega (arith, within, c.requires, c.ranges.end.fits, ap length c.as_slice-body.ensures.value)

pub loop-body-preserved : goal.loop-body-preserved
loop-body-preserved g c =
    let now = c.in_ok-write_body.ensures in
    rw c.as_slice-body.ensures.value
    (one_printed {X = Unit {0}} c.args.format c.in_ok-write_body.field-0 (bodies_of c.args.bodies.now) (bodies_of c.loop-body.rest.now) (bodies_of c.in-Some.others.now) c.in-Some.body.now.items c.loop-body.offset now.0
    (g.W.Write.contents c.args.writer.now) (g.W.Write.contents c.loop-body.writer) (g.W.Write.contents c.write_body.new.writer)
    c.loop-body.invariant (ap bodies_of c.in-Some.ensures.cases.0) now.1
    (subst (λ (body : List ℕ). PrintsLine {X = Unit {0}} (Ok c.in_ok-write_body.field-0) (line_at c.args.format c.loop-body.offset body) now.0) c.as_slice-body.ensures.value now.2))

pub returns : goal.returns
returns g c =
    let now = c.write_end.ensures in
    end_printed c.args.format c.write_end.result (bodies_of c.args.bodies.now) (bodies_of c.loop-body.rest.now) c.loop-body.offset c.args.end now.0
    (g.W.Write.contents c.args.writer.now) (g.W.Write.contents c.loop-body.writer) (g.W.Write.contents c.write_end.new.writer)
    c.loop-body.invariant (none_left c.loop-body.rest.now c.in_default.ensures.cases) c.requires now.1 now.2
