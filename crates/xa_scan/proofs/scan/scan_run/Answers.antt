use Rattle.std.proofs.Common.{◌≡◌, ◌∙◌, sym, length, ◌≤◌, ℕ, List, ap, subst, arith}
use Rattle.std.proofs.lemmas.List.{length-map}
use Rattle.std.specs.Prelude.{Vec}
use Rattle.std.specs.declared.alloc.Global.{Global}
use Rattle.std.proofs.lemmas.Result.{err_from_is_err_and}
use Rattle.xa_log.specs.declared.fault.OpenFault.TheVariants.{TooLong}
use Rattle.xa_log.specs.Reading.{bodies_of}
use Rattle.xa_scan.specs.Lines.{behind}
use Rattle.xa_limits.specs.declared.TheConstants.{FIRST_OFFSET, MOST_LOG}
use Rattle.xa_scan.specs.Scans.{PrintsLines}
use Rattle.xa_scan.proofs.Looking.{read_only, fault_only}
use Rattle.xa_scan.proofs.Printing.{no_longer, scanned, unread}
use Rattle.xa_scan.proofs.scan.scan_run.Goals as goal

pub returns-in_err-bodies-clause-scans : goal.returns-in_err-bodies-clause-scans
returns-in_err-bodies-clause-scans g c =
    let p = err_from_is_err_and c.from_residual.result c.from_residual.ensures.1 in
    rw (p.1, p.2)
    (unread (Unit {0}) c.args.format g.D.Disk.honest c.in_err-bodies.field-0.0 (g.D.Disk.seen c.args.disk.now) (g.W.Write.contents c.args.writer.now) (λ yes. c.in_err-bodies.ensures.value yes))

pub returns-in_err-end-clause-scans : goal.returns-in_err-end-clause-scans
returns-in_err-end-clause-scans g c =
    let p = err_from_is_err_and c.from_residual-in_err-end.result c.from_residual-in_err-end.ensures.1 in
    let file = g.D.Disk.seen c.args.disk.now in
    rw (p.1, p.2, c.in_err-end.ensures.fault.0)
    (unread (Unit {0}) c.args.format g.D.Disk.honest TooLong file (g.W.Write.contents c.args.writer.now)
    (λ yes.
    let read = c.in_ok-bodies.ensures.value yes in
    let short : behind FIRST_OFFSET (bodies_of c.in_ok-bodies.bodies.items) ≤ MOST_LOG = no_longer file (bodies_of c.in_ok-bodies.bodies.items) read.0 read.1 in
    absurd (omega (arith, short, c.in_err-end.ensures.fault.1, ap (λ (l : List (Vec ℕ Global)). behind FIRST_OFFSET (bodies_of l)) c.as_slice.ensures.value))))

pub returns-clause-scans : goal.returns-clause-scans
returns-clause-scans g c =
    let file = g.D.Disk.seen c.args.disk.now in
    let bodies = bodies_of c.in_ok-bodies.bodies.items in
    let printed = c.write_lines-written.ensures in
    let count : length c.as_slice-2.result.now ≡ length bodies = ap (λ (l : List (Vec ℕ Global)). length l) c.as_slice-2.ensures.value ∙ sym (length-map c.in_ok-bodies.bodies.items (λ (b : Vec ℕ Global). b.items)) in
    let end : c.in_ok-end.end ≡ behind FIRST_OFFSET bodies = c.in_ok-end.ensures.value ∙ ap (λ (l : List (Vec ℕ Global)). behind FIRST_OFFSET (bodies_of l)) c.as_slice.ensures.value in
    rw (c.ended.ensures, c.damage_behind-damage.ensures)
    (scanned c.args.format g.D.Disk.honest c.write_lines-written.result c.flush-flushed.result c.in_ok-bodies.damaged (length c.as_slice-2.result.now) c.in_ok-end.end file bodies printed.0
    (g.W.Write.contents c.args.writer.now) (g.W.Write.contents c.write_lines-written.new.writer) (g.W.Write.contents c.flush-flushed.new.self)
    (λ yes. (((c.in_ok-bodies.ensures.value yes).0, c.in_ok-bodies.ensures.logged yes), c.in_ok-bodies.ensures.damaged yes)) count end printed.1 c.flush-flushed.ensures.bytes
    (subst (λ (l : List (Vec ℕ Global)). PrintsLines {X = Unit {0}} c.args.format c.write_lines-written.result (bodies_of l) printed.0) c.as_slice-3.ensures.value printed.2))

pub returns-in_err-bodies-clause-looks : goal.returns-in_err-bodies-clause-looks
returns-in_err-bodies-clause-looks g c =
    let only = fault_only _ MOST_LOG _ _ c.in_err-bodies.ensures.calls in
    record { same = c.in_err-bodies.ensures.same; writes = only.0; syncs = only.1 }

pub returns-in_err-end-clause-looks : goal.returns-in_err-end-clause-looks
returns-in_err-end-clause-looks g c =
    let only = read_only MOST_LOG _ _ c.in_ok-bodies.ensures.calls in
    record { same = c.in_ok-bodies.ensures.same; writes = only.0; syncs = only.1 }

pub returns-clause-looks : goal.returns-clause-looks
returns-clause-looks g c =
    let only = read_only MOST_LOG _ _ c.in_ok-bodies.ensures.calls in
    record { same = c.in_ok-bodies.ensures.same; writes = only.0; syncs = only.1 }
