use Rattle.std.proofs.Common.{◌≡◌, ◌∙◌, List, ℕ, IfOk, subst, sym, ap, length, drop}
use Rattle.xa_log.specs.Believed.LeftOut.{as_written, with_size}
use Rattle.xa_log.specs.Shown.{IsLeft, IsMended, IsWritten}
use Rattle.xa_log.specs.Window.{Caches}
use Rattle.xa_log.proofs.left_out.read_written.Goals as goal

pub returns-in-Some-clause-left : goal.returns-in-Some-clause-left
returns-in-Some-clause-left g c h long caches short =
    let file : List ℕ = g.D.Disk.seen c.args.disk.now in
    let prev : List ℕ = c.args.prev.now in
    let mended = c.in-Some.mended in
    let same : g.D.Disk.seen c.find_mended.new.disk ≡ file = c.in_ok-mended.ensures.same h in
    let it = subst (λ o. IsWritten c.args.format prev (drop c.args.at file) (as_written c.args.format prev (drop c.args.at file)) o) c.in-Some.is (c.in_ok-mended.ensures.written c.args.format h long caches short) in
    subst (λ w. IfOk c.read_mended.result (IsLeft c.args.format prev w)) (sym it.0)
    (subst (λ f. IfOk c.read_mended.result (IsLeft c.args.format prev (with_size mended.size (drop c.args.at f)))) same
    (c.read_mended.ensures.left prev h (long ∙ ap (λ (f : List ℕ). length f) (sym same)) (subst (λ f. Caches f c.find_mended.new.window c.in_ok-mended.span) (sym same) (c.in_ok-mended.ensures.caches h caches))
    (subst (λ f. IsMended c.args.format prev (drop c.args.at f) mended) (sym same) it.1)))

pub returns-in-None-clause-left : goal.returns-in-None-clause-left
returns-in-None-clause-left g c h long caches short =
    let file : List ℕ = g.D.Disk.seen c.args.disk.now in
    let prev : List ℕ = c.args.prev.now in
    let same : g.D.Disk.seen c.find_mended.new.disk ≡ file = c.in_ok-mended.ensures.same h in
    let it = subst (λ o. IsWritten c.args.format prev (drop c.args.at file) (as_written c.args.format prev (drop c.args.at file)) o) c.in-None.is (c.in_ok-mended.ensures.written c.args.format h long caches short) in
    subst (λ w. IfOk c.read_shown.result (IsLeft c.args.format prev w)) (sym it)
    (subst (λ f. IfOk c.read_shown.result (IsLeft c.args.format prev (drop c.args.at f))) same
    (c.read_shown.ensures.left h (long ∙ ap (λ (f : List ℕ). length f) (sym same)) (subst (λ f. Caches f c.find_mended.new.window c.in_ok-mended.span) (sym same) (c.in_ok-mended.ensures.caches h caches))))
