use Rattle.std.proofs.Common.{◌≡◌, ◌∙◌, ap, arith, drop, length, length-drop, refl, subst, sym, List, ℕ, IfOk}
use Rattle.xa_log.specs.Believed.Chain.{size_at}
use Rattle.xa_log.specs.Believed.LeftOut.{mended}
use Rattle.xa_log.specs.Shown.{IsWritten}
use Rattle.xa_log.specs.Window.{Caches}
use Rattle.xa_log.proofs.Cached.{cached_slice}
use Rattle.xa_log.proofs.Fetch.{on_fault, some_within}
use Rattle.xa_log.proofs.Front.{size_front}
use Rattle.xa_log.proofs.Mend.{written_short, written_empty, written_tried}
use Rattle.xa_log.proofs.mending.find_mended.Goals as goal

pub returns-then-len-at-clause-written : goal.returns-then-len-at-clause-written
returns-then-len-at-clause-written g c format h long caches short =
    let file : List ℕ = g.D.Disk.seen c.args.disk.now in
    written_short format c.args.prev.now (drop c.args.at file) (omega (arith, long, length-drop c.args.at file))

pub returns-in_err-span-clause-fetched : goal.returns-in_err-span-clause-fetched
returns-in_err-span-clause-fetched g c start f =
    on_fault _ _ c.from_residual.result c.from_residual.ensures.0 (some_within _ _ _ _ (c.in_err-span.ensures.fetched start f))

pub returns-then-size_of-eq0-clause-written : goal.returns-then-size_of-eq0-clause-written
returns-then-size_of-eq0-clause-written g c format h long caches short =
    let file : List ℕ = g.D.Disk.seen c.args.disk.now in
    let x : List ℕ = drop c.args.at file in
    let size : c.size_of.result ≡ size_at x =
    c.size_of.ensures ∙ size_front _ x (cached_slice file c.fill.new.window c.in_ok-span.span c.args.at 4 _ _ refl (omega arith) (c.in_ok-span.ensures.caches h caches) c.in_ok-span.ensures.covers) in
    written_empty format c.args.prev.now x (sym size ∙ c.if-size_of-eq0.true)

pub returns-clause-written : goal.returns-clause-written
returns-clause-written g c format h long caches short =
    let file : List ℕ = g.D.Disk.seen c.args.disk.now in
    let x : List ℕ = drop c.args.at file in
    let same : g.D.Disk.seen c.fill.new.disk ≡ file = c.in_ok-span.ensures.same h in
    let has = c.in_ok-span.ensures.caches h caches in
    let size : c.size_of.result ≡ size_at x =
    c.size_of.ensures ∙ size_front _ x (cached_slice file c.fill.new.window c.in_ok-span.span c.args.at 4 _ _ refl (omega arith) has c.in_ok-span.ensures.covers) in
    subst (λ w. IfOk c.search.result (λ r. IsWritten format c.args.prev.now x w r.0)) (sym (written_tried format c.args.prev.now x (λ none. omega (arith, size, none)) short))
    (subst (λ f. IfOk c.search.result (λ r. IsWritten format c.args.prev.now (drop c.args.at f) (mended format c.args.prev.now (drop c.args.at f) 32) r.0)) same
    (c.search.ensures.mended format h (long ∙ ap (λ (f : List ℕ). length f) (sym same)) (subst (λ f. Caches f c.fill.new.window c.in_ok-span.span) (sym same) has)))
