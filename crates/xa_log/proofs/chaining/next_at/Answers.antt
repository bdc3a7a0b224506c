use Rattle.std.proofs.Common.{◌∙◌, ap, arith, drop, take, length, subst, sym, List, ℕ, IfOk}
use Rattle.xa_log.specs.Calls.{FetchedUpto}
use Rattle.xa_log.specs.Shown.{IsShown, Stands}
use Rattle.xa_log.specs.Window.{Caches}
use Rattle.xa_log.proofs.Fetch.{on_fault}
use Rattle.xa_log.proofs.Shown.{unshown, unshown_short}
use Rattle.xa_log.proofs.chaining.next_at.Goals as goal

pub returns-in_err-size-clause-fetched : goal.returns-in_err-size-clause-fetched
returns-in_err-size-clause-fetched g c start most f r =
    on_fault _ _ c.from_residual.result c.from_residual.ensures.0 (c.in_err-size.ensures.fetched start most f r)

pub returns-then-size-eq0-clause-stands : goal.returns-then-size-eq0-clause-stands
returns-then-size-eq0-clause-stands g c h long caches =
    let x : List ℕ = drop c.args.at (g.D.Disk.seen c.args.disk.now) in
    let it = c.in_ok-size.ensures.size h long caches in
    let none = it.none c.if-size-eq0.true in
    (unshown c.args.format c.args.prev.now x none, unshown_short c.args.format x none, it.caches)

pub returns-then-size-eq0-clause-fetched : goal.returns-then-size-eq0-clause-fetched
returns-then-size-eq0-clause-fetched g c start most f r = (c.in_ok-size.ensures.fetched start most f r).upto

pub returns-then-size-le-MOST_BODY_OF_ONE-clause-stands : goal.returns-then-size-le-MOST_BODY_OF_ONE-clause-stands
returns-then-size-le-MOST_BODY_OF_ONE-clause-stands g c h long caches =
    let file : List ℕ = g.D.Disk.seen c.args.disk.now in
    let same = c.in_ok-size.ensures.same h in
    let it = c.in_ok-size.ensures.size h long caches in
    subst (λ f. IfOk c.short_at.result (Stands c.args.format c.args.prev.now f c.args.at c.short_at.new.window)) same
    (c.short_at.ensures.stands c.args.format h (long ∙ ap (λ (f : List ℕ). length f) (sym same)) (subst (λ f. Caches f c.shown_size.new.window c.in_ok-size.span) (sym same) it.caches)
    (ap (λ (f : List ℕ). take 4 (drop c.args.at f)) same ∙ it.spelled (omega arith)))

pub returns-then-size-le-MOST_BODY_OF_ONE-clause-fetched : goal.returns-then-size-le-MOST_BODY_OF_ONE-clause-fetched
returns-then-size-le-MOST_BODY_OF_ONE-clause-fetched g c start most f r =
    let it = c.in_ok-size.ensures.fetched start most f r in
    c.short_at.ensures.fetched start most it.upto.0 (it.reaches (omega arith))

pub returns-in_err-shown-clause-fetched : goal.returns-in_err-shown-clause-fetched
returns-in_err-shown-clause-fetched g c start most f r =
    let it = c.in_ok-size.ensures.fetched start most f r in
    on_fault _ _ c.from_residual-in_err-shown.result c.from_residual-in_err-shown.ensures.0
    (c.in_err-shown.ensures.fetched start most it.upto.0 (it.reaches (omega arith)))

pub long_on-requires-clause-long : goal.long_on-requires-clause-long
long_on-requires-clause-long g c = omega (arith, c.in_ok-shown.ensures.long)

pub returns-clause-fits : goal.returns-clause-fits
returns-clause-fits g c = c.long_on.ensures.fits c.args.format c.args.at c.args.len (c.in_ok-shown.ensures.fits c.args.format c.in_ok-size.ensures.fits.small)

pub returns-clause-fetched : goal.returns-clause-fetched
returns-clause-fetched g c start most f r =
    let it = c.in_ok-size.ensures.fetched start most f r in
    subst (λ s. FetchedUpto c.args.len most start (g.D.Disk.counts c.shown_at.new.disk) s) (sym c.long_on.ensures.span)
    (c.in_ok-shown.ensures.fetched start most it.upto.0 (it.reaches (omega arith)))

pub returns-clause-stands : goal.returns-clause-stands
returns-clause-stands g c h long caches =
    let file : List ℕ = g.D.Disk.seen c.args.disk.now in
    let same = c.in_ok-size.ensures.same h in
    let it = c.in_ok-size.ensures.size h long caches in
    c.long_on.ensures.stands c.args.format file c.shown_at.new.window c.args.at (
      it.some (omega arith),
      subst (λ f. IsShown f c.args.at c.shown_at.new.window c.in_ok-shown.shown) same
          (c.in_ok-shown.ensures.shown h
          (subst (λ f. Caches f c.shown_size.new.window c.in_ok-size.span) (sym same) it.caches)
          (ap (λ (f : List ℕ). take 4 (drop c.args.at f)) same ∙ it.spelled (omega arith))),
    )
