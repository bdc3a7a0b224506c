use Rattle.std.proofs.Common.{arith, drop, take, ap, ◌∙◌, subst, sym, ℕ, List}
use Rattle.xa_log.specs.Shown.{IsShown}
use Rattle.xa_log.specs.Window.{Caches}
use Rattle.xa_log.proofs.Fetch.{on_fault}
use Rattle.xa_log.proofs.found.next_shown.Goals as goal

pub returns-then-size-eq0-clause-shows : goal.returns-then-size-eq0-clause-shows
returns-then-size-eq0-clause-shows g c h whole caches = (c.in_ok-size.ensures.size h whole caches).none c.if-size-eq0.true

pub returns-clause-shows : goal.returns-clause-shows
returns-clause-shows g c h whole caches =
    let same = c.in_ok-size.ensures.same h in
    let it = c.in_ok-size.ensures.size h whole caches in (
      it.some (omega arith),
      subst (λ f. IsShown f c.args.at c.shown_at.new.window c.in_ok-shown.shown) same
          (c.in_ok-shown.ensures.shown h
          (subst (λ f. Caches f c.shown_size.new.window c.in_ok-size.span) (sym same) it.caches)
          (ap (λ (f : List ℕ). take 4 (drop c.args.at f)) same ∙ it.spelled (omega arith))),
    )

pub returns-in_err-size-clause-fetched : goal.returns-in_err-size-clause-fetched
returns-in_err-size-clause-fetched g c start most f r =
    on_fault _ _ c.from_residual.result c.from_residual.ensures.0 (c.in_err-size.ensures.fetched start most f r)

pub returns-then-size-eq0-clause-fetched : goal.returns-then-size-eq0-clause-fetched
returns-then-size-eq0-clause-fetched g c start most f r =
    let it = c.in_ok-size.ensures.fetched start most f r in
    record { upto = _; fetched = it.upto.0; bounded = it.upto.1 }

pub returns-clause-fetched : goal.returns-clause-fetched
returns-clause-fetched g c start most f r =
    let it = c.in_ok-size.ensures.fetched start most f r in
    c.in_ok-shown.ensures.fetched start most it.upto.0 (it.reaches (omega arith))

pub returns-in_err-shown-clause-fetched : goal.returns-in_err-shown-clause-fetched
returns-in_err-shown-clause-fetched g c start most f r =
    let it = c.in_ok-size.ensures.fetched start most f r in
    on_fault _ _ c.from_residual-in_err-shown.result c.from_residual-in_err-shown.ensures.0
    (c.in_err-shown.ensures.fetched start most it.upto.0 (it.reaches (omega arith)))
