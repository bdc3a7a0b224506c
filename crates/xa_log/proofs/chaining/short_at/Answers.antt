use Rattle.std.proofs.Common.{◌≡◌, ◌∙◌, ◌+◌, ap, arith, drop, length, length-drop, refl, sym, List, ℕ, Some, None}
use Rattle.std.specs.Int.{w32, to_be_bytes}
use Rattle.xa_log.specs.Believed.Chain.{body_at, size_at}
use Rattle.xa_log.proofs.Walk.{length-body_at}
use Rattle.xa_log.proofs.Fetch.{on_fault, fault_within, fill_within}
use Rattle.xa_log.proofs.Front.{size_spelled}
use Rattle.xa_log.proofs.Shown.{short_shown, window_says}
use Rattle.xa_log.proofs.chaining.short_at.Goals as goal

pub returns-in-None-clause-stands : goal.returns-in-None-clause-stands
returns-in-None-clause-stands g c format h long caches spelled =
    let file : List ℕ = g.D.Disk.seen c.args.disk.now in
    let has = c.in_ok-span.ensures.caches h caches in (
      window_says format file c.fill.new.window c.args.prev.now _ _ c.in_ok-span.span c.args.at c.args.size _ _ _ _ (omega arith) (omega arith) (omega (arith, long)) spelled has c.in_ok-span.ensures.covers refl refl (omega arith) (omega arith) refl refl
          None c.in-None.ensures,
      short_shown format (drop c.args.at file) (omega (arith, size_spelled (drop c.args.at file) c.args.size (omega arith) spelled)),
      has,
    )

pub returns-in_ok-body-in-Some-clause-stands : goal.returns-in_ok-body-in-Some-clause-stands
returns-in_ok-body-in-Some-clause-stands g c format h long caches spelled =
    let file : List ℕ = g.D.Disk.seen c.args.disk.now in
    let x : List ℕ = drop c.args.at file in
    let items : List ℕ = c.in_ok-body-in-Some.body.items in
    let has = c.in_ok-span.ensures.caches h caches in
    let says =
    window_says format file c.fill.new.window c.args.prev.now _ _ c.in_ok-span.span c.args.at c.args.size _ _ _ _ (omega arith) (omega arith) (omega (arith, long)) spelled has c.in_ok-span.ensures.covers refl refl (omega arith) (omega arith) refl refl
    (Some c.in-Some.digest) c.in-Some.ensures in
    let size : size_at x ≡ c.args.size = size_spelled x c.args.size (omega arith) spelled in
    let body : items ≡ body_at x = c.in_ok-body-in-Some.ensures.items ∙ says.1 in
    let n : length items ≡ c.args.size = ap length body ∙ length-body_at x (omega (arith, size, long, length-drop c.args.at file)) ∙ size in
    (says.0, spelled ∙ ap (λ (k : ℕ). to_be_bytes w32 k) (sym n), body, says.2, has)

pub returns-in_err-span-clause-fetched : goal.returns-in_err-span-clause-fetched
returns-in_err-span-clause-fetched g c start most f r =
    on_fault _ _ c.from_residual.result c.from_residual.ensures.0
    (fault_within c.args.span c.args.len c.args.at (36 + c.args.size) most start _ (c.in_err-span.ensures.fetched start f) (λ long. cc (c.in_err-span.ensures.covered long)) r)

pub returns-in_err-body-in-Some-clause-fetched : goal.returns-in_err-body-in-Some-clause-fetched
returns-in_err-body-in-Some-clause-fetched g c start most f r =
    let it = fill_within c.args.span c.in_ok-span.span c.args.len c.args.at (36 + c.args.size) most start _ (c.in_ok-span.ensures.fetched start f) c.in_ok-span.ensures.whole (λ le. cc (c.in_ok-span.ensures.covered le)) r in
    on_fault _ _ c.from_residual-in_err-body-in-Some.result c.from_residual-in_err-body-in-Some.ensures.0 (record { upto = _; fetched = it.0; bounded = it.1 })

pub returns-in_ok-body-in-Some-clause-fetched : goal.returns-in_ok-body-in-Some-clause-fetched
returns-in_ok-body-in-Some-clause-fetched g c start most f r =
    fill_within c.args.span c.in_ok-span.span c.args.len c.args.at (36 + c.args.size) most start _ (c.in_ok-span.ensures.fetched start f) c.in_ok-span.ensures.whole (λ le. cc (c.in_ok-span.ensures.covered le)) r

pub returns-in-None-clause-fetched : goal.returns-in-None-clause-fetched
returns-in-None-clause-fetched g c start most f r =
    fill_within c.args.span c.in_ok-span.span c.args.len c.args.at (36 + c.args.size) most start _ (c.in_ok-span.ensures.fetched start f) c.in_ok-span.ensures.whole (λ le. cc (c.in_ok-span.ensures.covered le)) r
