use Rattle.std.proofs.Common.{◌≡◌, ◌∙◌, ◌+◌, ap, arith, drop, length, subst, sym, false, List, ℕ, Some}
use Rattle.xa_disk.specs.declared.counts.Counts.{Counts}
use Rattle.xa_log.specs.Calls.{Fetched, FetchedUpto}
use Rattle.xa_log.specs.Believed.LeftOut.{as_written, shows_long}
use Rattle.xa_log.specs.Shown.{IsLeft, Shows, Stands, span_of}
use Rattle.xa_log.specs.Window.{Caches}
use Rattle.xa_log.specs.declared.chaining.Next.TheVariants.{Short, Long}
use Rattle.xa_log.proofs.Fetch.{on_fault, some_within, any_reach}
use Rattle.xa_log.proofs.Mend.{written_long}
use Rattle.xa_log.proofs.left_out.next_or_left.Goals as goal
use Rattle.xa_log.proofs.left_out.next_or_left.Goals.{In-Short, In-Long}

pub returns-in_err-found-clause-fetched : goal.returns-in_err-found-clause-fetched
returns-in_err-found-clause-fetched g c begin f =
    on_fault _ _ c.from_residual.result c.from_residual.ensures.0
    (some_within _ _ _ _ (c.in_err-found.ensures.fetched begin (c.args.len + 1048576) f (any_reach _ _ c.args.len _ _ f.within c.requires.within)))

pub returns-in-Chains-clause-finds : goal.returns-in-Chains-clause-finds
returns-in-Chains-clause-finds g c h long caches =
    subst (λ n. Stands c.args.format c.args.prev.now (g.D.Disk.seen c.args.disk.now) c.args.at c.next_at.new.window n) c.in-Chains.is (c.in_ok-found.ensures.stands h long caches)

pub returns-in-Chains-clause-left : goal.returns-in-Chains-clause-left
returns-in-Chains-clause-left g c h long caches none =
    let stands = subst (λ n. Stands c.args.format c.args.prev.now (g.D.Disk.seen c.args.disk.now) c.args.at c.next_at.new.window n) c.in-Chains.is (c.in_ok-found.ensures.stands h long caches) in
    absurd (cc (none, stands.0))

pub returns-in-Chains-clause-fetched : goal.returns-in-Chains-clause-fetched
returns-in-Chains-clause-fetched g c begin f =
    subst (λ n. FetchedUpto c.args.len (c.args.len + 1048576) begin (g.D.Disk.counts c.next_at.new.disk) (span_of n)) c.in-Chains.is
    (c.in_ok-found.ensures.fetched begin (c.args.len + 1048576) f (any_reach _ _ c.args.len _ _ f.within c.requires.within))

-- ---- where a window has what stands there

short : (g : _) (c : In-Short g) → g.D.Disk.honest → c.args.len ≡ length (g.D.Disk.seen c.args.disk.now) → Caches (g.D.Disk.seen c.args.disk.now) c.args.window.now c.args.span
    → Stands c.args.format c.args.prev.now (g.D.Disk.seen c.args.disk.now) c.args.at c.next_at.new.window (Short c.in-Short.span)
short g c h long caches =
    subst (λ n. Stands c.args.format c.args.prev.now (g.D.Disk.seen c.args.disk.now) c.args.at c.next_at.new.window n) c.in-Short.is (c.in_ok-found.ensures.stands h long caches)

short_read : (g : _) (c : In-Short g) (begin : Counts) → Fetched c.args.len (c.args.span.from + c.args.span.have) begin (g.D.Disk.counts c.args.disk.now)
    → FetchedUpto c.args.len (c.args.len + 1048576) begin (g.D.Disk.counts c.next_at.new.disk) c.in-Short.span
short_read g c begin f =
    subst (λ n. FetchedUpto c.args.len (c.args.len + 1048576) begin (g.D.Disk.counts c.next_at.new.disk) (span_of n)) c.in-Short.is
    (c.in_ok-found.ensures.fetched begin (c.args.len + 1048576) f (any_reach _ _ c.args.len _ _ f.within c.requires.within))

pub returns-in_ok-left-in-Short-clause-finds : goal.returns-in_ok-left-in-Short-clause-finds
returns-in_ok-left-in-Short-clause-finds g c h long caches = (short g (goal.at.returns-in_ok-left-in-Short-clause-finds g c).In-Short h long caches).0

pub returns-in_ok-left-in-Short-clause-left : goal.returns-in_ok-left-in-Short-clause-left
returns-in_ok-left-in-Short-clause-left g c h long caches none =
    let file : List ℕ = g.D.Disk.seen c.args.disk.now in
    let stands = short g (goal.at.returns-in_ok-left-in-Short-clause-left g c).In-Short h long caches in
    let same : g.D.Disk.seen c.next_at.new.disk ≡ file = c.in_ok-found.ensures.same h in
    subst (λ f. IsLeft c.args.format c.args.prev.now (as_written c.args.format c.args.prev.now (drop c.args.at f)) c.in_ok-left-in-Short.left) same
    (c.in_ok-left-in-Short.ensures.left h (long ∙ ap (λ (f : List ℕ). length f) (sym same)) (subst (λ f. Caches f c.next_at.new.window c.in-Short.span) (sym same) stands.2)
    (subst (λ f. shows_long c.args.format (drop c.args.at f) ≡ false) (sym same) stands.1))

pub returns-in_err-left-in-Short-clause-fetched : goal.returns-in_err-left-in-Short-clause-fetched
returns-in_err-left-in-Short-clause-fetched g c begin f =
    let upto = short_read g (goal.at.returns-in_err-left-in-Short-clause-fetched g c).In-Short begin f in
    on_fault _ _ c.from_residual-in_err-left-in-Short.result c.from_residual-in_err-left-in-Short.ensures.0 (c.in_err-left-in-Short.ensures.fetched begin upto.0)

pub returns-in_ok-left-in-Short-clause-fetched : goal.returns-in_ok-left-in-Short-clause-fetched
returns-in_ok-left-in-Short-clause-fetched g c begin f =
    let upto = short_read g (goal.at.returns-in_ok-left-in-Short-clause-fetched g c).In-Short begin f in
    let some = c.in_ok-left-in-Short.ensures.fetched begin upto.0 in
    record { upto = some.upto; fetched = some.fetched; bounded = omega (arith, some.fetched.within) }

-- ---- where a window has no room for it

stands : (g : _) (c : In-Long g) → g.D.Disk.honest → c.args.len ≡ length (g.D.Disk.seen c.args.disk.now) → Caches (g.D.Disk.seen c.args.disk.now) c.args.window.now c.args.span
    → Stands c.args.format c.args.prev.now (g.D.Disk.seen c.args.disk.now) c.args.at c.next_at.new.window (Long c.in-Long.shown)
stands g c h long caches =
    subst (λ n. Stands c.args.format c.args.prev.now (g.D.Disk.seen c.args.disk.now) c.args.at c.next_at.new.window n) c.in-Long.is (c.in_ok-found.ensures.stands h long caches)

read : (g : _) (c : In-Long g) (begin : Counts) → Fetched c.args.len (c.args.span.from + c.args.span.have) begin (g.D.Disk.counts c.args.disk.now)
    → FetchedUpto c.args.len (c.args.len + 1048576) begin (g.D.Disk.counts c.next_at.new.disk) c.in-Long.shown.span
read g c begin f =
    subst (λ n. FetchedUpto c.args.len (c.args.len + 1048576) begin (g.D.Disk.counts c.next_at.new.disk) (span_of n)) c.in-Long.is
    (c.in_ok-found.ensures.fetched begin (c.args.len + 1048576) f (any_reach _ _ c.args.len _ _ f.within c.requires.within))

pub returns-in_ok-left-in-Long-clause-finds : goal.returns-in_ok-left-in-Long-clause-finds
returns-in_ok-left-in-Long-clause-finds g c h long caches = (stands g (goal.at.returns-in_ok-left-in-Long-clause-finds g c).In-Long h long caches).0

pub returns-in_ok-left-in-Long-clause-left : goal.returns-in_ok-left-in-Long-clause-left
returns-in_ok-left-in-Long-clause-left g c h long caches none =
    let file : List ℕ = g.D.Disk.seen c.args.disk.now in
    let there = stands g (goal.at.returns-in_ok-left-in-Long-clause-left g c).In-Long h long caches in
    let same : g.D.Disk.seen c.next_at.new.disk ≡ file = c.in_ok-found.ensures.same h in
    subst (λ w. IsLeft c.args.format c.args.prev.now w c.in_ok-left-in-Long.left) (sym (written_long c.args.format c.args.prev.now (drop c.args.at file) there.1))
    (subst (λ f. IsLeft c.args.format c.args.prev.now (drop c.args.at f) c.in_ok-left-in-Long.left) same
    (c.in_ok-left-in-Long.ensures.left h (long ∙ ap (λ (f : List ℕ). length f) (sym same))
    (subst (λ f. Shows c.args.format f c.args.at c.next_at.new.window (Some c.in-Long.shown)) (sym same) there.2)))

pub returns-in_err-left-in-Long-clause-fetched : goal.returns-in_err-left-in-Long-clause-fetched
returns-in_err-left-in-Long-clause-fetched g c begin f =
    let upto = read g (goal.at.returns-in_err-left-in-Long-clause-fetched g c).In-Long begin f in
    on_fault _ _ c.from_residual-in_err-left-in-Long.result c.from_residual-in_err-left-in-Long.ensures.0 (c.in_err-left-in-Long.ensures.fetched begin upto.0)

pub returns-in_ok-left-in-Long-clause-fetched : goal.returns-in_ok-left-in-Long-clause-fetched
returns-in_ok-left-in-Long-clause-fetched g c begin f =
    let upto = read g (goal.at.returns-in_ok-left-in-Long-clause-fetched g c).In-Long begin f in
    let some = c.in_ok-left-in-Long.ensures.fetched begin upto.0 in
    record { upto = some.upto; fetched = some.fetched; bounded = omega (arith, some.fetched.within) }
