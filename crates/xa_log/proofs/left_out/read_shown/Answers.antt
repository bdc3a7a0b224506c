use Rattle.std.proofs.Common.{◌≡◌, ◌∙◌, ◌+◌, List, ℕ, Some, IfOk, subst, sym, ap, length, drop}
use Rattle.xa_log.specs.Shown.{IsLeft, Shows, FetchedShown}
use Rattle.xa_log.proofs.Fetch.{any_reach, some_within}
use Rattle.xa_log.proofs.Left.{none_is_left}
use Rattle.xa_log.proofs.left_out.read_shown.Goals as goal

pub returns-in_err-next_shown-clause-fetched : goal.returns-in_err-next_shown-clause-fetched
returns-in_err-next_shown-clause-fetched g c begin f =
    some_within _ _ _ _ (c.in_err-next_shown.ensures.fetched begin (c.args.len + 1048576) f (any_reach _ _ c.args.len _ _ f.within c.requires.within))

pub returns-in-None-clause-left : goal.returns-in-None-clause-left
returns-in-None-clause-left g c h long caches =
    none_is_left c.args.format c.args.prev.now _ c.none_left.result c.none_left.ensures
    (subst (λ o. Shows c.args.format (g.D.Disk.seen c.args.disk.now) c.args.at c.next_shown.new.window o) c.in-None.is (c.in_ok-next_shown.ensures.shows h long caches))

pub returns-in-None-clause-fetched : goal.returns-in-None-clause-fetched
returns-in-None-clause-fetched g c begin f =
    some_within _ _ _ _
    (subst (λ o. FetchedShown c.args.len (c.args.len + 1048576) begin (g.D.Disk.counts c.next_shown.new.disk) o) c.in-None.is
    (c.in_ok-next_shown.ensures.fetched begin (c.args.len + 1048576) f (any_reach _ _ c.args.len _ _ f.within c.requires.within)))

pub returns-in-Some-clause-left : goal.returns-in-Some-clause-left
returns-in-Some-clause-left g c h long caches =
    let file : List ℕ = g.D.Disk.seen c.args.disk.now in
    let same : g.D.Disk.seen c.next_shown.new.disk ≡ file = c.in_ok-next_shown.ensures.same h in
    let shows = subst (λ o. Shows c.args.format file c.args.at c.next_shown.new.window o) c.in-Some.is (c.in_ok-next_shown.ensures.shows h long caches) in
    subst (λ f. IfOk c.read_left.result (IsLeft c.args.format c.args.prev.now (drop c.args.at f))) same
    (c.read_left.ensures.left h (long ∙ ap (λ (f : List ℕ). length f) (sym same))
    (subst (λ f. Shows c.args.format f c.args.at c.next_shown.new.window (Some c.in-Some.shown)) (sym same) shows))

pub returns-in-Some-clause-fetched : goal.returns-in-Some-clause-fetched
returns-in-Some-clause-fetched g c begin f =
    let upto = subst (λ o. FetchedShown c.args.len (c.args.len + 1048576) begin (g.D.Disk.counts c.next_shown.new.disk) o) c.in-Some.is
    (c.in_ok-next_shown.ensures.fetched begin (c.args.len + 1048576) f (any_reach _ _ c.args.len _ _ f.within c.requires.within)) in
    c.read_left.ensures.fetched begin upto.0
