use Rattle.std.proofs.Common.{◌+◌, subst}
use Rattle.xa_log.specs.Shown.{Shows, FetchedShown}
use Rattle.xa_log.proofs.Fetch.{on_fault, some_within, any_reach}
use Rattle.xa_log.proofs.Shown.{unshown, found_some}
use Rattle.xa_log.proofs.left_out.next_on_either.Goals as goal

pub returns-in_err-next_shown-clause-fetched : goal.returns-in_err-next_shown-clause-fetched
returns-in_err-next_shown-clause-fetched g c begin f =
    on_fault _ _ c.from_residual.result c.from_residual.ensures.0
    (some_within _ _ _ _ (c.in_err-next_shown.ensures.fetched begin (c.args.len + 1048576) f (any_reach _ _ c.args.len _ _ f.within c.requires.within)))

pub returns-in-None-clause-finds : goal.returns-in-None-clause-finds
returns-in-None-clause-finds g c h long caches =
    unshown c.args.format _ _ (subst (λ o. Shows c.args.format (g.D.Disk.seen c.args.disk.now) c.args.at c.next_shown.new.window o) c.in-None.is (c.in_ok-next_shown.ensures.shows h long caches))

pub returns-in-None-clause-fetched : goal.returns-in-None-clause-fetched
returns-in-None-clause-fetched g c begin f =
    subst (λ o. FetchedShown c.args.len (c.args.len + 1048576) begin (g.D.Disk.counts c.next_shown.new.disk) o) c.in-None.is
    (c.in_ok-next_shown.ensures.fetched begin (c.args.len + 1048576) f (any_reach _ _ c.args.len _ _ f.within c.requires.within))

pub returns-in-Some-clause-fetched : goal.returns-in-Some-clause-fetched
returns-in-Some-clause-fetched g c begin f =
    found_some c.chain_on_either.result c.in-Some.shown c.args.len (c.args.len + 1048576) begin _ c.chain_on_either.ensures.kept
    (subst (λ o. FetchedShown c.args.len (c.args.len + 1048576) begin (g.D.Disk.counts c.next_shown.new.disk) o) c.in-Some.is
    (c.in_ok-next_shown.ensures.fetched begin (c.args.len + 1048576) f (any_reach _ _ c.args.len _ _ f.within c.requires.within)))
