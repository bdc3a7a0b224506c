use Rattle.std.proofs.Common.{arith, refl, List, ℕ}
use Rattle.xa_log.proofs.Fetch.{on_fault, some_within}
use Rattle.xa_log.proofs.Mend.{front_from}
use Rattle.xa_log.proofs.mending.search.Goals as goal

pub returns-in_err-span-clause-fetched : goal.returns-in_err-span-clause-fetched
returns-in_err-span-clause-fetched g c start f =
    on_fault _ _ c.from_residual.result c.from_residual.ensures.0 (some_within _ _ _ _ (c.in_err-span.ensures.fetched start f))

pub returns-clause-mended : goal.returns-clause-mended
returns-clause-mended g c format h long caches =
    let file : List ℕ = g.D.Disk.seen c.args.disk.now in
    c.mended_of.ensures.mended format _
    (front_from file c.fill.new.window c.in_ok-span.span c.args.at c.args.len _ _ _ refl (omega arith) (c.in_ok-span.ensures.caches h caches) c.in_ok-span.ensures.covers long (omega arith))
