use Rattle.std.proofs.Common.{arith, length-drop}
use Rattle.xa_log.proofs.Cached.{cached_byte}
use Rattle.xa_log.proofs.Fetch.{on_fault, some_within}
use Rattle.xa_log.proofs.behind.look_behind.Goals as goal

pub returns-in_err-span-clause-fetched : goal.returns-in_err-span-clause-fetched
returns-in_err-span-clause-fetched g c start f =
    on_fault _ _ c.from_residual.result c.from_residual.ensures.0 (some_within _ _ _ _ (c.in_err-span.ensures.fetched start f))

pub returns-clause-behind : goal.returns-clause-behind
returns-clause-behind g c h len caches =
    let file = g.D.Disk.seen c.args.disk.now in
    (omega (arith, len, length-drop c.args.at file), cached_byte file c.fill.new.window c.in_ok-span.span c.args.at 5 4 (omega arith) (c.in_ok-span.ensures.caches h caches) c.in_ok-span.ensures.covers)
