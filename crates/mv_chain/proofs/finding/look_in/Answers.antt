use Rattle.std.proofs.Common.{arith}
use Rattle.mv_chain.proofs.Sought.{looks_none, looks_at}
use Rattle.mv_chain.proofs.finding.look_in.Goals as goal

pub returns-then-count-eq0-clause-found : goal.returns-then-count-eq0-clause-found
returns-then-count-eq0-clause-found c = λ h.
    let index = c.find-count.ensures.index h in
    looks_none c.args.pool.now c.args.slots.now h c.args.ts c.find-count.result _ (omega (arith, c.if-count-eq0.true)) index (c.late_at-late.ensures h index)

pub returns-clause-found : goal.returns-clause-found
returns-clause-found c = λ h.
    let index = c.find-count.ensures.index h in
    looks_at c.args.pool.now c.args.slots.now h c.args.ts c.find-count.result _ c.timestamp_at.result c.pending_at.result c.late_at-late.result (omega (arith, c.if-count-eq0.false)) c.find-count.ensures.within index c.timestamp_at.ensures c.pending_at.ensures (c.late_at-late.ensures h index)
