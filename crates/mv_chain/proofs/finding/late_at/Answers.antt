use Rattle.std.proofs.Common.{arith}
use Rattle.std.proofs.lemmas.Bool.Decides.{nat_tests}
use Rattle.mv_chain.proofs.Sought.{own_there, none_there, new_there}
use Rattle.mv_chain.proofs.finding.late_at.Goals as goal
use Rattle.mv_chain.proofs.finding.late_at.Goals.{else-count-gt0-via-then-count-gt0+else-timestamp_at-ts, else-count-gt0-via-else-count-gt0}

pub returns-then-timestamp_at-ts : goal.returns-then-timestamp_at-ts
returns-then-timestamp_at-ts c = λ h p.
    c.read_above.ensures h (own_there c.args.pool.now c.args.slots.now h c.args.ts c.args.count _ c.timestamp_at.result (omega (arith, c.if-count-gt0.true)) c.requires p c.timestamp_at.ensures (grind (arith, nat_tests, c.if-timestamp_at-ts.true)))

pub returns : goal.returns
returns c = λ h p.
    c.read_above-2.ensures h (new_there c.args.pool.now c.args.slots.now h c.args.ts c.args.count p (elim c.else-count-gt0.branch [
      | else-count-gt0-via-then-count-gt0+else-timestamp_at-ts w ↦
          none_there c.args.pool.now c.args.slots.now h c.args.ts c.args.count _ w.timestamp_at.result (omega (arith, w.if-count-gt0.true)) c.requires w.timestamp_at.ensures (λ same. grind (arith, nat_tests, w.if-timestamp_at-ts.false, same))
      | else-count-gt0-via-else-count-gt0 w ↦ λ j d e same. omega (arith, w.if-count-gt0.false, e)
    ]))
