use Rattle.std.proofs.Common.{arith, drop, sym, subst, Some}
use Rattle.xa_log.specs.Shown.{Shows}
use Rattle.xa_log.proofs.Shown.{length-shown, long_shown}
use Rattle.xa_log.proofs.chaining.long_on.Goals as goal

pub returns-in-Ok-clause-stands : goal.returns-in-Ok-clause-stands
returns-in-Ok-clause-stands c format file window at it = c.in-Ok.ensures.chains format file window at it

pub returns-in-Err-clause-stands : goal.returns-in-Err-clause-stands
returns-in-Err-clause-stands c format file window at it = (
  c.in-Err.ensures.chains format file window at it,
  long_shown format (drop at file) (omega (arith, length-shown format file window at c.args.shown it)) it.0,
  subst (λ s. Shows format file at window (Some s)) (sym c.in-Err.ensures.kept) it,
)
