use Rattle.std.proofs.Common.{arith}
use Rattle.xa_manager.proofs.NewTables.{least_below, none_below}
use Rattle.xa_manager.proofs.rebuilding.least_of.Goals as goal

pub returns-in-Some-clause-below : goal.returns-in-Some-clause-below
returns-in-Some-clause-below c = least_below c.min.result c.args.prepared.now.entries _ c.in-Some.ensures.first (omega (arith, c.min.ensures))

pub returns-in-None-clause-below : goal.returns-in-None-clause-below
returns-in-None-clause-below c = λ ordered. none_below _ c.args.prepared.now.entries (λ some. absurd (cc (c.in-None.ensures.variant.1 some)))
