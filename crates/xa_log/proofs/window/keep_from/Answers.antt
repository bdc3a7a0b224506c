use Rattle.std.proofs.Common.{arith}
use Rattle.xa_log.proofs.window.keep_from.Goals as goal

pub returns-clause-kept : goal.returns-clause-kept
returns-clause-kept c = omega arith
