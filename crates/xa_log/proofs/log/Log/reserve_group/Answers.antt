use Rattle.std.proofs.Common.{arith}
use Rattle.xa_log.proofs.Grouped.{bytes_as_one}
use Rattle.xa_log.proofs.log.Log.reserve_group.Goals as goal

pub overflow_sub-end : goal.overflow_sub-end
overflow_sub-end g c = omega (arith, c.in-Some.ensures.some.0, bytes_as_one _ c.requires.some)
