use Rattle.std.proofs.Common.{arith}
use Rattle.xa_log.proofs.First.{short_first}
use Rattle.xa_log.proofs.damage.is_lost_first.Goals as goal

pub returns-then-front : goal.returns-then-front
returns-then-front c = short_first c.args.format c.args.front.now (omega (arith, c.if-front.true))
