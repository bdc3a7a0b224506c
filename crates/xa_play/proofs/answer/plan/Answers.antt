use Rattle.std.proofs.Common.{rules}
use Rattle.xa_play.proofs.answer.plan.Goals as goal

pub returns-in-Current : goal.returns-in-Current
returns-in-Current c = search rules
