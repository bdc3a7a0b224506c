use Rattle.xa_operate.proofs.Looking.{further_looks}
use Rattle.xa_operate.proofs.laws.previews_look_only.Goals as goal

pub returns-clause-further : goal.returns-clause-further
returns-clause-further c = further_looks
