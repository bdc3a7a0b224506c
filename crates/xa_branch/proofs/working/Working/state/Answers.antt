use Rattle.std.proofs.Common.{rules}
use Rattle.xa_branch.proofs.working.Working.state.Goals as goal

pub returns-in-None-3 : goal.returns-in-None-3
returns-in-None-3 c = search rules
