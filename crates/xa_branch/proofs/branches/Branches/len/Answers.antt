use Rattle.std.proofs.Common.{rules}
use Rattle.xa_branch.proofs.branches.Branches.len.Goals as goal

pub returns : goal.returns
returns c = search rules
