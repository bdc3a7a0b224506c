use Rattle.std.proofs.Common.{rules}
use Rattle.xa_branch.proofs.refusals.doom_refusal.Goals as goal

pub returns-in-InDoubt : goal.returns-in-InDoubt
returns-in-InDoubt c = search rules
