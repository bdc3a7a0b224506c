use Rattle.std.proofs.Common.{rules}
use Rattle.xa_branch.proofs.refusals.unprepared_refusal.Goals as goal

pub returns-in-AtWork : goal.returns-in-AtWork
returns-in-AtWork c = search rules
