use Rattle.std.proofs.Common.{rules}
use Rattle.xa_assoc.proofs.refusals.loose_refusal.Goals as goal

pub returns : goal.returns
returns c = search rules
