use Rattle.std.proofs.Common.{rules}
use Rattle.xa_assoc.proofs.refusals.join_refusal.Goals as goal

pub returns-then-unknown-clause-value : goal.returns-then-unknown-clause-value
returns-then-unknown-clause-value c = search rules

pub returns-then-lasting-clause-value : goal.returns-then-lasting-clause-value
returns-then-lasting-clause-value c = search rules
