use Rattle.std.proofs.Common.{refl}
use Rattle.xa_model.proofs.examples.worked_logs.Goals as goal

pub returns-clause-held : goal.returns-clause-held
returns-clause-held c = (refl, refl, refl, refl, refl, refl, refl)

pub returns-clause-decided : goal.returns-clause-decided
returns-clause-decided c = (refl, refl, refl, refl)

pub returns-clause-rolled_back : goal.returns-clause-rolled_back
returns-clause-rolled_back c = (refl, refl)

pub returns-clause-last_writes : goal.returns-clause-last_writes
returns-clause-last_writes c = (refl, refl)

pub returns-clause-in_order : goal.returns-clause-in_order
returns-clause-in_order c = (refl, refl)

pub returns-clause-boots : goal.returns-clause-boots
returns-clause-boots c = (refl, refl, refl, refl)

pub returns-clause-timestamps : goal.returns-clause-timestamps
returns-clause-timestamps c = (refl, refl, refl, refl, refl, refl, refl, refl, refl, refl)

pub returns-clause-names : goal.returns-clause-names
returns-clause-names c = (refl, refl, refl, refl, refl)

pub returns-clause-snapshots : goal.returns-clause-snapshots
returns-clause-snapshots c = (refl, refl, refl, refl, refl, refl, refl, refl, refl, refl, refl, refl, refl, refl)

pub returns-clause-states : goal.returns-clause-states
returns-clause-states c = ((refl, refl), (refl, refl), (refl, refl), (refl, refl), (refl, refl), (refl, refl), (refl, refl), (refl, refl))

pub returns-clause-committed : goal.returns-clause-committed
returns-clause-committed c = refl

pub returns-clause-begun : goal.returns-clause-begun
returns-clause-begun c = (refl, refl, refl, refl)
