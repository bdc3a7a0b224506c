use Rattle.xa_model.proofs.Restores.{restarts_restored, reopens_restored}
use Rattle.xa_model.proofs.Openings.{opens_restored, opens_fresh}
use Rattle.xa_model.proofs.laws.restored.Goals as goal

pub returns-clause-restart : goal.returns-clause-restart
returns-clause-restart c = restarts_restored

pub returns-clause-reopen : goal.returns-clause-reopen
returns-clause-reopen c = reopens_restored

pub returns-clause-open : goal.returns-clause-open
returns-clause-open c = opens_restored

pub returns-clause-fresh : goal.returns-clause-fresh
returns-clause-fresh c = opens_fresh
