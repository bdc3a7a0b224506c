use Rattle.xa_manager.proofs.Promised as promised
use Rattle.xa_manager.proofs.laws.reached_promises.Goals as goal

pub returns : goal.returns
returns c = promised.reached_promises
