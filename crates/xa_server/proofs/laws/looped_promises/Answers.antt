use Rattle.xa_server.proofs.Promising.{looped_promises}
use Rattle.xa_server.proofs.laws.looped_promises.Goals as goal

-- the manager's own relation, while no group is pending
pub returns : goal.returns
returns g c = looped_promises g.D.Disk
