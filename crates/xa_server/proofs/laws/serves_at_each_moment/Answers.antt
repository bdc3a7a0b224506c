use Rattle.xa_server.proofs.Promising.{moment_promises}
use Rattle.xa_server.proofs.laws.serves_at_each_moment.Goals as goal

pub returns : goal.returns
returns g c = moment_promises g.D.Disk
