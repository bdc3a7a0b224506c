use Rattle.xa_server.proofs.Promising.{audited_promises}
use Rattle.xa_server.proofs.laws.audited_promises.Goals as goal

pub returns : goal.returns
returns g c = audited_promises g.D.Disk
