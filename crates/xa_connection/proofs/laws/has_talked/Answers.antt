use Rattle.xa_connection.proofs.Ending.{talked-law}
use Rattle.xa_connection.proofs.laws.has_talked.Goals as goal

pub returns : goal.returns
returns g c standing session = talked-law standing (g.D.Door.called session)
