use Rattle.xa_connection.proofs.Carrying.{carries-law}
use Rattle.xa_connection.proofs.laws.carries.Goals as goal

pub returns : goal.returns
returns g c standing session = carries-law standing (g.D.Door.called session)
