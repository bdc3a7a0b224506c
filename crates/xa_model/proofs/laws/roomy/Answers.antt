use Rattle.xa_model.proofs.RoomyTurns.{keeps_room, restart_keeps_room, trim_has_room}
use Rattle.xa_model.proofs.laws.roomy.Goals as goal

pub returns-clause-asked : goal.returns-clause-asked
returns-clause-asked c = keeps_room

pub returns-clause-restart : goal.returns-clause-restart
returns-clause-restart c = restart_keeps_room

pub returns-clause-trim : goal.returns-clause-trim
returns-clause-trim c = trim_has_room
