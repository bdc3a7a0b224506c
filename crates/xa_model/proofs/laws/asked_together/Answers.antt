use Rattle.xa_model.proofs.Beside.{quiet_is_now, quiet_leaves_group}
use Rattle.xa_model.proofs.GroupSteps.{kept_together, lost_together}
use Rattle.xa_model.proofs.GroupsBacked.{backs_together}
use Rattle.xa_model.proofs.RoomTogether.{room_where_kept, room_where_refused}
use Rattle.xa_model.proofs.StillTogether.{still_together}
use Rattle.xa_model.proofs.Together.{leaves_others, at_once_leaves_others, appends_the_same}
use Rattle.xa_model.proofs.laws.asked_together.Goals as goal

pub returns-clause-leaves : goal.returns-clause-leaves
returns-clause-leaves c = leaves_others

pub returns-clause-same : goal.returns-clause-same
returns-clause-same c = appends_the_same

pub returns-clause-kept : goal.returns-clause-kept
returns-clause-kept c = room_where_kept

pub returns-clause-refused : goal.returns-clause-refused
returns-clause-refused c = room_where_refused

pub returns-clause-kept_group : goal.returns-clause-kept_group
returns-clause-kept_group c = kept_together

pub returns-clause-lost_group : goal.returns-clause-lost_group
returns-clause-lost_group c = lost_together

pub returns-clause-backs : goal.returns-clause-backs
returns-clause-backs c = backs_together

pub returns-clause-at_once : goal.returns-clause-at_once
returns-clause-at_once c = at_once_leaves_others

pub returns-clause-still : goal.returns-clause-still
returns-clause-still c = still_together

pub returns-clause-quiet : goal.returns-clause-quiet
returns-clause-quiet c = quiet_is_now

pub returns-clause-beside : goal.returns-clause-beside
returns-clause-beside c = quiet_leaves_group
