use Rattle.std.proofs.Common.{refl}
use Rattle.xa_model.proofs.examples.worked_turns.Goals as goal

pub returns-clause-prepared : goal.returns-clause-prepared
returns-clause-prepared c = (refl, refl, refl, refl, refl, refl, refl, refl, refl)

pub returns-clause-rolled_back : goal.returns-clause-rolled_back
returns-clause-rolled_back c = (refl, refl, refl, refl)

pub returns-clause-marked : goal.returns-clause-marked
returns-clause-marked c = (refl, refl)

pub returns-clause-read_only : goal.returns-clause-read_only
returns-clause-read_only c = (refl, refl)

pub returns-clause-room : goal.returns-clause-room
returns-clause-room c = (refl, refl, refl, refl, refl, refl)

pub returns-clause-refused : goal.returns-clause-refused
returns-clause-refused c = (refl, refl, refl, refl, refl, refl)

pub returns-clause-lost : goal.returns-clause-lost
returns-clause-lost c = (refl, refl, refl, refl, refl, refl, refl, refl)

pub returns-clause-boots : goal.returns-clause-boots
returns-clause-boots c = (refl, refl, refl, refl)

pub returns-clause-decided : goal.returns-clause-decided
returns-clause-decided c = (refl, refl, refl, refl, refl, refl, refl, refl, refl, refl)

pub returns-clause-opened : goal.returns-clause-opened
returns-clause-opened c = (refl, refl, refl, refl, refl, refl)

pub returns-clause-each_lost : goal.returns-clause-each_lost
returns-clause-each_lost c = (refl, refl, refl, refl, refl, refl)

pub returns-clause-restart : goal.returns-clause-restart
returns-clause-restart c = (refl, refl, refl, refl)

pub returns-clause-opening : goal.returns-clause-opening
returns-clause-opening c = (refl, refl, refl, refl, refl)
