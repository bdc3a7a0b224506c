use Rattle.std.proofs.Common.{refl}
use Rattle.xa_xid.specs.Reading.{xid_at, parts_at}
use Rattle.xa_frame.proofs.laws.worked_contents.Goals as goal

pub returns-clause-requests : goal.returns-clause-requests
unfolding xid_at parts_at
returns-clause-requests c = (refl, refl, refl, refl, refl, refl, refl, refl, refl, refl, refl, refl, refl, refl, refl, refl, refl, refl, refl, refl, refl, refl, refl, refl, refl, refl)

pub returns-clause-questions : goal.returns-clause-questions
returns-clause-questions c = (refl, refl, refl, refl, refl, refl, refl, refl)

pub returns-clause-replies : goal.returns-clause-replies
unfolding xid_at parts_at
returns-clause-replies c = (refl, refl, refl, refl, refl, refl, refl, refl, refl, refl, refl, refl, refl, refl, refl, refl, refl)
