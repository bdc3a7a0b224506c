use Rattle.std.proofs.Common.{refl}
use Rattle.xa_model.proofs.examples.worked_limits.Goals as goal

pub returns-clause-sessions : goal.returns-clause-sessions
returns-clause-sessions c = refl

pub returns-clause-branches : goal.returns-clause-branches
returns-clause-branches c = refl

pub returns-clause-more : goal.returns-clause-more
returns-clause-more c = refl

pub returns-clause-timestamps : goal.returns-clause-timestamps
returns-clause-timestamps c = refl

pub returns-clause-loose : goal.returns-clause-loose
returns-clause-loose c = refl

pub returns-clause-keys : goal.returns-clause-keys
returns-clause-keys c = refl
