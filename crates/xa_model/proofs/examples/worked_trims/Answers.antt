use Rattle.std.proofs.Common.{refl}
use Rattle.xa_model.proofs.examples.worked_trims.Goals as goal

pub returns-clause-trimmed : goal.returns-clause-trimmed
returns-clause-trimmed c = (refl, refl, refl, refl, refl, refl, refl)

pub returns-clause-limits : goal.returns-clause-limits
returns-clause-limits c = (refl, refl, refl, refl, refl)

pub returns-clause-device : goal.returns-clause-device
returns-clause-device c = (refl, refl, refl, refl, refl, refl, refl)

pub returns-clause-works : goal.returns-clause-works
returns-clause-works c = refl

pub returns-clause-counts : goal.returns-clause-counts
returns-clause-counts c = refl

pub returns-clause-prepared : goal.returns-clause-prepared
returns-clause-prepared c = refl
