use Rattle.xa_model.proofs.Unlisted.{always_unlisted, unlisted_since_boot}
use Rattle.xa_model.proofs.laws.unlisted_until_prepared.Goals as goal

pub returns-clause-always : goal.returns-clause-always
returns-clause-always c = always_unlisted

pub returns-clause-boot : goal.returns-clause-boot
returns-clause-boot c = unlisted_since_boot
