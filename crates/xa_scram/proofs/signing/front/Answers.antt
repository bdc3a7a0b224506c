use Rattle.std.proofs.Common.{refl}
use Rattle.base64.proofs.OnLiterals.{base64_on_literals}
use Rattle.xa_scram.proofs.signing.front.Goals as goal

pub returns-in-Unsupported-clause-bytes : goal.returns-in-Unsupported-clause-bytes
unfolding base64_on_literals
returns-in-Unsupported-clause-bytes c = rw c.in-Unsupported.is refl

pub returns-in-Unoffered-clause-bytes : goal.returns-in-Unoffered-clause-bytes
unfolding base64_on_literals
returns-in-Unoffered-clause-bytes c = rw c.in-Unoffered.is refl
