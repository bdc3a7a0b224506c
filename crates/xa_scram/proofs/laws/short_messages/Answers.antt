use Rattle.xa_scram.proofs.Lengths.{short}
use Rattle.xa_scram.proofs.laws.short_messages.Goals as goal

pub returns : goal.returns
returns c = short
