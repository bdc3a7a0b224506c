use Rattle.xa_scram.proofs.MutualLemmas.{mutual_always}
use Rattle.xa_scram.proofs.laws.mutual.Goals as goal

pub returns : goal.returns
returns c = mutual_always
