use Rattle.xa_model.proofs.Histories.{one_history_law}
use Rattle.xa_model.proofs.laws.one_history.Goals as goal

pub returns : goal.returns
returns c = λ start es fs last end same h k. one_history_law start es fs last end same h k
