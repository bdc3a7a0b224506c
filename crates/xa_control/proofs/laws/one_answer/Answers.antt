use Rattle.xa_control.proofs.Spelled.{one_answer}
use Rattle.xa_control.proofs.laws.one_answer.Goals as goal

pub returns : goal.returns
returns c = one_answer
