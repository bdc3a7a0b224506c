use Rattle.xa_frame.proofs.Questions.{one_question}
use Rattle.xa_frame.proofs.laws.one_question.Goals as goal

pub returns : goal.returns
returns c = one_question
