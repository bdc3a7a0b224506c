use Rattle.xa_record.proofs.Bodies.{one_body, record_again}
use Rattle.xa_record.proofs.laws.one_record.Goals as goal

pub returns-clause-one : goal.returns-clause-one
returns-clause-one c = one_body

pub returns-clause-again : goal.returns-clause-again
returns-clause-again c = record_again
