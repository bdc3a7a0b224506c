use Rattle.xa_scram.proofs.Worked.{keyed, spelled}
use Rattle.xa_scram.proofs.laws.worked_rows.Goals as goal

pub returns-clause-spelled : goal.returns-clause-spelled
returns-clause-spelled c = spelled

pub returns-clause-keyed : goal.returns-clause-keyed
returns-clause-keyed c = keyed
