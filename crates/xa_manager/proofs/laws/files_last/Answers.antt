use Rattle.xa_manager.proofs.FileFates.{files_fated, files_settled}
use Rattle.xa_manager.proofs.laws.files_last.Goals as goal

pub returns-clause-fated : goal.returns-clause-fated
returns-clause-fated c = files_fated

pub returns-clause-settled : goal.returns-clause-settled
returns-clause-settled c = files_settled
