use Rattle.xa_users.proofs.Worked.{entries}
use Rattle.xa_users.proofs.laws.worked_entries.Goals as goal

pub returns : goal.returns
returns c = entries
