use Rattle.xa_users.proofs.Entries.{entry_says}
use Rattle.xa_users.proofs.laws.entries_say.Goals as goal

pub returns : goal.returns
returns c = entry_says
