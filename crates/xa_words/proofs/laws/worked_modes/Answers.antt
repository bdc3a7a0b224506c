use Rattle.xa_words.proofs.Worked.{modes_are_read}
use Rattle.xa_words.proofs.laws.worked_modes.Goals as goal

pub returns : goal.returns
returns c = modes_are_read
