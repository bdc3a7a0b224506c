use Rattle.std.proofs.Common.{rules}
use Rattle.xa_words.proofs.Naming.{asks_well}
use Rattle.xa_words.proofs.command.run.Goals as goal

pub done-requires : goal.done-requires
done-requires g c = (search (rules), asks_well _ c.in-Ok-read_words.asked c.in-Ok-read_words.ensures.asks)
