use Rattle.std.proofs.Common.{rules}
use Rattle.xa_play.proofs.play.end_of.Goals as goal

pub returns : goal.returns
returns c = search rules
