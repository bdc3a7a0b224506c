use Rattle.mv_rules.proofs.Lasting.{committed_lasts}
use Rattle.mv_rules.proofs.laws.committed_lasts.Goals as goal

pub returns : goal.returns
returns c = committed_lasts
