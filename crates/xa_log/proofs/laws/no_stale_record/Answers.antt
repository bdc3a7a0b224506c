use Rattle.xa_log.proofs.Cleared.{no_stale}
use Rattle.xa_log.proofs.laws.no_stale_record.Goals as goal

pub returns : goal.returns
returns c = no_stale
