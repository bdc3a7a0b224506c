use Rattle.xa_log.proofs.Interrupting.{interrupted_nothing, interrupted_log}
use Rattle.xa_log.proofs.standing.interrupted_is_no_stray.Goals as goal

pub returns : goal.returns
returns c = record { of_nothing = interrupted_nothing; of_log = interrupted_log }
