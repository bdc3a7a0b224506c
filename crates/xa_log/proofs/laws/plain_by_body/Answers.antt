use Rattle.xa_log.proofs.Chance as chance
use Rattle.xa_log.proofs.laws.plain_by_body.Goals as goal

pub returns : goal.returns
returns c = chance.plain_by_body
