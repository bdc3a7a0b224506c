use Rattle.std.proofs.Common.{◌∙◌}
use Rattle.xa_log.proofs.Made.{made_ends}
use Rattle.xa_log.proofs.log.Log.create.Goals as goal

pub returns-clause-ends : goal.returns-clause-ends
returns-clause-ends g c = made_ends _ (c.on-log.ensures.end ∙ c.in_ok-opened.ensures.log.1) c.on-log.ensures.alive

pub returns-clause-measured : goal.returns-clause-measured
returns-clause-measured g c h = c.on-log.ensures.measured h (c.in_ok-opened.ensures.stands h)
