use Rattle.std.proofs.Common.{rules}
use Rattle.xa_log.proofs.log.Log.open.Goals as goal

pub returns-clause-logged : goal.returns-clause-logged
returns-clause-logged g c = search rules

pub returns-clause-leaves : goal.returns-clause-leaves
returns-clause-leaves g c = search rules

pub returns-clause-same : goal.returns-clause-same
returns-clause-same g c = search rules

pub returns-clause-time : goal.returns-clause-time
returns-clause-time g c = search rules

pub returns-clause-time_second : goal.returns-clause-time_second
returns-clause-time_second g c = search rules

pub returns-clause-count : goal.returns-clause-count
returns-clause-count g c = search rules

pub returns-clause-calls : goal.returns-clause-calls
returns-clause-calls g c = search rules

pub returns-clause-calls_second : goal.returns-clause-calls_second
returns-clause-calls_second g c = search rules

pub returns-clause-calls_once : goal.returns-clause-calls_once
returns-clause-calls_once g c = search rules

pub returns-clause-calls_once_second : goal.returns-clause-calls_once_second
returns-clause-calls_once_second g c = search rules

pub returns-clause-little : goal.returns-clause-little
returns-clause-little g c = search rules

pub returns-clause-log : goal.returns-clause-log
returns-clause-log g c h = c.on.ensures.log h (c.in_ok-opened.ensures.stands h)

pub returns-clause-ends : goal.returns-clause-ends
returns-clause-ends g c = c.on.ensures.ends c.in_ok-opened.ensures.end

pub returns-clause-measured : goal.returns-clause-measured
returns-clause-measured g c h = c.on.ensures.measured h (c.in_ok-opened.ensures.stands h)
