use Rattle.std.proofs.Common.{refl}
use Rattle.xa_model.proofs.examples.worked_time_limits.Goals as goal

pub returns-clause-timed_out : goal.returns-clause-timed_out
returns-clause-timed_out c = refl

pub returns-clause-age : goal.returns-clause-age
returns-clause-age c = refl

pub returns-clause-marked : goal.returns-clause-marked
returns-clause-marked c = refl

pub returns-clause-refused : goal.returns-clause-refused
returns-clause-refused c = refl

pub returns-clause-down : goal.returns-clause-down
returns-clause-down c = refl

pub returns-clause-limit_lasts : goal.returns-clause-limit_lasts
returns-clause-limit_lasts c = refl

pub returns-clause-at_moment : goal.returns-clause-at_moment
returns-clause-at_moment c = (refl, refl, refl, refl, refl, refl)

pub returns-clause-never : goal.returns-clause-never
returns-clause-never c = (refl, refl)

pub returns-clause-limit : goal.returns-clause-limit
returns-clause-limit c = (refl, refl, refl)

pub returns-clause-moment_lasts : goal.returns-clause-moment_lasts
returns-clause-moment_lasts c = (refl, refl)
