-- The worked rows, computed.
use Rattle.std.proofs.Common.{true, false, Some, refl, codes}
use Rattle.clap.specs.Walk.{walked}
use Rattle.xa_words.specs.Rows.{IsSet}
use Rattle.xa_words.specs.Worked.{AddsUser, ByItself, CountedTwice, LetsIn, LogsIn, ModesAreRead, WithAudit, WithHistory, WithWorkers}
use Rattle.xa_words.specs.Worked.{WorkersAndMore}

unset : IsSet (Some (codes "false")) false
unset = record { absent = λ e. refl; set = λ e. absurd (cc e); unset = λ e. refl }

set : IsSet (Some (codes "true")) true
set = record { absent = λ e. absurd (cc e); set = λ e. refl; unset = λ e. absurd (cc e) }

pub by_itself : ByItself
unfolding walked
by_itself = (refl, refl, (false, unset, refl))

pub with_audit : WithAudit
unfolding walked
with_audit = (refl, refl, (true, set, refl))

pub with_history : WithHistory
unfolding walked
with_history = (refl, refl, (false, unset, refl))

pub with_workers : WithWorkers
unfolding walked
with_workers = (refl, refl, (false, unset, refl))

pub workers_and_more : WorkersAndMore
unfolding walked
workers_and_more = (refl, refl, (false, unset, refl))

pub lets_in : LetsIn
unfolding walked
lets_in = ((refl, unset, refl, refl), (refl, set, refl, refl))

pub adds_user : AddsUser
unfolding walked
adds_user = (refl, refl, refl, refl, refl)

pub logs_in : LogsIn
unfolding walked
logs_in = (refl, refl)

pub modes_are_read : ModesAreRead
modes_are_read = (refl, refl)

pub counted_twice : CountedTwice
unfolding walked
counted_twice = refl
