use Rattle.xa_model.proofs.AppliedDecisions.{applied_lasts, applied_sound}
use Rattle.xa_model.proofs.Behind.{applied_fits}
use Rattle.xa_model.proofs.LoggedEvents.{events_log_what_lasts}
use Rattle.xa_model.proofs.Restarts.{restart_lasts, reopen_lasts}
use Rattle.xa_model.proofs.Trims.{trim_lasts}
use Rattle.xa_model.proofs.laws.logged_lasts.Goals as goal

pub returns-clause-sound : goal.returns-clause-sound
returns-clause-sound c = applied_sound

pub returns-clause-applied : goal.returns-clause-applied
returns-clause-applied c = applied_lasts

pub returns-clause-fits : goal.returns-clause-fits
returns-clause-fits c = applied_fits

pub returns-clause-events : goal.returns-clause-events
returns-clause-events c = events_log_what_lasts

pub returns-clause-restart : goal.returns-clause-restart
returns-clause-restart c = restart_lasts

pub returns-clause-reopen : goal.returns-clause-reopen
returns-clause-reopen c = reopen_lasts

pub returns-clause-trim : goal.returns-clause-trim
returns-clause-trim c = trim_lasts
