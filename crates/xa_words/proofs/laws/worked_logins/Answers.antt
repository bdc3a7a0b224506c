use Rattle.xa_words.proofs.Worked.{adds_user, lets_in, logs_in}
use Rattle.xa_words.proofs.laws.worked_logins.Goals as goal

pub returns : goal.returns
returns c = record { lets = lets_in; adds = adds_user; logs = logs_in }
