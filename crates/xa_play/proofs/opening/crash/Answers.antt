use Rattle.xa_play.proofs.Crashes.{crashed}
use Rattle.xa_play.proofs.opening.crash.Goals as goal

pub returns-clause-crashed : goal.returns-clause-crashed
returns-clause-crashed c =
    rw (← c.in_ok-settings.ensures)
    (crashed c.in_ok-settings.settings.name c.in_ok-settings.settings.log_bytes c.args.file c.args.keeps c.args.manager c.open_on.result (c.in_ok-first.first, c.in_ok-first.second)
    c.in_ok-first.ensures c.open_on.ensures.opened)
