use Rattle.std.proofs.Common.{◌∙◌}
use Rattle.xa_check.proofs.Telling.{told_is}
use Rattle.xa_check.proofs.check.tell.Goals as goal

pub returns-clause-value : goal.returns-clause-value
returns-clause-value g c h =
    c.in_ok-told_of.ensures
    ∙ told_is c.args.log_bytes (g.D.Disk.seen c.args.disk.now) c.in_ok-contents.contents (c.in_ok-contents.ensures.value h)
