use Rattle.xa_words.specs.Line.{branch_seconds_rule, frame_seconds_rule, idle_seconds_rule}
use Rattle.xa_words.proofs.Building.{gives_rule}
use Rattle.xa_words.proofs.line.with_quiet.Goals as goal

pub returns : goal.returns
returns c app builds =
    let one = c.in_ok-command.ensures app frame_seconds_rule idle_seconds_rule builds c.frame_seconds.ensures c.idle_seconds.ensures in
    gives_rule c.in_ok-command.command c.branch_seconds.result c.arg.result _ branch_seconds_rule one c.branch_seconds.ensures c.arg.ensures
