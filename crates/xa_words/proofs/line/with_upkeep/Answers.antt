use Rattle.xa_words.specs.Line.{accept_damage_rule, audit_out_rule, exit_when_down_rule, tick_rule, trim_rule}
use Rattle.xa_words.proofs.Building.{gives_rule}
use Rattle.xa_words.proofs.line.with_upkeep.Goals as goal

pub returns : goal.returns
returns c app builds =
    let one = c.in_ok-command.ensures app trim_rule tick_rule builds c.trim.ensures c.tick.ensures in
    let two = c.in_ok-command-2.ensures _ exit_when_down_rule audit_out_rule one c.exit_when_down.ensures c.audit_out.ensures in
    gives_rule c.in_ok-command-2.command c.accept_damage.result c.arg.result _ accept_damage_rule two c.accept_damage.ensures c.arg.ensures
