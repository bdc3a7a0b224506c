use Rattle.std.proofs.Common.{rules, codes}
use Rattle.clap.specs.Simple.{new_app}
use Rattle.xa_words.specs.Line.{IsApp, every_rule, reach_rules, with_rules}
use Rattle.xa_words.proofs.Building.{last_rule}
use Rattle.xa_words.proofs.line.tick_command.Goals as goal

pub returns : goal.returns
returns c =
    let none = new_app (codes "tick") in
    let first : IsApp none c.after_help-command.result = record { app_is = search rules; local = search rules } in
    let reached = c.in_ok-with_reach.ensures none first in
    last_rule c.in_ok-with_reach.field-0 c.every.result c.arg.result (with_rules none reach_rules) every_rule reached c.every.ensures
    c.arg.ensures
