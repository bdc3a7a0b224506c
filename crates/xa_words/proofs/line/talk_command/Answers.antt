use Rattle.std.proofs.Common.{rules, codes}
use Rattle.clap.specs.Simple.{new_app}
use Rattle.xa_words.specs.Line.{IsApp, names_rule, reach_rules, strict_rule, talk_seconds_rule, text_rule, with_rules}
use Rattle.xa_words.proofs.Building.{adds_rule, last_rule}
use Rattle.xa_words.proofs.line.talk_command.Goals as goal

pub returns : goal.returns
returns c =
    let none = new_app (codes "talk") in
    let first : IsApp none c.after_help-command.result = record { app_is = search rules; local = search rules } in
    let reached = c.in_ok-with_reach.ensures none first in
    let one = adds_rule c.in_ok-with_reach.field-0 c.names.result c.in_ok-arg.field-0 (with_rules none reach_rules) names_rule reached
    c.names.ensures c.in_ok-arg.ensures in
    let two = adds_rule c.in_ok-arg.field-0 c.text.result c.in_ok-arg-2.field-0 _ text_rule one c.text.ensures c.in_ok-arg-2.ensures in
    let three = adds_rule c.in_ok-arg-2.field-0 c.strict.result c.in_ok-arg-3.field-0 _ strict_rule two c.strict.ensures
    c.in_ok-arg-3.ensures in
    last_rule c.in_ok-arg-3.field-0 c.talk_seconds.result c.arg-4.result _ talk_seconds_rule three c.talk_seconds.ensures c.arg-4.ensures
