use Rattle.std.proofs.Common.{rules, codes}
use Rattle.clap.specs.Simple.{new_app}
use Rattle.xa_words.specs.Line.{IsApp, log_bytes_rule, play_name_rule}
use Rattle.xa_words.proofs.Building.{adds_rule, last_rule}
use Rattle.xa_words.proofs.line.play_command.Goals as goal

pub returns : goal.returns
returns c =
    let none = new_app (codes "play") in
    let first : IsApp none c.after_help.result = record { app_is = search rules; local = search rules } in
    let named = adds_rule c.after_help.result c.play_name.result c.in_ok-arg.field-0 none play_name_rule first c.play_name.ensures c.in_ok-arg.ensures in
    last_rule c.in_ok-arg.field-0 c.log_bytes.result c.arg-2.result _ log_bytes_rule named c.log_bytes.ensures c.arg-2.ensures
