use Rattle.std.proofs.Common.{rules, codes}
use Rattle.clap.specs.Simple.{new_app}
use Rattle.xa_words.specs.Line.{IsApp, format_rule, path_rule}
use Rattle.xa_words.proofs.Building.{adds_rule, last_rule}
use Rattle.xa_words.proofs.line.scan_command.Goals as goal

pub returns : goal.returns
returns c =
    let none = new_app (codes "scan") in
    let first : IsApp none c.after_help.result = record { app_is = search rules; local = search rules } in
    let named = adds_rule c.after_help.result c.path.result c.in_ok-arg.field-0 none path_rule first c.path.ensures c.in_ok-arg.ensures in
    last_rule c.in_ok-arg.field-0 c.format.result c.arg-2.result _ format_rule named c.format.ensures c.arg-2.ensures
