use Rattle.std.proofs.Common.{rules, codes}
use Rattle.clap.specs.Simple.{new_app}
use Rattle.xa_words.specs.Line.{IsApp, first_path_rule, serve_log_bytes_rule}
use Rattle.xa_words.proofs.Building.{adds_rule, last_rule}
use Rattle.xa_words.proofs.line.check_command.Goals as goal

pub returns : goal.returns
returns c =
    let none = new_app (codes "check") in
    let first : IsApp none c.after_help.result = record { app_is = search rules; local = search rules } in
    let named = adds_rule c.after_help.result c.first_path.result c.in_ok-arg.field-0 none first_path_rule first c.first_path.ensures c.in_ok-arg.ensures in
    last_rule c.in_ok-arg.field-0 c.serve_log_bytes.result c.arg-2.result _ serve_log_bytes_rule named c.serve_log_bytes.ensures c.arg-2.ensures
