use Rattle.std.proofs.Common.{rules, codes}
use Rattle.clap.specs.Simple.{new_app}
use Rattle.xa_words.specs.Line.{IsApp, dest_rule, first_path_rule, follow_rule, serve_log_bytes_rule}
use Rattle.xa_words.proofs.Building.{adds_rule, last_rule}
use Rattle.xa_words.proofs.line.copy_command.Goals as goal

pub returns : goal.returns
returns c =
    let none = new_app (codes "copy") in
    let first : IsApp none c.after_help.result = record { app_is = search rules; local = search rules } in
    let named = adds_rule c.after_help.result c.copy_path.result c.in_ok-arg.field-0 none first_path_rule first c.copy_path.ensures c.in_ok-arg.ensures in
    let placed = adds_rule c.in_ok-arg.field-0 c.dest.result c.in_ok-arg-2.field-0 _ dest_rule named c.dest.ensures c.in_ok-arg-2.ensures in
    let limited = adds_rule c.in_ok-arg-2.field-0 c.serve_log_bytes.result c.in_ok-arg-3.field-0 _ serve_log_bytes_rule placed c.serve_log_bytes.ensures c.in_ok-arg-3.ensures in
    last_rule c.in_ok-arg-3.field-0 c.follow.result c.arg-4.result _ follow_rule limited c.follow.ensures c.arg-4.ensures
