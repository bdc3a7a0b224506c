use Rattle.std.proofs.Common.{rules, codes}
use Rattle.clap.specs.Simple.{new_app}
use Rattle.xa_words.specs.Line.{IsApp, action_rule, password_file_rule, role_rule, to_users_rule, user_name_rule}
use Rattle.xa_words.proofs.Building.{adds_rule, last_rule}
use Rattle.xa_words.proofs.line.user_command.Goals as goal

pub returns : goal.returns
returns c =
    let none = new_app (codes "user") in
    let first : IsApp none c.after_help.result = record { app_is = search rules; local = search rules } in
    let one = adds_rule c.after_help.result c.action.result c.in_ok-arg.field-0 none action_rule first c.action.ensures
    c.in_ok-arg.ensures in
    let two = adds_rule c.in_ok-arg.field-0 c.user_name.result c.in_ok-arg-2.field-0 _ user_name_rule one c.user_name.ensures
    c.in_ok-arg-2.ensures in
    let three = adds_rule c.in_ok-arg-2.field-0 c.role.result c.in_ok-arg-3.field-0 _ role_rule two c.role.ensures c.in_ok-arg-3.ensures in
    let four = adds_rule c.in_ok-arg-3.field-0 c.to_users.result c.in_ok-arg-4.field-0 _ to_users_rule three c.to_users.ensures
    c.in_ok-arg-4.ensures in
    last_rule c.in_ok-arg-4.field-0 c.password_file.result c.arg-5.result _ password_file_rule four c.password_file.ensures c.arg-5.ensures
