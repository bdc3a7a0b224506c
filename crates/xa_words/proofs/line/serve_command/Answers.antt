use Rattle.std.proofs.Common.{refl, rules, codes}
use Rattle.clap.specs.Simple.{new_app}
use Rattle.xa_words.specs.Line.{IsApp, conduct_rules, serve_shape, service_rules, with_rules}
use Rattle.xa_words.proofs.Building.{shaped}
use Rattle.xa_words.proofs.line.serve_command.Goals as goal

pub returns : goal.returns
returns c =
    let none = new_app (codes "serve") in
    let first : IsApp none c.after_help-command.result = record { app_is = search rules; local = search rules } in
    let one = c.in_ok-command.ensures none first in
    shaped c.with_conduct.result (with_rules (with_rules none service_rules) conduct_rules) serve_shape refl (c.with_conduct.ensures _ one)
