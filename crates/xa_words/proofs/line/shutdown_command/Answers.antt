use Rattle.std.proofs.Common.{refl, rules, codes}
use Rattle.clap.specs.Simple.{new_app}
use Rattle.xa_words.specs.Line.{IsApp, reach_rules, shutdown_shape, with_rules}
use Rattle.xa_words.proofs.Building.{shaped}
use Rattle.xa_words.proofs.line.shutdown_command.Goals as goal

pub returns : goal.returns
returns c =
    let none = new_app (codes "shutdown") in
    let first : IsApp none c.after_help-command.result = record { app_is = search rules; local = search rules } in
    shaped c.with_reach.result (with_rules none reach_rules) shutdown_shape refl (c.with_reach.ensures none first)
