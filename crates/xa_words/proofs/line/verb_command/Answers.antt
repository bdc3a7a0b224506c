use Rattle.std.proofs.Common.{◌∙◌, ap}
use Rattle.clap.specs.Simple.{app_of_fields, new_app}
use Rattle.xa_words.specs.Line.{IsApp, direction_rule, format_rule, play_name_rule, print_script_rule, seconds_rule, session_rule}
use Rattle.xa_words.specs.Line.{verb_shape, xid_rule, yes_rule}
use Rattle.xa_words.specs.Verbs.{verb_text}
use Rattle.xa_words.proofs.Building.{adds_rule, built_app, built_shape, given_as, given_ok, shaped}
use Rattle.xa_words.proofs.line.verb_command.Goals as goal

pub returns : goal.returns
returns c =
    let none = new_app (verb_text c.args.verb) in
    let first : IsApp none c.after_help-command.result = record {
      app_is = ap app_of_fields c.after_help-command.ensures ∙
          (ap app_of_fields c.about-2.ensures ∙ (c.new.ensures.app ∙ ap new_app c.text.ensures));
      local = ap (λ f. f.has_globals) c.after_help-command.ensures ∙ (ap (λ f. f.has_globals) c.about-2.ensures ∙ c.new.ensures.local);
    } in
    let one = given_as _ _ c.names_direction.ensures direction_rule none c.in_ok-command.command
    (c.in_ok-command.ensures none direction_rule first c.direction.ensures) in
    let two = given_as _ _ c.names_branch.ensures xid_rule _ c.in_ok-command-2.command
    (c.in_ok-command-2.ensures _ xid_rule one c.xid.ensures) in
    let named = given_as _ _ c.names_session.ensures session_rule _ c.in_ok-command-3.command
    (c.in_ok-command-3.ensures _ session_rule two c.session.ensures) in
    let four = c.in_ok-command-4.ensures _ named in
    let five = given_as _ _ c.opens_session.ensures play_name_rule _ c.in_ok-command-5.command
    (c.in_ok-command-5.ensures _ play_name_rule four c.open_name.ensures) in
    let six = adds_rule c.in_ok-command-5.command c.seconds.result c.in_ok-command-6.command _ seconds_rule five c.seconds.ensures
    c.in_ok-command-6.ensures in
    let seven = given_as _ _ c.lists.ensures format_rule _ c.in_ok-command-7.command
    (c.in_ok-command-7.ensures _ format_rule six c.format_of.ensures) in
    let eight = adds_rule c.in_ok-command-7.command c.print_script.result c.in_ok-command-8.command _ print_script_rule seven
    c.print_script.ensures c.in_ok-command-8.ensures in
    shaped c.with_argument-6.result (built_app c.args.verb) (verb_shape c.args.verb) (built_shape c.args.verb)
    (given_ok _ _ c.decides.ensures yes_rule _ c.with_argument-6.result (c.with_argument-6.ensures _ yes_rule eight c.yes.ensures))
