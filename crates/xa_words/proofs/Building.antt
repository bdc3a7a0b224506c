-- Commands that are built argument by argument.
use Rattle.std.proofs.Common.{◌≡◌, ◌∙◌, ◌||◌, ap, ap₂, refl, subst, Bool, Result, Ok, Err, IfOk}
use Rattle.clap.specs.Built.{AddsArg}
use Rattle.clap.specs.Simple.{App, Shape, new_app, with_rule}
use Rattle.clap.specs.Walk.{Rule}
use Rattle.clap.specs.declared.builder.arg.Arg.{Arg}
use Rattle.clap.specs.declared.builder.command.Command.{Command}
use Rattle.xa_words.specs.Line.{HasRule, HasShape, IsApp, direction_rule, format_rule, play_name_rule, print_script_rule, reach_rules}
use Rattle.xa_words.specs.Line.{seconds_rule, session_rule, verb_shape, with_given, with_rules, xid_rule, yes_rule}
use Rattle.xa_words.specs.Verbs.{decides, lists, names_branch, names_direction, names_session, opens_session, verb_text}
use Rattle.xa_words.specs.declared.verb.Verb.{Verb}
use Rattle.xa_words.specs.declared.verb.Verb.TheVariants.{Status, Branches, Recover, Commit, Rollback, Forget, Decide, Doom, Disconnect}
use Rattle.xa_words.specs.declared.verb.Verb.TheVariants.{Trim, Restart, RollbackMarked}

pub adds_rule : (old : Command) (arg : Arg) (new : Command) (app : App) (rule : Rule) → IsApp app old → HasRule rule arg
    → AddsArg old arg new → IsApp (with_rule app rule) new
adds_rule old arg new app rule builds has adds = record {
  app_is = adds.shape has.local ∙ ap₂ with_rule builds.app_is has.rule_is;
  local = adds.globals ∙ ap₂ (λ a b. a || b) builds.local has.local;
}

pub has_shape : (app : App) (command : Command) → IsApp app command → HasShape app.top command
has_shape app command builds = record {
  shape_is = ap (λ (a : App). a.top) builds.app_is;
  local = builds.local;
}

-- the last step of a chain, whose result is given on
pub last_rule : {E : Type 0} (old : Command) (arg : Arg) (r : Result Command E) (app : App) (rule : Rule) → IsApp app old
    → HasRule rule arg → IfOk r (AddsArg old arg) → IfOk r (HasShape (with_rule app rule).top)
last_rule old arg (Ok new) app rule builds has adds = has_shape (with_rule app rule) new (adds_rule old arg new app rule builds has adds)
last_rule old arg (Err e) app rule builds has adds = tt

-- an argument that is given or isn't
pub gives_rule : {E : Type 0} (old : Command) (arg : Arg) (r : Result Command E) (app : App) (rule : Rule) → IsApp app old
    → HasRule rule arg → IfOk r (AddsArg old arg) → IfOk r (IsApp (with_rule app rule))
gives_rule old arg (Ok new) app rule builds has adds = adds_rule old arg new app rule builds has adds
gives_rule old arg (Err e) app rule builds has adds = tt

-- whether it is given is known
pub given_as : (b b' : Bool) → b ≡ b' → (rule : Rule) (app : App) (command : Command) → IsApp (with_given b rule app) command
    → IsApp (with_given b' rule app) command
given_as b b' same rule app command builds = subst (λ (d : Bool). IsApp (with_given d rule app) command) same builds

pub given_ok : {E : Type 0} (b b' : Bool) → b ≡ b' → (rule : Rule) (app : App) (r : Result Command E)
    → IfOk r (IsApp (with_given b rule app)) → IfOk r (IsApp (with_given b' rule app))
given_ok b b' same rule app r builds = subst (λ (d : Bool). IfOk r (IsApp (with_given d rule app))) same builds

pub shaped : {E : Type 0} (r : Result Command E) (app : App) (shape : Shape) → app.top ≡ shape → IfOk r (IsApp app)
    → IfOk r (HasShape shape)
shaped (Ok new) app shape same builds = subst (λ (s : Shape). HasShape s new) same (has_shape app new builds)
shaped (Err e) app shape same builds = tt

-- a verb's command, argument by argument
abbrev pub built_app : Verb → App
built_app verb =
    with_given (decides verb) yes_rule
    (with_rule (with_given (lists verb) format_rule (with_rule (with_given (opens_session verb) play_name_rule
    (with_rules (with_given (names_session verb) session_rule (with_given (names_branch verb) xid_rule (with_given (names_direction verb) direction_rule (new_app (verb_text verb)))))
    reach_rules)) seconds_rule)) print_script_rule)

pub built_shape : (verb : Verb) → (built_app verb).top ≡ verb_shape verb
built_shape Status = refl
built_shape Branches = refl
built_shape Recover = refl
built_shape Commit = refl
built_shape Rollback = refl
built_shape Forget = refl
built_shape Decide = refl
built_shape Doom = refl
built_shape Disconnect = refl
built_shape Trim = refl
built_shape Restart = refl
built_shape RollbackMarked = refl
