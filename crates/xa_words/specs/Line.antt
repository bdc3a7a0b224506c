-- The command line of the program, as `clap` reads it: its commands, and the arguments of each. Texts for help aren't read.
use Rattle.std.specs.Prelude.{◌≡◌, ℕ, Bool, List, [], ◌∷◌, ◌++◌, Some, true, false, codes, fold}
use Rattle.clap.specs.Simple.{App, Shape, app_of, new_app, new_rule, shape_of, with_rule, with_subcommand}
use Rattle.clap.specs.Walk.{Rule, Text, rule_of}
use Rattle.clap.specs.declared.builder.action.ArgAction.TheVariants.{Set, SetTrue}
use Rattle.clap.specs.declared.builder.arg.Arg.{Arg}
use Rattle.clap.specs.declared.builder.command.Command.{Command}
use Rattle.clap.specs.declared.builder.command.Command.TheViews.{out-Command as fields_of}
use Rattle.clap.specs.declared.builder.value_parser.ValueParser.TheVariants.{Unsigned}
use Rattle.xa_limits.specs.declared.TheConstants.{LEAST_LOG, MOST_LOG}
use Rattle.xa_service.specs.declared.service.TheConstants.{MOST_LOOPS, MOST_SERVED}
use Rattle.xa_talk.specs.declared.tick.TheConstants.{MOST_EVERY}
use Rattle.xa_words.specs.Verbs.{decides, lists, names_branch, names_direction, names_session, opens_session, verb_text}
use Rattle.xa_words.specs.declared.verb.Verb.{Verb}
use Rattle.xa_words.specs.declared.verb.Verb.TheVariants.{Status, Branches, Recover, Commit, Rollback, Forget, Decide, Doom, Disconnect, Trim, Restart, RollbackMarked}

-- ---- kinds of arguments

-- an argument with one value: by its place, and by `--id`
abbrev pub positional : Text → Rule
positional id = record (new_rule id) { action = Some Set; value_names = 1 }

abbrev pub option : Text → Rule
option id = record (positional id) { long = Some id }

-- one with none
abbrev pub flag : Text → Rule
flag id = record (new_rule id) { long = Some id; action = Some SetTrue }

abbrev pub required : Rule → Rule
required rule = record rule { required = true }

abbrev pub defaulting : Text → Rule → Rule
defaulting text rule = record rule { defaults = text ∷ [] }

-- its value is a number between two
abbrev pub number : ℕ → ℕ → Rule → Rule
number least most rule = record rule { parser = Some (Unsigned least most) }

-- ---- the arguments

abbrev pub play_name_rule : Rule
play_name_rule = defaulting (codes "xarm") (option (codes "name"))

abbrev pub log_bytes_rule : Rule
log_bytes_rule = defaulting (codes "1073741824") (number 0 9223372036854775807 (option (codes "log-bytes")))

abbrev pub path_rule : Rule
path_rule = required (positional (codes "path"))

-- the same of a log's first file
abbrev pub first_path_rule : Rule
first_path_rule = required (positional (codes "path"))

abbrev pub log_rule : Rule
log_rule = required (option (codes "log"))

abbrev pub name_rule : Rule
name_rule = required (option (codes "name"))

abbrev pub port_rule : Rule
port_rule = number 1 65535 (option (codes "port"))

abbrev pub host_rule : Rule
host_rule = defaulting (codes "127.0.0.1") (option (codes "host"))

abbrev pub socket_rule : Rule
socket_rule = option (codes "socket")

abbrev pub workers_rule : Rule
workers_rule = number 1 MOST_LOOPS (option (codes "workers"))

abbrev pub audit_rule : Rule
audit_rule = flag (codes "audit")

abbrev pub audit_out_rule : Rule
audit_out_rule = option (codes "audit-out")

abbrev pub connections_rule : Rule
connections_rule = number 1 MOST_SERVED (option (codes "connections"))

abbrev pub serve_log_bytes_rule : Rule
serve_log_bytes_rule = defaulting (codes "1073741824") (number LEAST_LOG MOST_LOG (option (codes "log-bytes")))

abbrev pub loops_rule : Rule
loops_rule = number 1 MOST_LOOPS (option (codes "loops"))

abbrev pub listen_rule : Rule
listen_rule = defaulting (codes "127.0.0.1") (option (codes "listen"))

abbrev pub frame_seconds_rule : Rule
frame_seconds_rule = defaulting (codes "30") (number 0 3600 (option (codes "frame-seconds")))

abbrev pub idle_seconds_rule : Rule
idle_seconds_rule = defaulting (codes "0") (number 0 86400 (option (codes "idle-seconds")))

abbrev pub branch_seconds_rule : Rule
branch_seconds_rule = defaulting (codes "0") (number 0 86400 (option (codes "branch-seconds")))

abbrev pub trim_rule : Rule
trim_rule = defaulting (codes "67108864") (number 0 MOST_LOG (option (codes "trim")))

abbrev pub tick_rule : Rule
tick_rule = defaulting (codes "1") (number 0 MOST_EVERY (option (codes "tick")))

abbrev pub exit_when_down_rule : Rule
exit_when_down_rule = flag (codes "exit-when-down")

abbrev pub accept_damage_rule : Rule
accept_damage_rule = flag (codes "accept-damage")

-- who may log in, and whether a server listens to all though nobody has to
abbrev pub users_rule : Rule
users_rule = option (codes "users")

abbrev pub open_to_all_rule : Rule
open_to_all_rule = flag (codes "open-to-all")

abbrev pub socket_mode_rule : Rule
socket_mode_rule = defaulting (codes "0600") (option (codes "socket-mode"))

abbrev pub socket_group_rule : Rule
socket_group_rule = option (codes "socket-group")

-- who logs in
abbrev pub user_rule : Rule
user_rule = option (codes "user")

-- what becomes of which user, in which file
abbrev pub action_rule : Rule
action_rule = required (positional (codes "action"))

abbrev pub user_name_rule : Rule
user_name_rule = required (positional (codes "name"))

abbrev pub role_rule : Rule
role_rule = required (option (codes "role"))

abbrev pub to_users_rule : Rule
to_users_rule = required (option (codes "users"))

abbrev pub password_file_rule : Rule
password_file_rule = option (codes "password-file")

abbrev pub every_rule : Rule
every_rule = defaulting (codes "1") (number 1 MOST_EVERY (option (codes "every")))

abbrev pub names_rule : Rule
names_rule = flag (codes "names")

abbrev pub text_rule : Rule
text_rule = flag (codes "text")

abbrev pub strict_rule : Rule
strict_rule = flag (codes "strict")

abbrev pub follow_rule : Rule
follow_rule = flag (codes "follow")

abbrev pub dest_rule : Rule
dest_rule = required (positional (codes "dest"))

abbrev pub direction_rule : Rule
direction_rule = required (positional (codes "direction"))

abbrev pub xid_rule : Rule
xid_rule = required (positional (codes "xid"))

abbrev pub session_rule : Rule
session_rule = required (number 1 18446744073709551615 (positional (codes "session")))

abbrev pub seconds_rule : Rule
seconds_rule = defaulting (codes "10") (number 1 3600 (option (codes "seconds")))

-- the same, or without end
abbrev pub talk_seconds_rule : Rule
talk_seconds_rule = defaulting (codes "0") (number 0 3600 (option (codes "seconds")))

abbrev pub format_rule : Rule
format_rule = defaulting (codes "text") (option (codes "format"))

abbrev pub print_script_rule : Rule
print_script_rule = flag (codes "print-script")

abbrev pub yes_rule : Rule
yes_rule = flag (codes "yes")

-- ---- the commands

abbrev pub command_of : Text → List Rule → Shape
command_of name rules = record (new_app name).top { rules = rules }

abbrev pub check_shape : Shape
check_shape = command_of (codes "check") (first_path_rule ∷ serve_log_bytes_rule ∷ [])

abbrev pub copy_shape : Shape
copy_shape = command_of (codes "copy") (first_path_rule ∷ dest_rule ∷ serve_log_bytes_rule ∷ follow_rule ∷ [])

abbrev pub play_shape : Shape
play_shape = command_of (codes "play") (play_name_rule ∷ log_bytes_rule ∷ [])

abbrev pub scan_shape : Shape
scan_shape = command_of (codes "scan") (path_rule ∷ format_rule ∷ [])

-- of a server: what is served, and on which port
abbrev pub served_rules : List Rule
served_rules = log_rule ∷ name_rule ∷ port_rule ∷ serve_log_bytes_rule ∷ []

-- by how many loops, for how many connections, and whether that is audited
abbrev pub loop_rules : List Rule
loop_rules = workers_rule ∷ audit_rule ∷ connections_rule ∷ loops_rule ∷ []

-- where it listens, apart from the port
abbrev pub place_rules : List Rule
place_rules = listen_rule ∷ socket_rule ∷ socket_mode_rule ∷ socket_group_rule ∷ []

-- who has to log in
abbrev pub login_rules : List Rule
login_rules = users_rule ∷ open_to_all_rule ∷ []

-- for how long a connection may be quiet
abbrev pub quiet_rules : List Rule
quiet_rules = frame_seconds_rule ∷ idle_seconds_rule ∷ branch_seconds_rule ∷ []

-- what it does of its own accord, and when it ends
abbrev pub upkeep_rules : List Rule
upkeep_rules = trim_rule ∷ tick_rule ∷ exit_when_down_rule ∷ audit_out_rule ∷ accept_damage_rule ∷ []

abbrev pub service_rules : List Rule
service_rules = served_rules ++ loop_rules ++ place_rules

abbrev pub conduct_rules : List Rule
conduct_rules = login_rules ++ quiet_rules ++ upkeep_rules

abbrev pub serve_shape : Shape
serve_shape = command_of (codes "serve") (service_rules ++ conduct_rules)

-- how a server is reached, and who logs in to it
abbrev pub reach_rules : List Rule
reach_rules = port_rule ∷ host_rule ∷ socket_rule ∷ user_rule ∷ []

abbrev pub shutdown_shape : Shape
shutdown_shape = command_of (codes "shutdown") reach_rules

abbrev pub talk_shape : Shape
talk_shape = command_of (codes "talk") (reach_rules ++ names_rule ∷ text_rule ∷ strict_rule ∷ talk_seconds_rule ∷ [])

abbrev pub tick_shape : Shape
tick_shape = command_of (codes "tick") (reach_rules ++ every_rule ∷ [])

abbrev pub user_shape : Shape
user_shape = command_of (codes "user") (action_rule ∷ user_name_rule ∷ role_rule ∷ to_users_rule ∷ password_file_rule ∷ [])

-- an argument that a command has, or hasn't
abbrev pub given : Bool → Rule → List Rule
given true rule = rule ∷ []
given false rule = []

abbrev pub with_given : Bool → Rule → App → App
with_given true rule app = with_rule app rule
with_given false rule app = app

-- a command that asks a running server one thing
abbrev pub verb_shape : Verb → Shape
verb_shape verb =
    command_of (verb_text verb)
    (given (names_direction verb) direction_rule ++ given (names_branch verb) xid_rule
    ++ given (names_session verb) session_rule ++ reach_rules ++ given (opens_session verb) play_name_rule ++ (seconds_rule ∷ [])
    ++ given (lists verb) format_rule ++ (print_script_rule ∷ []) ++ given (decides verb) yes_rule)

-- the command line without its commands: its version
abbrev pub bare : App
bare = record { top = record (new_app (codes "xarm")).top { has_version = true; subcommand_required = true }; subs = [] }

abbrev pub with_shapes : List Shape → App
with_shapes shapes = record {
  top = record (new_app (codes "xarm")).top { has_version = true; subcommand_required = true; is_leaf = false };
  subs = shapes;
}

-- those that ask no server
abbrev pub file_shapes : List Shape
file_shapes = check_shape ∷ copy_shape ∷ play_shape ∷ scan_shape ∷ user_shape ∷ []

-- those that are a server, or ask one more than one thing
abbrev pub server_shapes : List Shape
server_shapes = serve_shape ∷ shutdown_shape ∷ talk_shape ∷ tick_shape ∷ []

-- those that ask a server how things are, and those that have it do something
abbrev pub question_shapes : List Shape
question_shapes = verb_shape Status ∷ verb_shape Branches ∷ verb_shape Recover ∷ []

abbrev pub branch_order_shapes : List Shape
branch_order_shapes =
    verb_shape Commit ∷ verb_shape Rollback ∷ verb_shape Forget ∷ verb_shape Decide ∷ verb_shape Doom ∷ []

abbrev pub order_shapes : List Shape
order_shapes = verb_shape Disconnect ∷ verb_shape Trim ∷ verb_shape Restart ∷ verb_shape RollbackMarked ∷ []

-- the whole command line: its commands, and its version
abbrev pub xarm : App
xarm = with_shapes (file_shapes ++ server_shapes ++ question_shapes ++ branch_order_shapes ++ order_shapes)

-- ---- what is built

-- the argument has this rule, in its own command alone
pub record HasRule (rule : Rule) (arg : Arg) : Type 0 where
  pub rule_is : rule_of arg ≡ rule
  pub local : arg.global ≡ false

-- the command has this shape, and no argument that others share
pub record HasShape (shape : Shape) (command : Command) : Type 0 where
  pub shape_is : shape_of command ≡ shape
  pub local : (fields_of command).has_globals ≡ false

-- the command and its subcommands read so
pub record IsApp (app : App) (command : Command) : Type 0 where
  pub app_is : app_of command ≡ app
  pub local : (fields_of command).has_globals ≡ false

-- a command with these arguments more, and with these commands
abbrev pub with_rules : App → List Rule → App
with_rules app rules = fold with_rule app rules

abbrev pub with_commands : App → List Shape → App
with_commands app shapes = fold with_subcommand app shapes
