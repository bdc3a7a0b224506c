-- What the words of a command ask for.
use Rattle.std.specs.Prelude.{◌≡◌, ◌≢◌, ◌⊎◌, true, false, List, [], Option, Some, None, IsSome, codes, option_map}
use Rattle.clap.specs.Walk.{Row, Text, first_of, one_of}
use Rattle.xa_limits.specs.declared.TheConstants.{MOST_LOG}
use Rattle.xa_commands.specs.declared.server.Reach.{Reach}
use Rattle.xa_commands.specs.declared.server.Reach.TheVariants as reach
pub use Rattle.xa_words.specs.Rows.{IsPort, IsSet, most_16, most_64, number_in, number_or, text_in}
use Rattle.xa_operate.specs.Tasks.{decides}
use Rattle.xa_operate.specs.declared.format.Format.{Format}
use Rattle.xa_operate.specs.declared.task.Task.{Task}
use Rattle.xa_words.specs.Orders.{IsMalformedIn, IsNameIn, IsTaskIn, about_in, format_by, format_fault, format_named}
use Rattle.xa_words.specs.Logins.{IsNoUser, IsUserIn, is_addition, role_in}
use Rattle.xa_words.specs.Serving.{IsServiceIn, counts_twice, mode_in}
use Rattle.xa_words.specs.Verbs.{verb_of}
use Rattle.xa_words.specs.declared.malformed.Malformed.TheVariants as malformed
use Rattle.xa_words.specs.declared.verb.Verb.{Verb}
use Rattle.xa_words.specs.declared.asked.Asked.{Asked}
use Rattle.xa_words.specs.declared.asked.Asked.TheVariants.{Play, Scan, Check, Copy, AddUser, Serve, Talk, Tick, Shutdown, Operate}
use Rattle.xa_words.specs.declared.asked.Asked.TheVariants.{Script, Unconfirmed, Malformed, Conflict, Nowhere}

-- the command is one of those that ask a server nothing, or more than one thing
abbrev pub IsOther : Text → Type 0
IsOther command =
    (command ≡ codes "check")
    ⊎ ((command ≡ codes "copy")
    ⊎ ((command ≡ codes "play")
    ⊎ ((command ≡ codes "scan")
    ⊎ ((command ≡ codes "user")
    ⊎ ((command ≡ codes "serve")
    ⊎ ((command ≡ codes "shutdown") ⊎ ((command ≡ codes "talk") ⊎ (command ≡ codes "tick"))))))))

-- the command is one of the program's
abbrev pub IsCommand : Text → Type 0
IsCommand command = IsOther command ⊎ IsSome (verb_of command)

-- how a server is to be reached: at the path, if one is given, else on the port; None if neither is
abbrev pub IsReachIn : List Row → Option Reach → Type 0
IsReachIn rows (Some (reach.Socket path)) = first_of (codes "socket") rows ≡ Some path.now
IsReachIn rows (Some (reach.Port host port)) =
    IsPort rows port × (port ≢ 0) × (host.now ≡ text_in rows (codes "host") (codes "127.0.0.1"))
IsReachIn rows None = IsPort rows 0

-- a command that needs a port or a path was given neither
abbrev pub IsNowhere : Text → List Row → Type 0
IsNowhere command rows =
    (((command ≡ codes "serve") × (counts_twice rows ≡ false) × IsSome (mode_in rows))
    ⊎ ((command ≡ codes "shutdown") ⊎ ((command ≡ codes "talk") ⊎ ((command ≡ codes "tick") ⊎ IsSome (verb_of command)))))
    × IsPort rows 0

-- the words after an operator's command name this task
abbrev pub IsOrder : Text → List Row → Task → Type 0
IsOrder command rows task = (verb : Verb) × (verb_of command ≡ Some verb) × IsTaskIn verb rows task

-- the same, and how its answers are printed
abbrev pub IsPrinted : Text → List Row → Task → Format → Type 0
IsPrinted command rows task format =
    (verb : Verb) × (verb_of command ≡ Some verb) × IsTaskIn verb rows task
    × (format_by verb (text_in rows (codes "format") (codes "text")) ≡ Some format)

-- what can't be taken back was confirmed
abbrev pub IsConfirmed : List Row → Task → Type 0
IsConfirmed rows task = decides task ≡ true → IsSet (one_of (codes "yes") rows) true

-- it wasn't
abbrev pub IsUnconfirmed : List Row → Task → Type 0
IsUnconfirmed rows task = (decides task ≡ true) × IsSet (one_of (codes "yes") rows) false

-- each field of what a command asks for is that of its own argument
abbrev pub AsksBy : Text → List Row → Asked → Type 0
AsksBy command rows (Play name log_bytes) =
    (command ≡ codes "play") × (name.now ≡ text_in rows (codes "name") (codes "xarm"))
    × (log_bytes ≡ number_in rows (codes "log-bytes") most_64 MOST_LOG)
AsksBy command rows (Scan path format) =
    (command ≡ codes "scan") × (path.now ≡ text_in rows (codes "path") [])
    × (format_named (text_in rows (codes "format") (codes "text")) ≡ Some format)
AsksBy command rows (Check path log_bytes) =
    (command ≡ codes "check") × (path.now ≡ text_in rows (codes "path") [])
    × (log_bytes ≡ number_in rows (codes "log-bytes") most_64 MOST_LOG)
AsksBy command rows (Copy path to log_bytes follows) =
    (command ≡ codes "copy") × (path.now ≡ text_in rows (codes "path") [])
    × (to.now ≡ text_in rows (codes "dest") [])
    × (log_bytes ≡ number_in rows (codes "log-bytes") most_64 MOST_LOG)
    × IsSet (one_of (codes "follow") rows) follows
AsksBy command rows (AddUser path name role secret) =
    (command ≡ codes "user") × (is_addition rows ≡ true) × (path.now ≡ text_in rows (codes "users") [])
    × (name.now ≡ text_in rows (codes "name") []) × (role_in rows ≡ Some role)
    × (option_map (λ path. path.now) secret ≡ first_of (codes "password-file") rows)
AsksBy command rows (Talk reach user seconds style strict) =
    (command ≡ codes "talk") × IsReachIn rows (Some reach) × IsUserIn rows user
    × (seconds ≡ number_in rows (codes "seconds") most_64 0)
    × IsSet (one_of (codes "names") rows) style.has_names
    × IsSet (one_of (codes "text") rows) style.has_texts
    × IsSet (one_of (codes "strict") rows) strict
AsksBy command rows (Tick reach user every) =
    (command ≡ codes "tick") × IsReachIn rows (Some reach) × IsUserIn rows user
    × (every ≡ number_in rows (codes "every") most_64 1)
AsksBy command rows (Shutdown reach user) =
    (command ≡ codes "shutdown") × IsReachIn rows (Some reach) × IsUserIn rows user
-- a server, whose loops are counted once at most
AsksBy command rows (Serve service accepts) =
    (command ≡ codes "serve") × (counts_twice rows ≡ false) × IsServiceIn rows service
    × IsSet (one_of (codes "accept-damage") rows) accepts
-- of a task the script
AsksBy command rows (Script name task) =
    IsOrder command rows task × IsNameIn rows name.now × IsSet (one_of (codes "print-script") rows) true
-- what can't be taken back isn't confirmed
AsksBy command rows (Unconfirmed reach user seconds format name task about) =
    IsPrinted command rows task format × IsNameIn rows name.now × IsReachIn rows reach × IsUserIn rows user
    × (seconds ≡ number_in rows (codes "seconds") most_64 10)
    × (about.now ≡ about_in task rows)
    × IsSet (one_of (codes "print-script") rows) false × IsUnconfirmed rows task
-- that a task be done
AsksBy command rows (Operate reach user seconds format name task) =
    IsPrinted command rows task format × IsNameIn rows name.now × IsReachIn rows (Some reach) × IsUserIn rows user
    × (seconds ≡ number_in rows (codes "seconds") most_64 10)
    × IsSet (one_of (codes "print-script") rows) false × IsConfirmed rows task
AsksBy command rows (Malformed what) =
    (IsSome (verb_of command) × IsMalformedIn rows what)
    ⊎ (((verb : Verb) × (verb_of command ≡ Some verb)
    × (format_by verb (text_in rows (codes "format") (codes "text")) ≡ None) × (what ≡ format_fault verb))
    ⊎ (((command ≡ codes "scan") × (what ≡ malformed.Format)
    × (format_named (text_in rows (codes "format") (codes "text")) ≡ None))
    ⊎ (((command ≡ codes "serve") × (counts_twice rows ≡ false) × (what ≡ malformed.SocketMode) × (mode_in rows ≡ None))
    ⊎ ((command ≡ codes "user") × IsNoUser rows what))))
-- a server, whose loops are counted twice
AsksBy command rows Conflict = (command ≡ codes "serve") × (counts_twice rows ≡ true)
AsksBy command rows Nowhere = IsNowhere command rows

-- the same of the command that the words name, and its matches
abbrev pub AsksOf : Option (Text × List Row) → Asked → Type 0
AsksOf None asked = ⊥
AsksOf (Some found) asked = AsksBy found.0 found.1 asked
