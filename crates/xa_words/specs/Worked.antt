-- Worked rows: what the words of `serve` ask for, by what `clap` reads of them.
use Rattle.std.specs.Prelude.{◌≡◌, ℕ, Bool, true, false, List, [], ◌∷◌, Option, Some, None, IsSomeAnd, codes, map}
use Rattle.clap.specs.Simple.{subcommand_of}
use Rattle.clap.specs.Walk.{Row, Text, first_of, one_of}
use Rattle.xa_words.specs.Line.{xarm}
use Rattle.xa_roles.specs.declared.role.Role.TheVariants.{Client}
use Rattle.xa_words.specs.Logins.{is_addition, role_in}
use Rattle.xa_words.specs.Modes.{mode_of}
use Rattle.xa_words.specs.Rows.{IsSet, text_in}
use Rattle.xa_words.specs.Serving.{IsAudited, connections_in, counts_twice, loops_in, mode_in, own_number_in}

-- the words of a server on a port, and more
abbrev pub served : List Text → List Text
served more =
    codes "xarm" ∷ codes "serve" ∷ codes "--log" ∷ codes "l" ∷ codes "--name" ∷ codes "n" ∷ codes "--port" ∷ codes "1" ∷ more

-- the loops, the connections after which it ends, the log's end above which it is trimmed, and the seconds from tick to tick
abbrev pub numbers_in : List Row → List ℕ
numbers_in rows =
    loops_in rows ∷ connections_in rows ∷ own_number_in rows (codes "trim") 67108864 ∷ own_number_in rows (codes "tick") 1 ∷ []

-- what these words after it ask for: these numbers, of loops that are counted once, and an audit or none
abbrev pub ServesBy : List Text → List ℕ → Bool → Type 0
ServesBy more numbers audits =
    IsSomeAnd (subcommand_of xarm (served more))
    (λ found. (numbers_in found.1 ≡ numbers) × (counts_twice found.1 ≡ false) × IsAudited found.1 audits)

abbrev pub ByItself : Type 0
ByItself = ServesBy [] (0 ∷ 0 ∷ 67108864 ∷ 1 ∷ []) false

abbrev pub WithAudit : Type 0
WithAudit = ServesBy (codes "--audit" ∷ []) (0 ∷ 0 ∷ 67108864 ∷ 1 ∷ []) true

-- who wants the history has it audited, too
abbrev pub WithHistory : Type 0
WithHistory = ServesBy (codes "--audit-out" ∷ codes "h" ∷ []) (0 ∷ 0 ∷ 67108864 ∷ 1 ∷ []) true

abbrev pub WithWorkers : Type 0
WithWorkers = ServesBy (codes "--workers" ∷ codes "2" ∷ []) (2 ∷ 1000000 ∷ 0 ∷ 0 ∷ []) true

-- what the words say of the others counts with workers, too, also if it is the default
abbrev pub WorkersAndMore : Type 0
WorkersAndMore =
    ServesBy (codes "--tick=1" ∷ codes "--workers=64" ∷ codes "--trim=64" ∷ codes "--connections=3" ∷ [])
    (64 ∷ 3 ∷ 64 ∷ 1 ∷ []) true

-- Who may log in to a server, whether it listens to all though nobody has to, the permissions of its socket and their group:
-- by itself none are named, and the socket is its owner's; else as the words say.
abbrev pub LetsInBy : List Text → Option Text → Bool → Option ℕ → Option Text → Type 0
LetsInBy more users opens_to_all mode group =
    IsSomeAnd (subcommand_of xarm (served more))
    (λ found. (first_of (codes "users") found.1 ≡ users) × IsSet (one_of (codes "open-to-all") found.1) opens_to_all
    × (mode_in found.1 ≡ mode) × (first_of (codes "socket-group") found.1 ≡ group))

abbrev pub LetsIn : Type 0
LetsIn =
    LetsInBy [] None false (Some 384) None
    × LetsInBy (codes "--users" ∷ codes "u" ∷ codes "--socket-mode=0660" ∷ codes "--socket-group=g" ∷ codes "--open-to-all" ∷ [])
    (Some (codes "u")) true (Some 432) (Some (codes "g"))

-- the words add a client, whose secret standard input has
abbrev pub AddsUser : Type 0
AddsUser =
    IsSomeAnd
    (subcommand_of xarm
    (codes "xarm" ∷ codes "user" ∷ codes "add" ∷ codes "ada" ∷ codes "--users" ∷ codes "u" ∷ codes "--role=client" ∷ []))
    (λ found. (is_addition found.1 ≡ true) × (text_in found.1 (codes "name") [] ≡ codes "ada")
    × (text_in found.1 (codes "users") [] ≡ codes "u") × (role_in found.1 ≡ Some Client)
    × (first_of (codes "password-file") found.1 ≡ None))

-- a status is asked by who logs in, or by nobody
abbrev pub LogsIn : Type 0
LogsIn =
    IsSomeAnd (subcommand_of xarm (codes "xarm" ∷ codes "status" ∷ codes "--user" ∷ codes "ada" ∷ codes "--port=1" ∷ []))
    (λ found. first_of (codes "user") found.1 ≡ Some (codes "ada"))
    × IsSomeAnd (subcommand_of xarm (codes "xarm" ∷ codes "status" ∷ codes "--port=1" ∷ []))
    (λ found. first_of (codes "user") found.1 ≡ None)

-- the greatest and the least permissions, and words that spell none
abbrev pub ModesAreRead : Type 0
ModesAreRead =
    (map mode_of (codes "0777" ∷ codes "777" ∷ codes "000" ∷ codes "0640" ∷ []) ≡ Some 511 ∷ Some 511 ∷ Some 0 ∷ Some 416 ∷ [])
    × (map mode_of (codes "" ∷ codes "77" ∷ codes "1777" ∷ codes "00777" ∷ codes "078" ∷ codes "+77" ∷ codes "0o77" ∷ [])
    ≡ None ∷ None ∷ None ∷ None ∷ None ∷ None ∷ None ∷ [])

abbrev pub CountedTwice : Type 0
CountedTwice =
    IsSomeAnd (subcommand_of xarm (served (codes "--workers" ∷ codes "2" ∷ codes "--loops" ∷ codes "2" ∷ [])))
    (λ found. counts_twice found.1 ≡ true)
