-- Who logs in to a server, and who is added to those who may.
use Rattle.std.specs.Prelude.{◌≡◌, ◌⊎◌, Bool, true, false, List, [], Option, None, bytes_eq, codes, option_map}
use Rattle.std.specs.Borrow.{Bor}
use Rattle.clap.specs.Walk.{Row, Text, first_of}
use Rattle.xa_roles.specs.Believed.Roles.{named}
use Rattle.xa_roles.specs.declared.role.Role.{Role}
use Rattle.xa_words.specs.Rows.{text_in}
use Rattle.xa_words.specs.declared.malformed.Malformed.{Malformed}
use Rattle.xa_words.specs.declared.malformed.Malformed.TheVariants as malformed

-- the name under which each connection to a server is logged in, if it is
abbrev pub IsUserIn : List Row → Option (Bor Text) → Type 0
IsUserIn rows user = option_map (λ name. name.now) user ≡ first_of (codes "user") rows

-- a user is to be added
abbrev pub is_addition : List Row → Bool
is_addition rows = bytes_eq (text_in rows (codes "action") []) (codes "add")

-- with this role; None if the word is none
abbrev pub role_in : List Row → Option Role
role_in rows = named (text_in rows (codes "role") [])

-- which word of that isn't as it has to be
abbrev pub IsNoUser : List Row → Malformed → Type 0
IsNoUser rows what =
    ((what ≡ malformed.Action) × (is_addition rows ≡ false))
    ⊎ ((what ≡ malformed.Role) × (is_addition rows ≡ true) × (role_in rows ≡ None))
