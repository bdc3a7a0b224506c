-- The users of a server, and the TOML document that says who they are.
use Rattle.std.specs.Prelude.{◌≡◌, ℕ, ◌≤◌, All, List, [], ◌∷◌, Option, Some, codes, length}
use Rattle.std.specs.BTreeMap.{get}
use Rattle.std.specs.Cmp.Lexicographic.{slice_cmp}
use Rattle.std.specs.Ordering.{nat_cmp}
use Rattle.toml.specs.Data.{Data, string, table, Members, no_members, member}
use Rattle.toml.specs.Parse.{parse_document}
use Rattle.xa_scram.specs.Believed.Keys.{Credentials}
use Rattle.xa_scram.specs.Believed.Limits.{IsName, IsWithinLimits}
use Rattle.xa_scram.specs.Believed.Messages.{text_of as verifier_text}
use Rattle.xa_roles.specs.declared.role.Role.{Role}
use Rattle.xa_roles.specs.Believed.Roles.{text_of as role_text}
use Rattle.xa_users.specs.declared.user.User.{User}
use Rattle.xa_users.specs.declared.users.Users.{Users}
use Rattle.xa_users.specs.declared.users.TheConstants.{MOST_USERS}

-- a user of this name
abbrev pub Named : Type 0
Named = List ℕ × User

abbrev pub user_named : List ℕ → Role → Credentials → Named
user_named name role verifier = (name, record { role = role; verifier = verifier })

-- a table with the members `role` and `verifier`, both strings, and no other
abbrev pub parts_data : List ℕ → List ℕ → Data
parts_data role verifier = table (member (codes "role") (string role) (member (codes "verifier") (string verifier) no_members))

-- the table of a user: the role's name, and the text of the verifier
abbrev pub user_data : User → Data
user_data u = parts_data (role_text u.role) (verifier_text u.verifier)

-- the document: a table for each user, whose key is the name
abbrev pub document_of : List Named → Members
document_of [] = no_members
document_of (u ∷ us) = member u.0 (user_data u.1) (document_of us)

abbrev pub IsUser : Named → Type 0
IsUser u = IsName u.0 × IsWithinLimits u.1.verifier

-- this text is the document of these users, of whom there is one at least
pub record SaysUsers (text : List ℕ) (us : List Named) : Type 0 where
  pub some : 1 ≤ length us
  pub few : length us ≤ MOST_USERS
  pub each : All IsUser us
  pub document : parse_document text ≡ Some (document_of us)

-- all users, in the order of their names' bytes
abbrev pub all_of : Users → List Named
all_of users = users.by_name.entries

-- the user of this name
abbrev pub user_of : Users → List ℕ → Option User
user_of users name = get (slice_cmp nat_cmp) users.by_name name
