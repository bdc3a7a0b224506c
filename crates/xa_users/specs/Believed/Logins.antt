-- Who is let in, and with which role.
use Rattle.std.specs.Prelude.{◌≡◌, ℕ, true, false, List, Option, Some, None}
use Rattle.xa_roles.specs.declared.role.Role.{Role}
use Rattle.xa_scram.specs.declared.limits.TheConstants.{LEAST_ITERATIONS}
use Rattle.xa_scram.specs.declared.opening.Opening.{Opening}
use Rattle.xa_scram.specs.Believed.Exchanges.{Begun, LetsIn}
use Rattle.xa_scram.specs.Believed.Keys.{stand_in_of}
use Rattle.xa_users.specs.declared.user.User.{User}
use Rattle.xa_users.specs.declared.users.Users.{Users}
use Rattle.xa_users.specs.Believed.Users.{user_of}

-- the name of this exchange is a user's with this role, whose verifier it is of, and the message proves
pub record Shows (users : Users) (e : Begun) (message : List ℕ) (role : Role) : Type 0 where
  pub user : User
  pub found : user_of users e.opening.name ≡ Some user
  pub same : e.credentials ≡ user.verifier
  pub right : LetsIn e message
  pub has : user.role ≡ role

-- somebody has shown to be a user with this role
abbrev pub HasShown : Users → Role → Type 0
HasShown users role = (e : Begun) × (message : List ℕ) × Shows users e message role

-- how a login begins, of the user with this name, if there is one
abbrev pub begun_of : Option User → Opening → List ℕ → List ℕ → Begun
begun_of (Some user) opening own key = record { opening = opening; credentials = user.verifier; is_known = true; own = own }
begun_of None opening own key =
    record { opening = opening; credentials = stand_in_of opening.name key LEAST_ITERATIONS; is_known = false; own = own }

abbrev pub begun : Users → Opening → List ℕ → List ℕ → Begun
begun users opening own key = begun_of (user_of users opening.name) opening own key
