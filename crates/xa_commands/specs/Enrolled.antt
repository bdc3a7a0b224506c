-- A user was added to a text of users.
use Rattle.std.specs.Io.KnownBytes.{Appends}
use Rattle.std.specs.Prelude.{ℕ, ◌≡◌, List, length, Option}
use Rattle.xa_commands.specs.Entries.{IsFree, SaysSomebody, with_entry}
use Rattle.xa_commands.specs.Secrets.{IsSecret}
use Rattle.xa_commands.specs.declared.enrolling.TheConstants.{SALT_BYTES}
use Rattle.xa_roles.specs.declared.role.Role.{Role}
use Rattle.xa_scram.specs.Believed.Keys.{Credentials, credentials_of}
use Rattle.xa_scram.specs.Believed.Limits.{IsName}
use Rattle.xa_scram.specs.declared.limits.TheConstants.{LEAST_ITERATIONS}
use Rattle.xa_users.specs.Believed.Users.{Named, user_named}

-- a verifier of this secret, with some salt of 16 bytes
abbrev pub IsVerifierOfSome : List ℕ → Credentials → Type 0
IsVerifierOfSome secret verifier =
    (salt : List ℕ) × (length salt ≡ SALT_BYTES) × (verifier ≡ credentials_of secret salt LEAST_ITERATIONS)

-- over files, with what was written to one
module _ {F : Type 0} (contents : F → Option (List ℕ)) where
  -- some text, in which the name is free, was written to a file, with the entry of this user after it: a server takes that
  pub record HasEntered (user : Named) (file file' : F) : Type 0 where
    pub text : List ℕ
    pub free : IsFree text user.0
    pub taken : SaysSomebody (with_entry text user)
    pub written : Appends (contents file) (contents file') (with_entry text user)

  -- The same of a user with this name and role, and with a verifier of some secret. No clause says that the text is that of the file
  -- at a path, or that what was written is there now.
  pub record HasAdded (name : List ℕ) (role : Role) : Type 0 where
    pub is_name : IsName name
    pub secret : List ℕ
    pub is_secret : IsSecret secret
    pub verifier : Credentials
    pub of_secret : IsVerifierOfSome secret verifier
    pub file : F
    pub file' : F
    pub entered : HasEntered (user_named name role verifier) file file'
