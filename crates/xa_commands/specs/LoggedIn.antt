-- What a client did over a connection, which was to log in.
use Rattle.std.specs.Prelude.{ℕ, ◌≡◌, List, length, Option, Result, Ok, Err}
use Rattle.xa_commands.specs.declared.unlogged.Unlogged.{Unlogged}
use Rattle.xa_commands.specs.declared.unlogged.Unlogged.TheVariants.{Login, Name}
use Rattle.xa_scram.specs.Believed.Limits.{IsName}
use Rattle.xa_scram.specs.Believed.Messages.{base64}
use Rattle.xa_scram.specs.declared.limits.TheConstants.{OWN_BYTES}
use Rattle.xa_talk.specs.Logins.{LogsIn}
use Rattle.xa_talk.specs.declared.login_fault.LoginFault.{LoginFault}

-- the Base64 of 18 bytes
abbrev pub IsDrawn : List ℕ → Type 0
IsDrawn nonce = (bytes : List ℕ) × (length bytes ≡ OWN_BYTES) × (nonce ≡ base64 bytes)

-- why a client had no secret, or no nonce: it isn't about a login, nor about the name
abbrev pub IsEarly : Unlogged → Type 0
IsEarly (Login reach told fault) = ⊥
IsEarly (Name told) = ⊥
IsEarly why = Unit {0}

-- over connections, with what was sent over one, and what can still be read from it
module _ {C : Type 0} (sent left : C → Option (List ℕ)) where
  -- It logged in as this user, or tried to, with some secret and some nonce: no clause says that they are those that a file and
  -- the system gave.
  pub record IsLogin (user : List ℕ) (end : Result (Unit {0}) LoginFault) (c c' : C) : Type 0 where
    pub name : IsName user
    pub secret : List ℕ
    pub nonce : List ℕ
    pub drawn : IsDrawn nonce
    pub logs_in : LogsIn sent left user nonce secret c end c'

  -- by how that ended: if there was no such login, nothing was sent
  abbrev pub ClientEnds : List ℕ → Result (Unit {0}) Unlogged → C → C → Type 0
  ClientEnds user (Ok x) c c' = IsLogin user (Ok tt) c c'
  ClientEnds user (Err (Login reach told fault)) c c' = (told.now ≡ user) × IsLogin user (Err fault) c c'
  ClientEnds user (Err (Name told)) c c' = (told.now ≡ user) × (IsName user → ⊥) × (c' ≡ c)
  ClientEnds user (Err why) c c' = c' ≡ c
