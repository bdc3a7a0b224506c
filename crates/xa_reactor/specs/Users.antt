-- Who may log in at the loops, and what a part of a login does to a connection's peer.
use Rattle.std.specs.Prelude.{◌≡◌, ◌⊎◌, ℕ, List, Option, Some, None, IsSome, take, drop}
use Rattle.std.specs.Option.{option_map}
use Rattle.xa_connection.specs.declared.connection.Connection.{Connection}
use Rattle.xa_connection.specs.Calls.{AsksServer, IsReady}
use Rattle.xa_control.specs.declared.answer.Answer.{Answer}
use Rattle.xa_control.specs.declared.answer.Answer.TheVariants.{Challenge, Refused, Welcome}
use Rattle.xa_control.specs.Answers.{IsAnswer}
use Rattle.xa_control.specs.declared.control.Control.{Control}
use Rattle.xa_control.specs.declared.control.Control.TheVariants.{First, Final}
use Rattle.xa_roles.specs.declared.role.Role.{Role}
use Rattle.xa_scram.specs.Believed.Exchanges.{Begun, acceptance_of, challenge_of}
use Rattle.xa_scram.specs.Believed.Messages.{SpellsOpening}
use Rattle.xa_scram.specs.declared.opening.Opening.{Opening}
use Rattle.xa_users.specs.Believed.Logins.{Shows, begun}
use Rattle.xa_users.specs.declared.users.Users.{Users}
use Rattle.xa_reactor.specs.Believed.Tending.{LogsIn, Table}
use Rattle.xa_reactor.specs.declared.common.Common.{Common}
use Rattle.xa_reactor.specs.declared.logging_in.Passed.{Passed}
use Rattle.xa_reactor.specs.declared.logging_in.Passed.TheVariants.{Nothing, Answers, Fails}
use Rattle.xa_reactor.specs.declared.peer.Peer.{Peer}

abbrev pub users_of : Common → Option Users
users_of common = option_map (λ u. u.now) common.users

-- the frame at the connection's front asks this of the server itself
abbrev pub AsksThis : Peer → Control → Type 0
AsksThis p control = IsReady p.connection × (count : ℕ) × AsksServer p.connection.input count control

-- It has begun a login: what it brought in is the first message of a client, and it is asked to prove, with bytes of the
-- server's own.
pub record HasBegun (users : Users) (old : Peer) (text : List ℕ) (new : Peer) : Type 0 where
  pub message : List ℕ
  pub asks : AsksThis old (First message)
  pub opening : Opening
  pub spells : SpellsOpening message opening
  pub own : List ℕ
  pub secret : List ℕ
  pub challenge : text ≡ challenge_of (begun users opening own secret)
  pub changed : new ≡ record old { login = Some (begun users opening own secret) }

-- It is let in: what it brought in proves, for the login that it had begun, that it is one of the users, whose role it has now.
pub record HasEntered (users : Users) (old : Peer) (text : List ℕ) (new : Peer) : Type 0 where
  pub message : List ℕ
  pub asks : AsksThis old (Final message)
  pub login : Begun
  pub began : old.login ≡ Some login
  pub role : Role
  pub shows : Shows users login message role
  pub accepted : text ≡ acceptance_of login
  pub changed : new ≡ record old { standing = Some role; login = None; place = None }

-- it has logged in already, its first message is none, or its last one proves nothing for the login that it had begun
abbrev pub IsRefused : Users → Peer → Type 0
IsRefused users p =
    IsSome p.standing
    ⊎ (((message : List ℕ) × AsksThis p (First message) × ((opening : Opening) → SpellsOpening message opening → ⊥))
    ⊎ ((message : List ℕ) × AsksThis p (Final message)
    × ((login : Begun) (role : Role) → p.login ≡ Some login → Shows users login message role → ⊥)))

-- what a part of a login came to: what it is answered, and the peer after it
abbrev pub Passes : Users → Peer → Passed → Peer → Type 0
Passes users old Nothing new = new ≡ old
Passes users old (Answers (Challenge text)) new = HasBegun users old text new
Passes users old (Answers (Welcome text)) new = HasEntered users old text new
-- no random bytes could be had
Passes users old (Answers (Refused code detail)) new = new ≡ record old { login = None }
Passes users old (Answers _) new = ⊥
Passes users old Fails new = IsRefused users old × (new ≡ record old { login = None; tries = new.tries })

-- what is answered is an answer
abbrev pub IsPassed : Passed → Type 0
IsPassed (Answers answer) = IsAnswer answer
IsPassed _ = Unit {0}

-- the table after a part of a login, or nothing
abbrev pub LogsAt : Option Users → Table → Table → Type 0
LogsAt users old new = (old ≡ new) ⊎ LogsIn users old new

-- without users nobody logs in
abbrev pub PassesIf : Option Users → Peer → Passed → Peer → Type 0
PassesIf (Some users) old passed new = Passes users old passed new
PassesIf None old passed new = new ≡ old
