-- What a turn does that is opened.
use Rattle.std.specs.Prelude.{ℕ, ◌≡◌, Option, Result, true, MatchOption}
use Rattle.slab.specs.Slab.{Slab, get, with_value}
use Rattle.xa_assoc.specs.declared.fault.ConnectFault.{ConnectFault}
use Rattle.xa_frame.specs.declared.question.Question.{Question}
use Rattle.xa_frame.specs.declared.reply.Reply.{Reply}
use Rattle.xa_roles.specs.declared.role.Role.{Role}
use Rattle.xa_users.specs.declared.users.Users.{Users}
use Rattle.xa_reactor.specs.Asking.{IsLent, IsOpen}
use Rattle.xa_reactor.specs.Believed.Tending.{Table, Tends}
use Rattle.xa_reactor.specs.Turning.{CarriesOn, HasAnswered, HasTaken, StepsTo}
use Rattle.xa_reactor.specs.declared.ask.Ask.{Ask}
use Rattle.xa_reactor.specs.declared.peer.Opened.{Opened}
use Rattle.xa_reactor.specs.declared.peer.Opened.TheVariants.{Asks, Over}
use Rattle.xa_reactor.specs.declared.peer.Peer.{Peer}
use Rattle.xa_reactor.specs.declared.peer.Step.TheVariants.{Waits}

-- the ask is of the peer's session under its key, with the connection, which has taken bytes
pub record Lends (old : Peer) (under : ℕ) (ask : Ask) : Type 0 where
  pub key : ask.key ≡ under
  pub session : ask.session ≡ old.session
  pub asks : IsOpen old.standing ask
  pub taken : HasTaken old.connection ask.connection

-- the connection is lent, and the door was asked nothing; or it was a whole turn
abbrev pub Opens : {D : Type 0} → (D → Question → Reply → D → Type 0) → Peer → D → ℕ → Opened → Peer → D → Type 0
Opens called old d key (Asks ask) new e = Lends old key ask × (e ≡ d)
Opens called old d key (Over step) new e =
    HasAnswered old.standing called d e × CarriesOn old.standing called old.connection d new.connection e

-- no event opens another turn while a connection is lent; else the turn was a whole one
abbrev pub OpensTo : Opened → Peer → Type 0
OpensTo (Asks ask) new = new.is_queued ≡ true
OpensTo (Over step) new = StepsTo step new

-- so it is under a key, if there is one, and no other connection is changed
abbrev pub IsOpened : Slab Peer → ℕ → Opened → Slab Peer → Type 0
IsOpened all key opened new =
    MatchOption (get all key) ((opened ≡ Over Waits) × (new ≡ all)) (λ p. (q : Peer) × OpensTo opened q × (new ≡ with_value all key q))

-- by the table of the sessions: a connection is lent by the session under its key, or the session was answered
module _ {D : Type 0} (connected : D → Result ℕ ConnectFault → D → Type 0)
    (called : ℕ → D → Question → Reply → D → Type 0) (left : ℕ → D → D → Type 0) where
  abbrev pub OpensAt : Table → D → Opened → D → Type 0
  OpensAt table d (Asks ask) e = IsLent table ask × (e ≡ d)
  OpensAt table d (Over step) e = (users : Option Users) → Tends users connected called left table d table e
