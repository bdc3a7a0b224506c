-- Requests of connections that are answered together.
use Rattle.std.specs.Prelude.{ℕ, ◌≡◌, ◌<◌, All, List, [], ◌∷◌, get_or, length, set, Option, Some, None, IsSomeAnd, MatchOption}
use Rattle.std.specs.List.{AllZip}
use Rattle.xa_connection.specs.declared.answering.Answering.{Answering}
use Rattle.xa_connection.specs.declared.asked.Asked.TheVariants.{One}
use Rattle.xa_connection.specs.declared.connection.Connection.{Connection}
use Rattle.xa_connection.specs.declared.front.Front.{Front}
use Rattle.xa_connection.specs.declared.front.Front.TheVariants.{Whole}
use Rattle.xa_connection.specs.Calls.{Asks, Replies}
use Rattle.xa_connection.specs.Fronts.{IsShortFront}
use Rattle.xa_frame.specs.Limits.{IsReply, IsRequest}
use Rattle.xa_frame.specs.declared.question.Question.{Question}
use Rattle.xa_frame.specs.declared.question.Question.TheVariants.{Call}
use Rattle.xa_frame.specs.declared.reply.Reply.{Reply}
use Rattle.xa_frame.specs.declared.request.Request.{Request}
use Rattle.xa_roles.specs.declared.role.Role.{Role}
use Rattle.xa_reactor.specs.declared.ask.Ask.{Ask}
use Rattle.xa_reactor.specs.Believed.Tending.{Seat, Table}

-- its request is left, and is within the limits
abbrev pub HasRequest : Ask → Type 0
HasRequest a = IsSomeAnd a.request IsRequest

-- the connection asks so at its front, and may, by what it has shown
abbrev pub IsAsking : Option Role → Connection → Front → Option Request → Type 0
IsAsking standing c (Whole count) (Some q) = Asks standing c (One count (Call q))
IsAsking standing c front request = ⊥

-- an ask whose request its connection brought in, and nobody has answered
abbrev pub IsOpen : Option Role → Ask → Type 0
IsOpen standing a = HasRequest a × IsAsking standing a.connection a.front a.request

-- so it is, by whatever its connection has shown
pub record IsBrought (a : Ask) : Type 0 where
  pub standing : Option Role
  pub opened : IsOpen standing a

-- an open one of the connection of a session that is served under its key
pub record IsLent (table : Table) (a : Ask) : Type 0 where
  pub seat : Seat
  pub at : table a.key ≡ Some seat
  pub session : seat.session ≡ a.session
  pub opened : IsOpen seat.standing a

-- the request of an ask was answered at the door, and is gone; whose it is stays
pub record Tells {D : Type 0} (called : ℕ → D → Question → Reply → D → Type 0) (d : D) (a b : Ask) (e : D) : Type 0 where
  pub key : b.key ≡ a.key
  pub session : b.session ≡ a.session
  pub connection : b.connection ≡ a.connection
  pub front : b.front ≡ a.front
  pub request : Request
  pub asked : a.request ≡ Some request
  pub gone : b.request ≡ None
  pub told : called a.session d (Call request) b.reply e
  pub limits : IsReply b.reply

-- so was that of the ask at some place of a list; the others stay
pub record TellsOne {D : Type 0} (called : ℕ → D → Question → Reply → D → Type 0) (d : D) (asks told : List Ask) (e : D)
    : Type 0 where
  pub place : ℕ
  pub within : place < length asks
  pub ask : Ask
  pub tells : Tells called d (get_or asks place ask) ask e
  pub others : told ≡ set asks place ask

-- so were some, one after another, with the asks and the door before each, the last one's first
abbrev pub TellsEach : {D : Type 0} → (ℕ → D → Question → Reply → D → Type 0) → D → List Ask → List (List Ask × D)
    → List Ask → D → Type 0
TellsEach called d asks [] told e = (asks ≡ told) × (d ≡ e)
TellsEach called d asks (m ∷ ms) told e = TellsEach called d asks ms m.0 m.1 × TellsOne called m.1 m.0 told e

abbrev pub TellsSome : {D : Type 0} → (ℕ → D → Question → Reply → D → Type 0) → D → List Ask → List Ask → D → Type 0
TellsSome {D} called d asks told e = (before : List (List Ask × D)) × TellsEach called d asks before told e

-- its request is gone
abbrev pub IsAnswered : Ask → Type 0
IsAnswered a = a.request ≡ None

-- Each was answered, once, in whichever order: an answer takes a request, and none is left.
pub record TellsAll {D : Type 0} (called : ℕ → D → Question → Reply → D → Type 0) (d : D) (asks told : List Ask) (e : D)
    : Type 0 where
  pub some : TellsSome called d asks told e
  pub none : All IsAnswered told

-- its reply may be put to its connection
abbrev pub IsTold : Ask → Type 0
IsTold a = IsShortFront a.front × IsReply a.reply

-- so it is, if the ask was answered
abbrev pub MayBeTold : Ask → Type 0
MayBeTold a = IsAnswered a → IsTold a

-- it was answered, or is an open one of the connection of a session that is served under its key
abbrev pub IsLeft : Table → Ask → Type 0
IsLeft table a = MatchOption a.request (Unit {0}) (λ q. IsLent table a)

-- the reply of an ask was put to its connection
pub record Puts (a b : Ask) : Type 0 where
  pub key : b.key ≡ a.key
  pub session : b.session ≡ a.session
  pub request : b.request ≡ a.request
  pub answering : Answering
  pub replies : Replies a.connection a.front a.reply answering b.connection

-- so was that of one that was answered; any other stayed as it was
abbrev pub PutsIf : Ask → Ask → Type 0
PutsIf a b = MatchOption a.request (Puts a b) (λ q. b ≡ a)

abbrev pub PutsAll : List Ask → List Ask → Type 0
PutsAll told put = AllZip PutsIf told put

-- some were answered at the door, and then the reply of each of these was put to its connection
pub record TurnedSome {D : Type 0} (called : ℕ → D → Question → Reply → D → Type 0) (d : D) (asks turned : List Ask) (e : D)
    : Type 0 where
  pub told : List Ask
  pub tells : TellsSome called d asks told e
  pub puts : PutsAll told turned

-- all were answered at the door, and then the reply of each was put to its connection
pub record TurnedAll {D : Type 0} (called : ℕ → D → Question → Reply → D → Type 0) (d : D) (asks turned : List Ask) (e : D)
    : Type 0 where
  pub told : List Ask
  pub tells : TellsAll called d asks told e
  pub puts : PutsAll told turned
