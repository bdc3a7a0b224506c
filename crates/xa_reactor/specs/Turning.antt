-- What a turn of a connection does.
use Rattle.std.specs.Prelude.{ℕ, Option, ◌≡◌, ◌⊎◌, ◌==◌, ◌<◌, false, true, not, List, ◌++◌, drop, length}
use Rattle.xa_connection.specs.declared.connection.Connection.{Connection}
use Rattle.xa_connection.specs.declared.connection.TheConstants.{MOST_INPUT}
use Rattle.xa_connection.specs.Calls.{Feeds, room_of}
use Rattle.xa_connection.specs.Carries.{Carries}
use Rattle.xa_connection.specs.Fronts.{IsInsideFrame}
use Rattle.xa_connection.specs.Believed.Access.{AnswersAllTo}
use Rattle.xa_frame.specs.declared.reply.Reply.{Reply}
use Rattle.xa_frame.specs.declared.question.Question.{Question}
use Rattle.xa_roles.specs.declared.role.Role.{Role}
use Rattle.xa_reactor.specs.declared.peer.Peer.{Peer}
use Rattle.xa_reactor.specs.declared.peer.Step.{Step}
use Rattle.xa_reactor.specs.declared.peer.Step.TheVariants.{Waits, Goes, Ends, Stops, Asks}

-- bytes that came in were taken, or none
abbrev pub HasFed : Connection → Connection → Type 0
HasFed c c' = (c' ≡ c) ⊎ ((bytes : List ℕ) × (count : ℕ) × Feeds c bytes count c')

-- this many bytes were sent of what was to be sent, or none
abbrev pub HasSent : Connection → Connection → Type 0
HasSent c c' = (c' ≡ c) ⊎ ((count : ℕ) × (c' ≡ record c { output = drop count c.output }))

-- some were sent, and then bytes that came in were taken
abbrev pub HasTaken : Connection → Connection → Type 0
HasTaken c c' = (between : Connection) × HasSent c between × HasFed between c'

-- contents were answered, in order, to who has shown this
abbrev pub HasAnswered : {D : Type 0} → Option Role → (D → Question → Reply → D → Type 0) → D → D → Type 0
HasAnswered standing called d e =
    (contents : List (List ℕ)) × (replies : List Reply) × AnswersAllTo standing called d contents replies e

-- Whatever a connection has carried, it has carried more: more bytes came in, of which these contents were answered to who
-- has shown this, in order, and more bytes of the frames of the replies were sent.
abbrev pub CarriesOn : {D : Type 0} → Option Role → (D → Question → Reply → D → Type 0) → Connection → D → Connection → D → Type 0
CarriesOn standing called c d c' e =
    (contents : List (List ℕ)) (replies : List Reply) (fed sent : List ℕ) → Carries contents replies fed sent c
    → (asked : List (List ℕ)) × (answered : List Reply) × (more : List ℕ) × (gone : List ℕ)
    × AnswersAllTo standing called d asked answered e
    × Carries (contents ++ asked) (replies ++ answered) (fed ++ more) (sent ++ gone) c'

-- ---- what comes after a turn

-- more came in than the beginning of a frame, or something is to be sent
abbrev pub HoldsMore : Connection → Type 0
HoldsMore c = (room_of c < MOST_INPUT) × (IsInsideFrame c.input → ⊥)

-- Nothing is left to do of which no event tells: what is to be sent waits until the socket takes more; if nothing is, all
-- that came in was read, and no whole frame is left.
pub record Rests (p : Peer) : Type 0 where
  pub sends : p.writes ≡ not (length p.connection.output == 0)
  pub reads : p.writes ≡ false → p.reads ≡ false
  pub asked : p.writes ≡ false → HoldsMore p.connection → ⊥

-- a connection waits for events only if it rests, and isn't in the queue then; if there is more to do, it is
abbrev pub StepsTo : Step → Peer → Type 0
StepsTo Waits p = Rests p × (p.is_queued ≡ false)
StepsTo Goes p = p.is_queued ≡ true
StepsTo Ends p = Unit {0}
StepsTo Stops p = Unit {0}
-- nor does an event put one into the queue that waits for the server itself
StepsTo Asks p = p.is_queued ≡ true
