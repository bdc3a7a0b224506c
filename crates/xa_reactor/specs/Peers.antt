-- The turns of a loop's connections: none is lost, and only a connection that is to end does.
use Rattle.std.specs.Prelude.{ℕ, ◌≡◌, ◌⊎◌, ◌+◌, ◌≤◌, ◌==◌, ◌||◌, Bool, true, false, not, List, [], ◌∷◌, ◌++◌, MatchBool, MatchOption, Option, None, Some, if◌then◌else◌}
use Rattle.std.specs.Option.{option_map}
use Rattle.std.specs.VecDeque.{deque_capacity, deque_items, deque_len}
use Rattle.mio.specs.Event.{event_token, is_error, is_read_closed, is_readable}
use Rattle.mio.specs.declared.event.event.Event.{Event}
use Rattle.mio.specs.declared.token.Token.{Token}
use Rattle.slab.specs.Slab.{Slab, Updates, get, with_value}
use Rattle.xa_connection.specs.declared.connection.Connection.{Connection}
use Rattle.xa_reactor.specs.Orders.{new_wish, with_wish}
use Rattle.xa_reactor.specs.Turning.{HasSent, StepsTo}
use Rattle.xa_reactor.specs.declared.peer.Peer.{Peer}
use Rattle.xa_reactor.specs.declared.peer.Step.{Step}
use Rattle.xa_reactor.specs.declared.peer.Step.TheVariants.{Waits, Goes, Ends, Stops, Asks}
use Rattle.xa_reactor.specs.declared.peers.Peers.{Peers}
use Rattle.xa_reactor.specs.declared.socket.Socket.{Socket}

-- this many turns more
abbrev pub HasRoom : Peers → ℕ → Type 0
HasRoom peers turns = deque_len peers.queue + turns ≤ deque_capacity peers.queue

-- the keys of those that have a turn next, in their order
abbrev pub turns_of : Peers → List ℕ
turns_of peers = deque_items peers.queue

-- the connection under a key, if there is one, has ended, and no other one; whose turn comes next stays
pub record HasEnded (old : Peers) (key : ℕ) (new : Peers) : Type 0 where
  pub ended : Updates old.all new.all key None
  pub turns : turns_of new ≡ turns_of old
  pub orders : new.orders ≡ old.orders

-- the connection under a key has a turn after the others, and nothing else is changed
pub record IsLast (old : Peers) (key : ℕ) (new : Peers) : Type 0 where
  pub all : new.all ≡ old.all
  pub turns : turns_of new ≡ turns_of old ++ key ∷ []
  pub orders : new.orders ≡ old.orders

-- it has one; or, if there is no memory for that, it has ended
abbrev pub HasTurn : Peers → ℕ → Peers → Type 0
HasTurn old key new = IsLast old key new ⊎ HasEnded old key new

-- What comes after a turn of the connection under a key: nothing, a turn more, its end, that the server is to end, or what it
-- asks of that besides, unless there is no memory for it.
abbrev pub GoesOn : Peers → ℕ → Step → Peers → Type 0
GoesOn old key Waits new = new ≡ old
GoesOn old key Goes new = HasTurn old key new
GoesOn old key Ends new = HasEnded old key new
GoesOn old key Stops new = new ≡ record old { orders = (Some key, old.orders.1) }
GoesOn old key Asks new = (new ≡ record old { orders = with_wish old.orders (new_wish key) }) ⊎ HasEnded old key new

-- ---- what events tell

-- the peer sends no more
abbrev pub is_end : Event → Bool
is_end event = is_read_closed event || is_error event

-- a connection of which an event told, by what that says
abbrev pub noticed : Event → Peer → Peer
noticed event p =
    record p {
      reads = if is_readable event then true else (if is_end event then true else p.reads);
      is_ending = if is_end event then true else p.is_ending;
      is_queued = true;
    }

abbrev pub key_of : Event → ℕ
key_of event = (event_token event).0

abbrev pub with_noticed : Peers → Event → Peer → Peers
with_noticed old event p = record old { all = with_value old.all (key_of event) (noticed event p) }

-- An event told of the connection under its key, if there is one: if it had no turn next, it has one.
abbrev pub IsNoticed : Peers → Event → Peers → Type 0
IsNoticed old event new =
    MatchOption (get old.all (key_of event)) (new ≡ old)
    (λ p. MatchBool p.is_queued (new ≡ with_noticed old event p) (HasTurn (with_noticed old event p) (key_of event) new))

-- so did some, one after another
abbrev pub NoticesAll : Peers → List Event → Peers → Type 0
NoticesAll old [] new = new ≡ old
NoticesAll old (event ∷ rest) new = (between : Peers) × IsNoticed old event between × NoticesAll between rest new

-- whether one of some events has a token, as the listener's
abbrev pub tells_of : Token → List Event → Bool
tells_of token [] = false
tells_of token (event ∷ rest) = (key_of event == token.0) || tells_of token rest

-- of the connections themselves, and whether this one is put into the queue then
abbrev pub IsNews : Slab Peer → Event → Bool → Slab Peer → Type 0
IsNews all event puts new =
    MatchOption (get all (key_of event)) ((puts ≡ false) × (new ≡ all))
    (λ p. (puts ≡ not p.is_queued) × (new ≡ with_value all (key_of event) (noticed event p)))

-- ---- turns

-- The turn of the connection under a key was closed: it is given back, with what it has sent by then; if there is none, nothing
-- was done.
abbrev pub IsClosed : Slab Peer → ℕ → Connection → Step → Slab Peer → Type 0
IsClosed all key connection step new =
    MatchOption (get all key) ((step ≡ Waits) × (new ≡ all))
    (λ p. (q : Peer) × HasSent connection q.connection × StepsTo step q × (new ≡ with_value all key q))

-- the same of a whole turn
abbrev pub HadTurn : Slab Peer → ℕ → Step → Slab Peer → Type 0
HadTurn all key step new =
    MatchOption (get all key) ((step ≡ Waits) × (new ≡ all)) (λ p. (q : Peer) × StepsTo step q × (new ≡ with_value all key q))

-- the connection under the first key in the queue had its turn, and what comes after that came
pub record IsTurned (old : Peers) (key : ℕ) (rest : List ℕ) (new : Peers) : Type 0 where
  pub between : Peers
  pub step : Step
  pub turned : HadTurn old.all key step between.all
  pub turns : turns_of between ≡ rest
  pub orders : between.orders ≡ old.orders
  pub goes : GoesOn between key step new

-- the connection that asked the server to end, if one did, has ended, and its socket is kept
abbrev pub HasParted : Peers → Option Socket → Peers → Type 0
HasParted old socket new =
    MatchOption old.orders.0 ((socket ≡ None) × (new ≡ old))
    (λ key. HasEnded old key new × (socket ≡ option_map (λ p. p.socket) (get old.all key)))
