-- What a round has lent.
use Rattle.std.specs.Prelude.{ℕ, ◌≡◌, ◌+◌, ◌≤◌, Bool, ◌&&◌, ◌||◌, nat_le, nat_lt, All, List, [], ◌∷◌, ◌++◌, Vec, length}
use Rattle.std.specs.Vec.{vec_capacity, vec_len}
use Rattle.std.specs.declared.alloc.Global.{Global}
use Rattle.std.specs.VecDeque.{deque_len}
use Rattle.xa_reactor.specs.Asking.{IsLent}
use Rattle.xa_reactor.specs.Believed.Tending.{Table, sessions_of}
use Rattle.xa_reactor.specs.Peers.{GoesOn, turns_of}
use Rattle.xa_reactor.specs.declared.peer.Step.{Step}
use Rattle.xa_reactor.specs.declared.peers.Peers.{Peers}
use Rattle.xa_reactor.specs.declared.together.Together.{Together}

-- it has room for the items of the other after its own
abbrev pub HasRoomFor : {A B : Type 0} → Vec A Global → Vec B Global → Type 0
HasRoomFor v more = vec_len v + vec_len more ≤ vec_capacity v

-- the requests that were brought in are of connections that are lent, and there is room for what comes after their turns
pub record HasLent (table : Table) (t : Together) : Type 0 where
  pub quick : All (IsLent table) t.quick.items
  pub waiting : All (IsLent table) t.waiting.items
  pub left : t.left.items ≡ []
  pub room : vec_len t.over + vec_len t.quick + vec_len t.waiting ≤ vec_capacity t.over

-- how many turns of a round aren't after it: of requests that were brought in, and of those of which something comes after
abbrev pub turns_in : Together → ℕ
turns_in t = vec_len t.over + vec_len t.quick + vec_len t.waiting

-- no turn is lost: those that peers have next, and those of the round, are as many as before
abbrev pub KeepsTurns : Together → Peers → Together → Peers → Type 0
KeepsTurns t peers t' peers' = turns_in t' + deque_len peers'.queue ≡ turns_in t + deque_len peers.queue

-- What comes after turns, by the keys of their connections, came one after another.
abbrev pub GoesOnAll : Peers → List (ℕ × Step) → Peers → Type 0
GoesOnAll old [] new = new ≡ old
GoesOnAll old (turn ∷ rest) new = (between : Peers) × GoesOn old turn.0 turn.1 between × GoesOnAll between rest new

-- What comes after some turns was kept, after that of others; or it was a turn more, which those have after the others.
pub record HasKept (old : Peers) (over : List (ℕ × Step)) (new : Peers) (over' : List (ℕ × Step)) : Type 0 where
  pub keys : List ℕ
  pub turns : turns_of new ≡ turns_of old ++ keys
  pub many : deque_len new.queue ≡ deque_len old.queue + length keys
  pub later : List (ℕ × Step)
  pub are : over' ≡ over ++ later

-- What comes after each turn of a round came, once: a turn more at once, or after all turns, that of those that were over
-- before first.
pub record HaveGone (t : Together) (old new : Peers) : Type 0 where
  pub between : Peers
  pub over : List (ℕ × Step)
  pub kept : HasKept old t.over.items between over
  pub count : length kept.keys + length kept.later ≡ vec_len t.quick + vec_len t.waiting
  pub same : sessions_of between.all ≡ sessions_of old.all
  pub goes : GoesOnAll between over new

-- nothing is lent any more, and each turn is over
abbrev pub IsOver : Together → Type 0
IsOver t = (t.quick.items ≡ []) × (t.waiting.items ≡ []) × (t.over.items ≡ [])

-- some requests wait, by their numbers, and the round has had fewer than 100,000 turns that are over
abbrev pub may_gather : ℕ → ℕ → ℕ → Bool
may_gather quick waiting over = (nat_lt 0 quick || nat_lt 0 waiting) && nat_lt over 100000

-- some wait, of three or more connections not all, and the round has had fewer than 64
abbrev pub may_grow : ℕ → ℕ → ℕ → Bool
may_grow waiting over connections =
    nat_lt 0 waiting && (nat_le 3 connections && (nat_lt waiting connections && nat_lt over 64))
