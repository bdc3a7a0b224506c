-- Since when a connection is quiet.
use Rattle.std.specs.Prelude.{ℕ, ◌≡◌, ◌⊎◌, ◌↔◌, ◌<◌, ◌≤◌, ◌-◌, Bool, IsTrue, List, [], drop, length, MatchBool, MatchOption, Option, None, Some}
use Rattle.slab.specs.Slab.{Slab, Updates, get}
use Rattle.xa_connection.specs.declared.connection.Connection.{Connection}
use Rattle.xa_connection.specs.Calls.{Feeds}
use Rattle.xa_connection.specs.Fronts.{IsInsideFrame}
use Rattle.xa_reactor.specs.declared.common.Settings.{Settings}
use Rattle.xa_reactor.specs.declared.peer.Peer.{Peer}
use Rattle.xa_reactor.specs.Timing.{IsToEnd, Ties}

-- no byte came or went, and it is quiet since when it was
abbrev pub IsStill : Connection → ℕ → Connection → ℕ → Type 0
IsStill c since c' since' = (c' ≡ c) × (since' ≡ since)

-- some bytes were sent of what was to be sent, at this time, and it is quiet since then; or none
abbrev pub SentAt : ℕ → Connection → ℕ → Connection → ℕ → Type 0
SentAt now c since c' since' =
    IsStill c since c' since'
    ⊎ ((count : ℕ) × (0 < count) × (count ≤ length c.output) × (c' ≡ record c { output = drop count c.output })
    × (since' ≡ now))

-- bytes that came in were taken, at this time, and it is quiet since then; or none
abbrev pub FedAt : ℕ → Connection → ℕ → Connection → ℕ → Type 0
FedAt now c since c' since' =
    IsStill c since c' since'
    ⊎ ((bytes : List ℕ) × (count : ℕ) × (0 < length bytes) × Feeds c bytes count c' × (since' ≡ now))

-- some were sent, and then bytes that came in were taken
abbrev pub TakenAt : ℕ → Connection → ℕ → Connection → ℕ → Type 0
TakenAt now c since c' since' =
    (between : Connection) × (meanwhile : ℕ) × SentAt now c since between meanwhile × FedAt now between meanwhile c' since'

-- it owes the rest of a frame, and is owed nothing
abbrev pub OwesFrame : Connection → Type 0
OwesFrame c = IsInsideFrame c.input × (c.output ≡ [])

-- so it does, or a login, and doesn't wait for the answer to one that failed
abbrev pub Owes : Peer → Type 0
Owes p = OwesFrame p.connection ⊎ ((p.standing ≡ None) × (p.pause ≡ None))

-- The connection was looked at at this time: it has ended if it was to end, by how long it has been quiet, and is left
-- if it wasn't.
abbrev pub WasLooked : (ℕ → Ties) → Settings → ℕ → Peer → Bool → Type 0
WasLooked ties settings now p ends =
    (is_inside : Bool) × (IsTrue is_inside ↔ Owes p)
    × IsToEnd (ties p.session) is_inside (now - p.since) settings ends

-- so was the one under a key, if there is one, and no other one
abbrev pub Looks : (ℕ → Ties) → Settings → ℕ → ℕ → Slab Peer → Slab Peer → Type 0
Looks ties settings now key old new =
    MatchOption (get old key) (new ≡ old)
    (λ p. (ends : Bool) × WasLooked ties settings now p ends × MatchBool ends (Updates old new key None) (new ≡ old))

-- by what is answered at some door, before and after
abbrev pub IsLooked : {D : Type 0} → (D → ℕ → Ties) → Settings → ℕ → Option Peer → Option Peer → Type 0
IsLooked ties settings now None after = after ≡ None
IsLooked {D} ties settings now (Some p) after =
    (d : D) × (ends : Bool) × WasLooked (ties d) settings now p ends × MatchBool ends (after ≡ None) (after ≡ Some p)

-- so was each connection
abbrev pub LooksAll : {D : Type 0} → (D → ℕ → Ties) → Settings → ℕ → Slab Peer → Slab Peer → Type 0
LooksAll ties settings now old new = (key : ℕ) → IsLooked ties settings now (get old key) (get new key)
