-- Which connections an order ends.
use Rattle.std.specs.Prelude.{ℕ, ◌≡◌, Bool, ◌&&◌, ◌==◌, nat_lt, Option, None, Some, IsTrue, if◌then◌else◌}
use Rattle.slab.specs.Slab.{Slab, get}
use Rattle.xa_reactor.specs.declared.cuts.Cut.{Cut}
use Rattle.xa_reactor.specs.declared.peer.Peer.{Peer}

-- that of this session, if it was counted before
abbrev pub is_meant : Cut → Peer → Bool
is_meant cut p = (p.session == cut.session) && nat_lt p.serial cut.counted

-- what an order leaves under a key
abbrev pub left_by : Cut → Option Peer → Option Peer
left_by cut None = None
left_by cut (Some p) = if is_meant cut p then None else Some p

-- each connection that it means has ended, and the others are as they were
abbrev pub HasCut : Cut → Slab Peer → Slab Peer → Type 0
HasCut cut old new = (key : ℕ) → get new key ≡ left_by cut (get old key)

-- it means the connection under a key
abbrev pub Means : Cut → Option Peer → Type 0
Means cut None = ⊥
Means cut (Some p) = IsTrue (is_meant cut p)
