-- What contracts see of the sessions, by look-up.
use Rattle.std.specs.Prelude.{ℕ, Bool, false, List, [], Option, Some, None, option_map, option_and_then, not, ◌&&◌, nat_lt, length}
use Rattle.std.specs.BTreeMap.{get}
use Rattle.std.specs.BTreeSet.{contains}
use Rattle.std.specs.Ordering.{nat_cmp}
use Rattle.xa_xid.specs.Triple.{Triple, xid_cmp}
use Rattle.xa_model.specs.State.{is_with}
use Rattle.xa_assoc.specs.declared.seat.Seat.{Seat}
use Rattle.xa_assoc.specs.declared.sessions.Sessions.{Sessions}

-- how many sessions are connected
abbrev pub connected_in : Sessions → ℕ
connected_in m = length m.seats.entries

-- the seat of a connected session
abbrev pub seat_at : Sessions → ℕ → Option Seat
seat_at m n = get nat_cmp m.seats n

-- whether the session is opened, if it is connected
abbrev pub opened_at : Sessions → ℕ → Option Bool
opened_at m n = option_map (λ x. x.opened) (seat_at m n)

-- the XID of the branch that the session is at work for
abbrev pub active_at : Sessions → ℕ → Option Triple
active_at m n = option_and_then (λ x. x.active) (seat_at m n)

abbrev pub holds : Triple → Option Seat → Bool
holds xid None = false
holds xid (Some x) = contains xid_cmp x.own xid

-- whether the session has an association of its own with the XID
abbrev pub owns_at : Sessions → ℕ → Triple → Bool
owns_at m n xid = holds xid (seat_at m n)

-- the XIDs of all associations of its own
abbrev pub keys_in : Option Seat → List Triple
keys_in None = []
keys_in (Some x) = x.own.keys

abbrev pub own_keys_at : Sessions → ℕ → List Triple
own_keys_at m n = keys_in (seat_at m n)

-- one that it isn't at work in
abbrev pub suspends_at : Sessions → ℕ → Triple → Bool
suspends_at m n xid = owns_at m n xid && not (is_with xid (active_at m n))

-- the cursor of the session's recovery scan, if one is open
abbrev pub scan_at : Sessions → ℕ → Option (Option Triple)
scan_at m n = option_and_then (λ x. x.scan) (seat_at m n)

-- the time limit, in seconds, of the branches that the session begins; 0 for none, and if it isn't connected
abbrev pub limit_in : Option Seat → ℕ
limit_in None = 0
limit_in (Some x) = x.limit

abbrev pub limit_at : Sessions → ℕ → ℕ
limit_at m n = limit_in (seat_at m n)

-- whether it has any association of its own
abbrev pub holds_any : Option Seat → Bool
holds_any None = false
holds_any (Some x) = nat_lt 0 (length x.own.keys)

abbrev pub holds_any_at : Sessions → ℕ → Bool
holds_any_at m n = holds_any (seat_at m n)
