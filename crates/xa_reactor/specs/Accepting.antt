-- How many connections are accepted, and for how long a loop waits that accepts.
use Rattle.std.specs.Prelude.{ℕ, ◌≡◌, ◌+◌, ◌-◌, ◌^◌, ◌<◌, ◌≤◌, max, min, zero, suc, Bool, true, false, not, ◌&&◌, ◌||◌, nat_lt, nat_le, ◌==◌, is_some, if◌then◌else◌, Option, Some, None, IsTrue, length}
use Rattle.std.specs.VecDeque.{deque_len}
use Rattle.slab.specs.Slab.{slab_len}
use Rattle.xa_reactor.specs.Timing.{wait_of}
use Rattle.xa_reactor.specs.declared.acceptor.Acceptor.{Acceptor}
use Rattle.xa_reactor.specs.declared.admission.Admitted.{Admitted}
use Rattle.xa_reactor.specs.declared.admission.Admitted.TheVariants.{Yes, Full, Strange}
use Rattle.xa_reactor.specs.declared.listener.Listener.{Listener}
use Rattle.xa_reactor.specs.declared.peers.Peers.{Peers}

-- as many as were asked for, or any number if that is 0
abbrev pub most_of : ℕ → ℕ
most_of zero = 2 ^ 64 - 1
most_of (suc n) = suc n

-- whether there may be a connection to accept, if the loop is to
abbrev pub waits_in : Option Acceptor → Bool
waits_in None = false
waits_in (Some acceptor) = acceptor.waits

-- accepting pauses, which isn't over at that time
abbrev pub MayPause : Option Acceptor → ℕ → Bool → Type 0
MayPause None now pauses = pauses ≡ false
MayPause (Some acceptor) now pauses = IsTrue pauses → now < acceptor.resumes

-- a loop waits so long: by its turns and what there may be to accept, whether accepting pauses or a connection asked what isn't
-- answered yet, and its connections
abbrev pub IsWait : Peers → Option Acceptor → ℕ → Option ℕ → Type 0
IsWait peers acceptor now wait =
    (pauses : Bool) × MayPause acceptor now pauses
    × (wait
    ≡ wait_of (nat_lt 0 (deque_len peers.queue) || (waits_in acceptor && not pauses)) (pauses || nat_lt 0 (length peers.orders.1))
    (nat_lt 0 (slab_len peers.all)))

-- by whether it is admitted: it is handed to the loop before this one; or it is counted, and how many are open then at least
abbrev pub after_one : Admitted → ℕ → ℕ → Acceptor → Acceptor
after_one Yes most turn a = record a { turn = turn }
after_one Full most turn a = record a { refused = min (a.refused + 1) (2 ^ 64 - 1); full = max a.full most }
after_one Strange most turn a = record a { strangers = min (a.strangers + 1) (2 ^ 64 - 1) }

-- a listener is kept, if there is one, and no more are accepted than may be
abbrev pub KeepsFew : Option Acceptor → Option Acceptor → Type 0
KeepsFew None after = after ≡ None
KeepsFew (Some a) after = (b : Acceptor) × (after ≡ Some b) × (a.accepted ≤ a.most → b.accepted ≤ a.most)

-- ---- what is told

-- none was accepted, and some may wait
abbrev pub new_acceptor : Listener → ℕ → Acceptor
new_acceptor listener connections =
    record {
      listener = listener;
      accepted = 0;
      most = most_of connections;
      turn = 0;
      waits = true;
      resumes = 0;
      refused = 0;
      tells = 0;
      full = 0;
      strangers = 0;
      failed = None;
      tells_failed = 0;
    }

-- why an accept failed is told if that wasn't within a minute
abbrev pub after_failure : ℕ → Acceptor → Acceptor
after_failure now a = if nat_le a.tells_failed now then record a { tells_failed = min (now + 60000) (2 ^ 64 - 1) } else a

-- if one failed that wasn't told, it is told or left out
abbrev pub after_failures : ℕ → Acceptor → Acceptor
after_failures now a = if is_some a.failed then after_failure now (record a { failed = None }) else a

-- how many were refused, if any were and that wasn't told within a second
abbrev pub after_refusals : ℕ → Acceptor → Acceptor
after_refusals now a =
    if ((a.refused == 0) && (a.strangers == 0)) || nat_lt now a.tells then a
    else record a { refused = 0; full = 0; strangers = 0; tells = min (now + 1000) (2 ^ 64 - 1) }

abbrev pub after_telling : ℕ → Acceptor → Acceptor
after_telling now a = after_refusals now (after_failures now a)
