-- Who is admitted, by how many connections are open and where one comes from.
use Rattle.std.specs.Prelude.{ℕ, ◌≡◌, ◌⊎◌, ◌-◌, Bool, true, false, not, ◌&&◌, nat_le, nat_lt, if◌then◌else◌}
use Rattle.std.specs.Net.Addr.{IsCanonicalOf, IsLoopbackV4, IsLoopbackV6, MatchIp}
use Rattle.std.specs.declared.net.ip_addr.IpAddr.{IpAddr}
use Rattle.xa_reactor.specs.declared.admission.Admitted.{Admitted}
use Rattle.xa_reactor.specs.declared.admission.Admitted.TheVariants.{Yes, Full, Strange}
use Rattle.xa_reactor.specs.declared.admission.Origin.{Origin}
use Rattle.xa_reactor.specs.declared.admission.Origin.TheVariants.{Path, Loopback, Elsewhere}
use Rattle.xa_reactor.specs.declared.admission.TheConstants.{MOST_OPEN, KEPT_OPEN, MOST_STRANGERS}
use Rattle.xa_reactor.specs.declared.listener.Listener.{Listener}
use Rattle.xa_reactor.specs.declared.listener.Listener.TheVariants as listener
use Rattle.xa_reactor.specs.declared.socket.Socket.{Socket}
use Rattle.xa_reactor.specs.declared.socket.Socket.TheVariants as socket

-- the address, or the one of IPv4 that it maps
abbrev pub IsCanonical : IpAddr → IpAddr → Type 0
IsCanonical address canonical = MatchIp address (λ _. canonical ≡ address) (λ a. IsCanonicalOf a canonical)

abbrev pub IsLoopback : IpAddr → Type 0
IsLoopback address = MatchIp address IsLoopbackV4 IsLoopbackV6

-- a connection of a port, by its peer's address
abbrev pub ComesFrom : IpAddr → Origin → Type 0
ComesFrom address Path = ⊥
ComesFrom address Loopback = IsLoopback address
ComesFrom address Elsewhere = IsLoopback address → ⊥

-- where a socket's connection may come from
abbrev pub MayComeFrom : Socket → Origin → Type 0
MayComeFrom (socket.Tcp stream) origin = (origin ≡ Loopback) ⊎ (origin ≡ Elsewhere)
MayComeFrom (socket.Unix stream) origin = origin ≡ Path

-- whether a server can be reached by a Unix socket
abbrev pub has_path : Listener → Bool
has_path (listener.Tcp tcp) = false
has_path (listener.Unix unix) = true
has_path (listener.Both tcp unix) = true

-- Whether the last places are for who comes from there: by the Unix socket, or if there is none, from a loopback address.
abbrev pub is_operators : Bool → Origin → Bool
is_operators has_path Path = true
is_operators has_path Loopback = not has_path
is_operators has_path Elsewhere = false

abbrev pub most_open : Bool → Origin → ℕ
most_open has_path origin = if is_operators has_path origin then MOST_OPEN else MOST_OPEN - KEPT_OPEN

-- one more is admitted while this many are open
abbrev pub may_admit : Bool → Origin → ℕ → Bool
may_admit has_path origin count = nat_lt count (most_open has_path origin)

-- so it is, unless it has to log in, and as many as may be haven't yet
abbrev pub admission_of : Bool → Bool → Origin → ℕ → ℕ → Admitted
admission_of has_path has_users origin count strangers =
    if may_admit has_path origin count then (if has_users && nat_le MOST_STRANGERS strangers then Strange else Yes) else Full

-- ---- worked rows

-- With 1,018 open anybody is admitted, and with 1,023 nobody. In between, at a server with a Unix socket those who come by
-- it alone, and at one without those from a loopback address alone.
pub record AdmissionRows : Type 0 where
  pub last : (may_admit true Loopback 1018 ≡ true) × (may_admit true Loopback 1019 ≡ false)
  pub by_path : (may_admit true Path 1019 ≡ true) × (may_admit true Path 1022 ≡ true) × (may_admit true Path 1023 ≡ false)
  pub near : (may_admit false Loopback 1022 ≡ true) × (may_admit false Loopback 1023 ≡ false)
  pub far : (may_admit false Elsewhere 1018 ≡ true) × (may_admit false Elsewhere 1019 ≡ false)
  -- the 65th that hasn't logged in isn't taken up, if it has to
  pub strange : (admission_of true true Elsewhere 63 63 ≡ Yes) × (admission_of true true Path 64 64 ≡ Strange)
      × (admission_of true true Path 1023 64 ≡ Full) × (admission_of true false Loopback 900 900 ≡ Yes)
