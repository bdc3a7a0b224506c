-- Which records the log holds.
use Rattle.std.specs.Prelude.{◌≡◌, ℕ, ◌^◌, ◌<◌, ◌≤◌, List, [], ◌∷◌, length, IfSome}
use Rattle.std.specs.declared.cmp.Ordering.TheVariants.{Less}
use Rattle.std.specs.Cmp.Lexicographic.{slice_cmp}
use Rattle.std.specs.List.{AllByRecursion}
use Rattle.std.specs.Ordering.{nat_cmp}
use Rattle.xa_limits.specs.declared.TheConstants.{MOST_KEY, MOST_VALUE, MOST_WRITES}
use Rattle.xa_codes.specs.declared.write.Write.{Write}
use Rattle.xa_xid.specs.Triple.{Triple, IsWithinLimits}
use Rattle.xa_record.specs.declared.record.Record.{Record}
use Rattle.xa_record.specs.declared.record.Record.TheVariants.{Opened, Prepared, Committed, Completed, Decided, Forgotten, Base, Held, Known}

-- a key of 1 to MOST_KEY bytes, and a value of at most MOST_VALUE
pub record IsWrite (w : Write) : Type 0 where
  pub some : 1 ≤ length w.key
  pub short : length w.key ≤ MOST_KEY
  pub value : IfSome w.value (λ v. length v ≤ MOST_VALUE)

-- each key is above the one before it, and the first above this one
abbrev pub AscendsFrom : List ℕ → List Write → Type 0
AscendsFrom key [] = Unit {0}
AscendsFrom key (w ∷ ws) = (slice_cmp nat_cmp key w.key ≡ Less) × AscendsFrom w.key ws

-- 1 to MOST_WRITES writes, strictly ascending by key
pub record AreWrites (ws : List Write) : Type 0 where
  pub some : 1 ≤ length ws
  pub few : length ws ≤ MOST_WRITES
  pub each : AllByRecursion IsWrite ws
  pub ascending : AscendsFrom [] ws

-- a timestamp, and what was written at it
pub record IsStamped (timestamp : ℕ) (ws : List Write) : Type 0 where
  pub stamp : timestamp < 2 ^ 64
  pub writes : AreWrites ws

pub record IsBranch (xid : Triple) (timestamp : ℕ) (ws : List Write) : Type 0 where
  pub name : IsWithinLimits xid
  pub stamped : IsStamped timestamp ws

abbrev pub IsRecord : Record → Type 0
IsRecord (Opened boot) = (1 ≤ boot) × (boot < 2 ^ 32)
IsRecord (Prepared xid timestamp ws) = IsBranch xid timestamp ws
IsRecord (Committed xid timestamp ws) = IsBranch xid timestamp ws
IsRecord (Completed xid direction) = IsWithinLimits xid
IsRecord (Decided xid direction) = IsWithinLimits xid
IsRecord (Forgotten xid) = IsWithinLimits xid
IsRecord (Base timestamp ws) = IsStamped timestamp ws
IsRecord (Held xid timestamp ws) = IsBranch xid timestamp ws
IsRecord (Known xid direction) = IsWithinLimits xid
