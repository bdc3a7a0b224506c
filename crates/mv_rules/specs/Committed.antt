-- What has committed of all keys, by timestamp: what a checkpoint writes of it, and that this is what lasts.
use Rattle.std.specs.Prelude.{◌≡◌, ℕ, ◌≤◌, List, [], ◌∷◌, ◌++◌, Option, Some, None, map, Vec}
use Rattle.std.specs.BTreeMap.{BTreeMap, get_by, insert_entry, IsOrdered}
use Rattle.std.specs.List.{AllByRecursion as Each}
use Rattle.std.specs.Option.{option_map_or}
use Rattle.std.specs.Ordering.{nat_cmp}
use Rattle.std.specs.declared.alloc.Global.{Global}
use Rattle.xa_codes.specs.declared.write.Write.{Write}
use Rattle.slab.specs.Slab.{Slab}
use Rattle.mv_chain.specs.declared.pool.Pool.{Pool}
use Rattle.mv_chain.specs.declared.chain.Chain.{Chain}
use Rattle.mv_chain.specs.Accesses.{seen_without}
use Rattle.mv_chain.specs.Last.{everybody, stamped, AreUpto, IsLastWritten}
use Rattle.xa_model.specs.State.{State}
use Rattle.xa_model.specs.Invariants.Sound.{IsSound}
use Rattle.xa_model.specs.Durable.{CommittedBranch, Pairwise, AreLast, commits_before, keys_before, last_write, durable}
use Rattle.mv_rules.specs.Accesses.{Accesses}
use Rattle.mv_rules.specs.Held.{versions_at, IsHeld}
use Rattle.mv_rules.specs.Ties.{history_of}

-- Writes by timestamp, as committed branches

abbrev pub as_branch : (ℕ × Vec Write Global) → CommittedBranch
as_branch e = record { timestamp = e.0; writes = e.1.items }

abbrev pub branches_in : List (ℕ × Vec Write Global) → List CommittedBranch
branches_in entries = map as_branch entries

-- The last committed write of each key and no other: branches ascend by timestamp, and the writes of each by key
pub record AreCommitted (h : Accesses) (bs : List CommittedBranch) : Type 0 where
  pub order : Pairwise commits_before bs
  pub keys : Each (λ b. Pairwise keys_before b.writes) bs
  pub last : AreLast bs
  pub written : (key : List ℕ) (t : ℕ) → h.low ≤ t → AreUpto t h.writes
      → last_write key bs ≡ stamped (seen_without everybody key t h.writes)

-- these are the committed branches of what lasts of a state
abbrev pub CommittedLasts : Type 0
CommittedLasts =
    (s : State) (bs : List CommittedBranch) → IsSound s → AreCommitted (history_of s) bs → bs ≡ (durable s).committed

-- One step of the pass over all keys

abbrev pub ByTimestamp : Type 0
ByTimestamp = BTreeMap ℕ (Vec Write Global)

-- the writes of a timestamp
abbrev pub writes_at : ℕ → ByTimestamp → List Write
writes_at t committed = option_map_or (λ v. v.items) (get_by (nat_cmp t) committed) []

-- one more write of a timestamp, after its others
pub record AddsCommitted (t : ℕ) (w : Write) (old new : ByTimestamp) : Type 0 where
  pub left : Vec Write Global
  pub writes : left.items ≡ writes_at t old ++ w ∷ []
  pub entries : new.entries ≡ insert_entry nat_cmp old.entries t left
  pub ordered : IsOrdered nat_cmp old

-- the last committed write of a key, if it has one
abbrev pub AddsLast : List ℕ → Option (ℕ × Option (List ℕ)) → ByTimestamp → ByTimestamp → Type 0
AddsLast key None old new = new ≡ old
AddsLast key (Some p) old new = AddsCommitted p.0 (record { key = key; value = p.1 }) old new

-- the key's chain stands at this index, and what is last committed of it is added
pub record AddsKey (key : List ℕ) (index : ℕ) (pool : Pool) (chains : Slab Chain) (old new : ByTimestamp)
    : Type 0 where
  pub last : Option (ℕ × Option (List ℕ))
  pub is : IsHeld pool chains → IsLastWritten (versions_at index pool chains) last
  pub adds : AddsLast key last old new
