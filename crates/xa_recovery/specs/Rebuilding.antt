-- What was read of a log, by the maps that are kept of it.
use Rattle.std.specs.Prelude.{◌≡◌, ℕ, ◌==◌, true, false, List, [], ◌∷◌, ◌++◌, Result, Ok, Err, length, find, option_map}
use Rattle.std.specs.BTreeMap.{get}
use Rattle.std.specs.BTreeSet.{contains}
use Rattle.std.specs.List.{AllByRecursion}
use Rattle.std.specs.Ordering.{nat_cmp}
use Rattle.xa_xid.specs.Triple.{Triple, xid_cmp}
use Rattle.xa_record.specs.declared.record.Record.{Record}
use Rattle.xa_model.specs.Durable.{Durable, CommittedBranch, Pairwise, commits_before, last_writes}
use Rattle.xa_model.specs.Fold.{Reading, prepared_as, is_used, fold, unread, reading}
use Rattle.xa_model.proofs.Readings.{IsRead}
use Rattle.xa_recovery.specs.declared.fault.AddFault.{AddFault}
use Rattle.xa_recovery.specs.declared.fault.AddFault.TheVariants.{Memory, Order}
use Rattle.xa_recovery.specs.declared.fault.RebuildFault.{RebuildFault}
use Rattle.xa_recovery.specs.declared.fault.RebuildFault.TheVariants as fault
use Rattle.xa_recovery.specs.declared.rebuilding.Rebuilding.{Rebuilding}
use Rattle.xa_recovery.specs.Durable.{committed_of, prepared_of, decided_of}

-- The branches that were committed, each with all its writes, by timestamp: each timestamp was read, and is no prepared
-- branch's.
pub record Commits (bs : List CommittedBranch) (x : Reading) : Type 0 where
  pub ordered : Pairwise commits_before bs
  pub last : last_writes bs ≡ x.durable.committed
  pub used : AllByRecursion (λ b. is_used b.timestamp x.timestamps ≡ true) bs
  pub apart : AllByRecursion (λ b. AllByRecursion (λ p. (b.timestamp == p.timestamp) ≡ false) x.durable.prepared) bs

pub record StandsFor (m : Rebuilding) (x : Reading) : Type 0 where
  pub boot : m.boot ≡ x.durable.boot
  pub is_snapshot : m.is_snapshot ≡ x.is_snapshot
  pub committed : Commits (committed_of m.committed) x
  pub prepared : prepared_of m.prepared ≡ x.durable.prepared
  pub decided : decided_of m.decided ≡ x.durable.decided
  pub names : (xid : Triple)
      → get xid_cmp m.names xid ≡ option_map (λ p. p.timestamp) (find (prepared_as xid) x.durable.prepared)
  pub timestamps : (t : ℕ) → contains nat_cmp m.timestamps t ≡ is_used t x.timestamps

-- whatever was read that it stands for
abbrev pub InEach : Rebuilding → (Reading → Type 0) → Type 0
InEach m P = (x : Reading) → StandsFor m x → P x

-- also in an order that records may have
abbrev pub InRead : Rebuilding → (Reading → Type 0) → Type 0
InRead m P = (x : Reading) → IsRead x → StandsFor m x → P x

-- a branch of this timestamp was read as well, of which this is kept
abbrev pub with_branch : ℕ → (Durable → Durable) → Reading → Reading
with_branch t act x = record x { durable = act x.durable; timestamps = t ∷ x.timestamps }

-- the records are in order, and it stands for what was read of them
pub record HasRead (m : Rebuilding) (rs : List Record) : Type 0 where
  pub ordered : fold rs ≡ Ok (reading unread rs).durable
  pub stands : StandsFor m (reading unread rs)

-- one more record: it was read, or there was no memory, or it is out of order
abbrev pub Taken : List Record → Record → Result Rebuilding AddFault → Type 0
Taken rs r (Ok m) = HasRead m (rs ++ r ∷ [])
Taken rs r (Err Memory) = Unit {0}
Taken rs r (Err Order) = fold (rs ++ r ∷ []) ≡ Err (length rs)

-- the same, of the record with this index
abbrev pub TakenAt : ℕ → List Record → Record → Result Rebuilding RebuildFault → Type 0
TakenAt i rs r (Ok m) = HasRead m (rs ++ r ∷ [])
TakenAt i rs r (Err fault.Memory) = Unit {0}
TakenAt i rs r (Err (fault.Order j)) = (j ≡ i) × (fold (rs ++ r ∷ []) ≡ Err (length rs))

-- what the records come to, or the index of the first that is out of order, or there was no memory
abbrev pub Rebuilt : List Record → Result Durable RebuildFault → Type 0
Rebuilt rs (Ok d) = fold rs ≡ Ok d
Rebuilt rs (Err fault.Memory) = Unit {0}
Rebuilt rs (Err (fault.Order i)) = fold rs ≡ Err i
