-- What the records are rebuilt from once the log was read: the branches that lasted, one after another.
use Rattle.std.specs.Prelude.{◌≡◌, ℕ, ◌<◌, ◌≤◌, List, [], ◌∷◌, Option, Some, None, fold, length, take, slice_index_or}
use Rattle.std.specs.List.{AllByRecursion as Each}
use Rattle.xa_codes.specs.declared.write.Write.{Write}
use Rattle.mv_chain.specs.declared.fate.Fate.{Fate}
use Rattle.mv_chain.specs.declared.fate.Fate.TheVariants.{Committed as kept}
use Rattle.mv_chain.specs.Accesses.{Written}
use Rattle.xa_model.specs.State.{State, timestamp_of}
use Rattle.xa_model.specs.Durable.{Durable, CommittedBranch, PreparedBranch, IsDurable}
use Rattle.xa_model.specs.Invariants.Restored.{IsRestored}
use Rattle.mv_rules.specs.declared.records.Records.{Records}
use Rattle.mv_rules.specs.Accesses.{Accesses}
use Rattle.mv_rules.specs.Records.{StandsFor}
use Rattle.mv_rules.specs.Ties.{history_of}

-- one more write of a branch
abbrev pub with_write : ℕ → Option Fate → List Written → Write → List Written
with_write t fate older w = record { timestamp = t; key = w.key; value = w.value; fate = fate } ∷ older

-- the writes of a branch, the last of them the newest
abbrev pub with_branch : ℕ → Option Fate → List Write → List Written → List Written
with_branch t fate ws older = fold (with_write t fate) older ws

abbrev pub with_committed : List Written → CommittedBranch → List Written
with_committed older b = with_branch b.timestamp (Some kept) b.writes older

abbrev pub with_prepared : List Written → PreparedBranch → List Written
with_prepared older p = with_branch p.timestamp None p.writes older

-- committed branches in their order, and then those in doubt
abbrev pub restored_by : List CommittedBranch → List PreparedBranch → List Written
restored_by bs ps = fold with_prepared (fold with_committed [] bs) ps

abbrev pub restored : Durable → List Written
restored d = restored_by d.committed d.prepared

-- a branch that lasted may be added: nobody has read, and nothing was written at its timestamp
pub record IsRestorable (t : ℕ) (h : Accesses) : Type 0 where
  pub positive : 0 < t
  pub above : h.low ≤ t
  pub unread : h.reads ≡ []
  pub unwritten : Each (λ w. w.timestamp ≡ t → ⊥) h.writes

-- the low water may rise
abbrev pub LowRises : Type 0
LowRises = (h : Accesses) (r : Records) (low : ℕ) → StandsFor h r → h.low ≤ low → StandsFor (record h { low = low }) r

-- what stands for the branches that lasted stands for each state that they are restored to
abbrev pub StandsRestored : Type 0
StandsRestored =
    (d : Durable) (next : ℕ) (s : State) (r : Records) (low : ℕ) → IsRestored d next s → low ≤ timestamp_of next 0
    → StandsFor (record { low = low; writes = restored d; reads = [] }) r → StandsFor (history_of s) r

-- committed branches, and then those in doubt, may be added in their order
pub record IsInTurn (d : Durable) : Type 0 where
  pub committed : (i : ℕ) (b : CommittedBranch) → i < length d.committed → b ≡ slice_index_or d.committed i b
      → IsRestorable b.timestamp (record { low = 0; writes = restored_by (take i d.committed) []; reads = [] })
  pub prepared : (i : ℕ) (p : PreparedBranch) → i < length d.prepared → p ≡ slice_index_or d.prepared i p
      → IsRestorable p.timestamp (record { low = 0; writes = restored_by d.committed (take i d.prepared); reads = [] })

abbrev pub AreInTurn : Type 0
AreInTurn = (d : Durable) → IsDurable d → IsInTurn d
