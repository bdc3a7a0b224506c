-- Branches and versions by their timestamps.
use Rattle.std.proofs.Common.{◌≡◌, ℕ, ◌<◌, Bool, true, false, cond, List, [], ◌∷◌, Option, Some, None, refl, ap, sym, subst, arith}
use Rattle.xa_xid.specs.Triple.{Triple}
use Rattle.xa_model.specs.State.{Branch, is_known_as, known_of}
use Rattle.xa_model.specs.Source.{Version, version_by, write_of}
use Rattle.xa_model.specs.Invariants.Sound.{Descends}

-- the version of a branch has the branch's timestamp
abbrev timestamp_or : ℕ → Option Version → ℕ
timestamp_or t None = t
timestamp_or t (Some v) = v.timestamp

version_time_by : (k : List ℕ) (b : Branch) (v : Version) (o : Option (Option (List ℕ))) → write_of k b.operations ≡ o → version_by k b ≡ Some v → v.timestamp ≡ b.timestamp
version_time_by k b v (Some w) eo h = let e = simp eo at h in sym (ap (λ (o : Option Version). timestamp_or b.timestamp o) e)
version_time_by k b v None eo h = let e = simp eo at h in absurd (cc e)

pub version_time : (k : List ℕ) (b : Branch) (v : Version) → version_by k b ≡ Some v → v.timestamp ≡ b.timestamp
version_time k b v h = version_time_by k b v (write_of k b.operations) refl h

-- a known branch's timestamp is below the limit of all
below_by : (xid : Triple) (b c : Branch) (limit : ℕ) (bs : List Branch) (is : Bool) → Descends limit (c ∷ bs) → cond is (Some c) (known_of bs xid) ≡ Some b
    → (known_of bs xid ≡ Some b → b.timestamp < c.timestamp) → b.timestamp < limit
below_by xid b c limit bs true h found rest = let same : c ≡ b = cc found in subst (λ (x : Branch). x.timestamp < limit) same h.1
below_by xid b c limit bs false h found rest = omega (arith, rest found, h.1)

pub known_below : (xid : Triple) (b : Branch) (limit : ℕ) (bs : List Branch) → Descends limit bs → known_of bs xid ≡ Some b → b.timestamp < limit
known_below xid b limit [] h found = absurd (cc found)
known_below xid b limit (c ∷ bs) h found = below_by xid b c limit bs (is_known_as xid c) h found (known_below xid b c.timestamp bs h.2)
