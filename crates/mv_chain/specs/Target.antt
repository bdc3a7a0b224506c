-- Where a write goes among the versions of its key.
use Rattle.std.specs.Prelude.{◌≡◌, ℕ, suc, ◌<◌, ◌≤◌, true, false, List, length, Option, MatchOption, slice_index_or}
use Rattle.std.specs.List.{AllByRecursion as Each}
use Rattle.mv_chain.specs.declared.version.Version.{Version}
use Rattle.mv_chain.specs.declared.changes.Target.{Target}
use Rattle.mv_chain.specs.declared.changes.Target.TheVariants.{Refused, Own, New}
use Rattle.mv_chain.specs.Chain.{IsIndex, is_marked, may_install}

-- the version at i is t's, and pending
abbrev pub IsPendingAt : ℕ → ℕ → List Version → Type 0
IsPendingAt t i versions =
    (d : Version) → ((slice_index_or versions i d).timestamp ≡ t) × ((slice_index_or versions i d).pending ≡ true)

-- the branch's own version is pending and stands there
pub record IsOwn (t i : ℕ) (versions : List Version) : Type 0 where
  pub within : i < length versions
  pub index : IsIndex t (suc i) versions
  pub own : IsPendingAt t i versions
  pub in_time : is_marked t versions ≡ false

-- the index of the branch's pending version, if it has one
abbrev pub IsOwnIndex : ℕ → List Version → Option ℕ → Type 0
IsOwnIndex t versions found =
    MatchOption found (Each (λ v. v.timestamp ≡ t → v.pending ≡ false) versions)
    (λ i. IsIndex t (suc i) versions × IsPendingAt t i versions)

-- the branch has no version, and one would stand there
pub record IsNew (t i : ℕ) (versions : List Version) : Type 0 where
  pub within : i ≤ length versions
  pub index : IsIndex t i versions
  pub none : Each (λ v. v.timestamp ≡ t → ⊥) versions
  pub in_time : is_marked t versions ≡ false

abbrev pub IsTarget : ℕ → List Version → Target → Type 0
IsTarget t versions Refused = may_install t versions ≡ false
IsTarget t versions (Own i) = IsOwn t i versions
IsTarget t versions (New i) = IsNew t i versions
