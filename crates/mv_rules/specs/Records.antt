-- Which history the versions of all keys stand for.
use Rattle.std.specs.Prelude.{◌≡◌, ℕ, false, List, length, Option, Some, None, IsSome, Vec}
use Rattle.std.specs.List.{AllByRecursion as Each}
use Rattle.std.specs.BTreeMap.{BTreeMap, get_by}
use Rattle.std.specs.Cmp.Lexicographic.{slice_cmp}
use Rattle.std.specs.Ordering.{nat_cmp}
use Rattle.std.specs.declared.alloc.Global.{Global}
use Rattle.slab.specs.Slab.{get as chain_in, slab_len}
use Rattle.mv_chain.specs.declared.version.Version.{Version}
use Rattle.mv_chain.specs.Accesses.{has_undecided}
use Rattle.mv_chain.specs.Chain.{fresh, StandsFor as ChainStandsFor}
use Rattle.mv_rules.specs.declared.records.Records.{Records}
use Rattle.mv_rules.specs.declared.own.Own.{Own}
use Rattle.mv_rules.specs.Held.{versions_at, IsHeld}
use Rattle.mv_rules.specs.Own.{own_in, is_listed}
use Rattle.mv_rules.specs.Accesses.{Accesses, undecided_keys}

-- where the key's chain stands
abbrev pub index_in : List ℕ → BTreeMap (Vec ℕ Global) ℕ → Option ℕ
index_in key indices = get_by (λ k. slice_cmp nat_cmp key k.items) indices

abbrev pub index_of : List ℕ → Records → Option ℕ
index_of key r = index_in key r.indices

abbrev pub chain_at : ℕ → Records → List Version
chain_at i r = versions_at i r.pool r.chains

abbrev pub chain_of_index : Option ℕ → Records → List Version
chain_of_index None r = fresh
chain_of_index (Some i) r = chain_at i r

-- the keys that the undecided branch has written
abbrev pub own_of : ℕ → Records → List Own
own_of t r = own_in t r.notes

-- how many versions the chains of all keys have
abbrev pub versions_in : Records → ℕ
versions_in r = slab_len r.pool.slab

-- each key's chain stands for the history; a key without one was never written or read
pub record ChainsStandFor (h : Accesses) (r : Records) : Type 0 where
  pub chains : (key : List ℕ) → ChainStandsFor key h.low h.writes h.reads (chain_of_index (index_of key r) r)
  pub within : (key : List ℕ) (i : ℕ) → index_of key r ≡ Some i → IsSome (chain_in r.chains i)
  pub apart : (a b : List ℕ) (i : ℕ) → index_of a r ≡ Some i → index_of b r ≡ Some i → a ≡ b
  pub held : IsHeld r.pool r.chains

-- each undecided branch's list has exactly the keys that it wrote
pub record ListsStandFor (h : Accesses) (r : Records) : Type 0 where
  pub listed : (t : ℕ) (key : List ℕ) (i : ℕ)
      → index_of key r ≡ Some i → is_listed i (own_of t r) ≡ has_undecided key t h.writes
  pub unindexed : (t : ℕ) (key : List ℕ) → index_of key r ≡ None → has_undecided key t h.writes ≡ false
  pub named : (t : ℕ) → Each (λ o. index_of o.key r ≡ Some o.index) (own_of t r)
  pub count : (t : ℕ) → length (own_of t r) ≡ undecided_keys t h.writes

pub record StandsFor (h : Accesses) (r : Records) : Type 0 where
  pub chains : ChainsStandFor h r
  pub lists : ListsStandFor h r
