use Rattle.std.proofs.Common.{◌≡◌, ◌≤◌, ℕ, List, take, map, length}
use Rattle.std.specs.List.{AllByRecursion as Each}
use Rattle.std.specs.BTreeMap.{get, IsOrdered}
use Rattle.std.specs.Cmp.Lexicographic.{slice_cmp}
use Rattle.std.specs.Ordering.{nat_cmp}
use Rattle.mv_chain.specs.Within.{IsWithin}
use Rattle.mv_rules.specs.Collected.{as_write, collected}
use Rattle.mv_rules.specs.Held.{IsHeld}
use Rattle.mv_rules.specs.Within.{AreShort, IsKey}
use Rattle.mv_rules.proofs.writes.collect.Given as goal

abbrev pub invariant-loop-written : goal.invariant-loop-written
invariant-loop-written l = record {
  values : IsHeld l.pool l.chains → (key : List ℕ) → get (slice_cmp nat_cmp) l.values key ≡ collected l.ts l.pool l.chains key (take l.written-index l.own);
  ordered : IsOrdered (slice_cmp nat_cmp) l.values;
  short : (n : ℕ) → IsWithin n l.pool → AreShort n (map as_write l.values.entries);
  few : length l.values.entries ≤ l.written-index;
  keys : Each (λ o. IsKey o.key) l.own → Each (λ w. IsKey w.key) (map as_write l.values.entries);
}
