use Rattle.std.proofs.Common.{◌≡◌, ◌++◌, ℕ, ◌≤◌, List, map}
use Rattle.std.specs.List.{AllByRecursion}
use Rattle.xa_limits.specs.declared.TheConstants.{MOST_VALUE}
use Rattle.mv_chain.specs.Accesses.{Written}
use Rattle.mv_rules.specs.Within.{IsWithin}
use Rattle.xa_recovery.specs.Durable.{as_prepared}
use Rattle.xa_recovery.specs.Snapshots.{held_body}
use Rattle.xa_manager.specs.Rebuilding.{AreNew, HaveWrites, AddedUpto, PreparedAreShort, KeysUpto}
use Rattle.xa_manager.proofs.rebuilding.put_undecided.Given as goal

abbrev pub invariant-loop-timestamp : goal.invariant-loop-timestamp
invariant-loop-timestamp l = record {
  stands : (low : ℕ) (older : List Written) → AreNew (map (λ p. p.timestamp) (map as_prepared l.fn.prepared.entries)) older → AllByRecursion (λ p. low ≤ p.timestamp) (map as_prepared l.fn.prepared.entries) → HaveWrites low older l.fn.records
      → AddedUpto low older (map as_prepared l.fn.prepared.entries) (map as_prepared l.timestamp-iterator) l.records;
  short : PreparedAreShort (map as_prepared l.fn.prepared.entries) → IsWithin MOST_VALUE l.fn.records → PreparedAreShort (map as_prepared l.timestamp-iterator) × IsWithin MOST_VALUE l.records;
  keys : KeysUpto (map as_prepared l.fn.prepared.entries) l.fn.records → KeysUpto (map as_prepared l.timestamp-iterator) l.records;
  bodies : l.bodies.items ++ map held_body l.timestamp-iterator ≡ l.fn.bodies.items ++ map held_body l.fn.prepared.entries;
}
