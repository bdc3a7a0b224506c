use Rattle.std.proofs.Common.{◌≡◌, ℕ, ◌≤◌, List, length}
use Rattle.mv_chain.specs.Accesses.{AreWhole}
use Rattle.mv_rules.specs.Accesses.{Accesses}
use Rattle.mv_rules.specs.Own.{OwnStays}
use Rattle.mv_rules.specs.Records.{StandsFor}
use Rattle.mv_rules.specs.Tidy.{kept_of, names, due, not_due, tidied_if}
use Rattle.mv_rules.specs.Within.{KeepsWithin, KeepsKeys}
use Rattle.mv_rules.proofs.records.Records.low_water.Given as goal

abbrev pub invariant-loop-noted : goal.invariant-loop-noted
invariant-loop-noted l = record {
  stands : (h : Accesses) → StandsFor h l.fn.self → AreWhole h.writes → l.low ≤ h.low → StandsFor h l.self;
  kept : (h : Accesses) → StandsFor h l.fn.self → AreWhole h.writes → l.low ≤ h.low → (q : List ℕ) → tidied_if l.low (names q (due l.low l.self.notes.entries)) (kept_of q l.self) ≡ tidied_if l.low (names q (due l.low l.fn.self.notes.entries)) (kept_of q l.fn.self);
  notes : not_due l.low l.self.notes.entries ≡ not_due l.low l.fn.self.notes.entries;
  within : KeepsWithin l.fn.self l.self;
  keys : KeepsKeys l.fn.self l.self;
  own : OwnStays l.fn.self.notes l.self.notes;
}

abbrev pub decreases-loop-noted : goal.decreases-loop-noted
decreases-loop-noted l = length l.self.notes.entries
