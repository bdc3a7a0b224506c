use Rattle.std.proofs.Common.{◌≡◌, ℕ, ◌≤◌, List, take}
use Rattle.mv_chain.specs.Accesses.{AreWhole}
use Rattle.mv_rules.specs.Accesses.{Accesses}
use Rattle.mv_rules.specs.Records.{StandsFor}
use Rattle.mv_rules.specs.Tidy.{kept_of, names, tidied_if}
use Rattle.mv_rules.specs.Within.{KeepsWithin}
use Rattle.mv_rules.proofs.records.Records.drain.Given as goal

abbrev pub invariant-loop-own : goal.invariant-loop-own
invariant-loop-own l = record {
  stands : (h : Accesses) → StandsFor h l.fn.self → AreWhole h.writes → l.low ≤ h.low → StandsFor h l.self;
  kept : (h : Accesses) → StandsFor h l.fn.self → AreWhole h.writes → l.low ≤ h.low → (q : List ℕ) → kept_of q l.self ≡ tidied_if l.low (names q (take l.own-index l.due)) (kept_of q l.fn.self);
  notes : l.self.notes ≡ l.fn.self.notes;
  within : KeepsWithin l.fn.self l.self;
}
