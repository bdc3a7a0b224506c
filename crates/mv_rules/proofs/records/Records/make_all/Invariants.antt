use Rattle.std.proofs.Common.{◌≡◌, drop}
use Rattle.mv_rules.specs.Accesses.{Accesses}
use Rattle.mv_rules.specs.Records.{StandsFor}
use Rattle.mv_rules.specs.Noted.{Begins}
use Rattle.mv_rules.specs.Within.{KeepsWithin}
use Rattle.mv_rules.proofs.records.Records.make_all.Given as goal

abbrev pub invariant-loop-i : goal.invariant-loop-i
invariant-loop-i l = record {
  stands : (h : Accesses) → StandsFor h l.fn.self → StandsFor h l.self;
  begins : (h : Accesses) → StandsFor h l.fn.self → Begins (drop l.i l.writes) l.fn.self l.self;
  within : KeepsWithin l.fn.self l.self;
  notes : l.self.notes ≡ l.fn.self.notes;
}
