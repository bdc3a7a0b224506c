use Rattle.std.proofs.Common.{◌≡◌, ℕ, [], None, length, take}
use Rattle.mv_rules.specs.Accesses.{Accesses}
use Rattle.mv_rules.specs.Records.{StandsFor, own_of}
use Rattle.mv_rules.specs.Restoring.{with_branch, IsRestorable}
use Rattle.mv_rules.specs.Noted.{PutsAll}
use Rattle.mv_rules.specs.Within.{IsWithin, AreShort, AreKeys, KeepsOwnBut, HaveKeys}
use Rattle.mv_rules.proofs.records.Records.put_all.Given as goal

abbrev pub invariant-loop-write : goal.invariant-loop-write
invariant-loop-write l = record {
  stands : (h : Accesses) → StandsFor h l.fn.self → IsRestorable l.ts h → StandsFor (record h { writes = with_branch l.ts None (take l.write-index l.writes) h.writes }) l.self;
  puts : (h : Accesses) → StandsFor h l.fn.self → IsRestorable l.ts h → PutsAll l.ts (take l.write-index l.writes) l.fn.self l.self;
  within : (n : ℕ) → IsWithin n l.fn.self → AreShort n l.writes → IsWithin n l.self;
  keys : own_of l.ts l.fn.self ≡ [] → HaveKeys l.writes → AreKeys (length (take l.write-index l.writes)) (own_of l.ts l.self);
  others : KeepsOwnBut l.ts l.fn.self l.self;
}
