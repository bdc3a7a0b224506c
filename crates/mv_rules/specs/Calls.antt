-- What a call on the records speaks of: whichever history they stood for before it.
use Rattle.std.specs.Prelude.{◌≡◌, ℕ, List, Some, None}
use Rattle.mv_chain.specs.Accesses.{IsUnsettled}
use Rattle.mv_rules.specs.declared.records.Records.{Records}
use Rattle.mv_rules.specs.Accesses.{Accesses}
use Rattle.mv_rules.specs.Records.{StandsFor, index_of}

-- whichever history h they stood for
abbrev pub IfStood : Records → (Accesses → Type 0) → Type 0
IfStood r Claim = (h : Accesses) → StandsFor h r → Claim h

-- if the key's chain stood at this index
abbrev pub IfIndexed : List ℕ → ℕ → Records → (Accesses → Type 0) → Type 0
IfIndexed key i r Claim = (h : Accesses) → StandsFor h r → index_of key r ≡ Some i → Claim h

-- if the key had no chain
abbrev pub IfUnindexed : List ℕ → Records → (Accesses → Type 0) → Type 0
IfUnindexed key r Claim = (h : Accesses) → StandsFor h r → index_of key r ≡ None → Claim h

-- if the branch might still write
abbrev pub IfUnsettled : ℕ → Records → (Accesses → Type 0) → Type 0
IfUnsettled ts r Claim = (h : Accesses) → StandsFor h r → IsUnsettled ts h.low h.writes → Claim h
