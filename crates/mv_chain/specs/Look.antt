-- What one search of a key's versions finds at a timestamp.
use Rattle.std.specs.Prelude.{ℕ, zero, suc, ◌<◌, ◌≤◌, nat_le, List, [], ◌∷◌, if◌then◌else◌}
use Rattle.mv_chain.specs.declared.version.Version.{Version}
use Rattle.mv_chain.specs.declared.look.Look.{Look}
use Rattle.mv_chain.specs.Chain.{shows, is_marked}

-- how many versions have a timestamp of at most t
abbrev pub count_upto : ℕ → List Version → ℕ
count_upto t [] = 0
count_upto t (v ∷ later) = if nat_le v.timestamp t then suc (count_upto t later) else count_upto t later

-- the source of a read at t, whether a write at t is late, and where both stand
abbrev pub looked : ℕ → List Version → Look
looked t versions = record {
  at = t;
  from = (shows t versions).from;
  pending = (shows t versions).pending;
  late = is_marked t versions;
  count = count_upto t versions;
}

-- the first i versions have a timestamp below t, and the others don't
abbrev pub IsBelow : ℕ → ℕ → List Version → Type 0
IsBelow t zero [] = Unit {0}
IsBelow t (suc i) [] = ⊥
IsBelow t zero (v ∷ later) = (t ≤ v.timestamp) × IsBelow t zero later
IsBelow t (suc i) (v ∷ later) = (v.timestamp < t) × IsBelow t i later
