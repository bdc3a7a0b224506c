-- What an answered get, an accepted put and a decision change of what is kept and noted, exactly, and that branches
-- which only read keys that nobody knows leave nothing behind.
use Rattle.std.specs.Prelude.{◌≡◌, ℕ, ◌<◌, ◌≤◌, ◌-◌, true, false, List, [], ◌∷◌, ◌++◌, length}
use Rattle.std.specs.Prelude.{Bool, Option, Some, None, option_map, bytes_eq, if◌then◌else◌}
use Rattle.std.specs.List.{AllByRecursion as Each, list_any}
use Rattle.std.specs.BTreeMap.{BTreeMap, insert_entry, IsOrdered}
use Rattle.std.specs.Ordering.{nat_cmp}
use Rattle.xa_codes.specs.declared.write.Write.{Write}
use Rattle.mv_chain.specs.declared.fate.Fate.{Fate}
use Rattle.mv_chain.specs.declared.version.Version.{Version}
use Rattle.mv_chain.specs.Chain.{fresh, marked_at, installed, settled}
use Rattle.mv_chain.specs.Idle.{is_idle}
use Rattle.mv_rules.specs.declared.records.Records.{Records}
use Rattle.mv_rules.specs.declared.own.Own.{Own}
use Rattle.mv_rules.specs.declared.own.Notes.{Notes}
use Rattle.mv_rules.specs.Own.{own_in, decided_in, read_in}
use Rattle.mv_rules.specs.Records.{own_of, index_of}
use Rattle.mv_rules.specs.Tidy.{kept_of, names, Tidies, IsDrained, KeepsAll, KeepsBut}

-- at one timestamp these keys are noted, and all else is as it was
pub record NotesAt (ts : ℕ) (written decided read : List Own) (old new : BTreeMap ℕ Notes) : Type 0 where
  pub noted : Notes
  pub written_is : noted.written.items ≡ written
  pub decided_is : noted.decided.items ≡ decided
  pub read_is : noted.read.items ≡ read
  pub entries : new.entries ≡ insert_entry nat_cmp old.entries ts noted
  pub ordered : IsOrdered nat_cmp old

-- one more key that the branch has written
abbrev pub AddsWritten : ℕ → Own → BTreeMap ℕ Notes → BTreeMap ℕ Notes → Type 0
AddsWritten ts own old new = NotesAt ts (own_in ts old ++ own ∷ []) (decided_in ts old) (read_in ts old) old new

-- one more key that nobody had written when the branch read it
abbrev pub AddsRead : ℕ → Own → BTreeMap ℕ Notes → BTreeMap ℕ Notes → Type 0
AddsRead ts own old new = NotesAt ts (own_in ts old) (decided_in ts old) (read_in ts old ++ own ∷ []) old new

-- the keys that the branch had written when it was decided
abbrev pub MovesDecided : ℕ → BTreeMap ℕ Notes → BTreeMap ℕ Notes → Type 0
MovesDecided ts old new = NotesAt ts [] (own_in ts old) (read_in ts old) old new

-- the versions of a key; if nothing is kept of it, those of one that nobody wrote
abbrev pub or_fresh : Option (List Version) → List Version
or_fresh None = fresh
or_fresh (Some versions) = versions

-- a key is noted that nobody wrote, and nobody read at this timestamp or a later one
pub record NotesRead (ts : ℕ) (key : List ℕ) (versions : List Version) (old new : BTreeMap ℕ Notes) : Type 0 where
  pub unknown : is_idle (ts - 1) versions ≡ true → AddsRead ts (record { key = key; index = 0 }) old new
  pub known : is_idle (ts - 1) versions ≡ false → new ≡ old

-- what an answered get leaves
pub record Reads (ts : ℕ) (key : List ℕ) (old new : Records) : Type 0 where
  pub kept : KeepsBut key (λ _. Some (marked_at ts (or_fresh (kept_of key old)))) old new
  pub notes : NotesRead ts key (or_fresh (kept_of key old)) old.notes new.notes

-- what an accepted put leaves: the key's version, and the key noted if the branch hadn't written it
pub record Puts (ts : ℕ) (key : List ℕ) (value : Option (List ℕ)) (old new : Records) : Type 0 where
  pub kept : KeepsBut key (λ _. Some (installed ts value (or_fresh (kept_of key old)))) old new
  pub again : names key (own_of ts old) ≡ true → new.notes ≡ old.notes
  pub first : names key (own_of ts old) ≡ false
      → (i : ℕ) × (index_of key new ≡ Some i) × AddsWritten ts (record { key = key; index = i }) old.notes new.notes

-- what accepted puts leave, one after another
abbrev pub PutsAll : ℕ → List Write → Records → Records → Type 0
PutsAll ts [] old new = old ≡ new
PutsAll ts (w ∷ later) old new = (next : Records) × Puts ts w.key w.value old next × PutsAll ts later next new

-- what a decision leaves: each key that the branch has written is settled, and noted as decided
pub record Settles (ts : ℕ) (fate : Fate) (old new : Records) : Type 0 where
  pub kept : (q : List ℕ)
      → kept_of q new
      ≡ (if names q (own_of ts old) then option_map (settled ts fate) (kept_of q old) else kept_of q old)
  pub some : 0 < length (own_of ts old) → MovesDecided ts old.notes new.notes
  pub none : own_of ts old ≡ [] → new.notes ≡ old.notes

-- what a decision leaves, if there is one
abbrev pub SettlesIf : ℕ → Option Fate → Records → Records → Type 0
SettlesIf ts None old new = old ≡ new
SettlesIf ts (Some fate) old new = Settles ts fate old new

-- whether a key is among those of the writes
abbrev pub writes_key : List ℕ → List Write → Bool
writes_key key writes = list_any (λ w. bytes_eq key w.key) writes

-- each key of the writes is kept, as one that nobody wrote if nothing was kept of it; all else is as it was
pub record Begins (writes : List Write) (old new : Records) : Type 0 where
  pub kept : (q : List ℕ) → kept_of q new ≡ (if writes_key q writes then Some (or_fresh (kept_of q old)) else kept_of q old)
  pub notes : new.notes ≡ old.notes

-- what the writes of a branch that lasted leave, and its decision if it has one
pub record Restores (ts : ℕ) (writes : List Write) (fate : Option Fate) (old new : Records) : Type 0 where
  pub begun : Records
  pub put : Records
  pub begins : Begins writes old begun
  pub puts : PutsAll ts writes begun put
  pub settles : SettlesIf ts fate put new

-- branches that each read one key, and are decided then, one after another
abbrev pub ReadAlone : List (ℕ × List ℕ) → Records → Records → Type 0
ReadAlone [] r end = r ≡ end
ReadAlone (e ∷ later) r end =
    (read : Records) × (left : Records) × (fate : Fate)
    × Reads e.0 e.1 r read × Settles e.0 fate read left × ReadAlone later left end

-- nothing is kept of the key, the low water has passed the reader, and up to there no branch that wrote is undecided
pub record IsStrange (low : ℕ) (r : Records) (read : ℕ × List ℕ) : Type 0 where
  pub unknown : kept_of read.1 r ≡ None
  pub passed : read.0 ≤ low
  pub decided : (t : ℕ) → t ≤ read.0 → own_of t r ≡ []

-- no key is read twice
abbrev pub AreDistinct : List (ℕ × List ℕ) → Type 0
AreDistinct [] = Unit {0}
AreDistinct (e ∷ later) = Each (λ d. bytes_eq d.1 e.1 ≡ false) later × AreDistinct later

-- a low water then leaves what it would have left without them
abbrev pub LeaveNothing : Type 0
LeaveNothing =
    (reads : List (ℕ × List ℕ)) (low : ℕ) (r read left : Records)
    → ReadAlone reads r read → Each (IsStrange low r) reads → AreDistinct reads
    → Tidies low read left → Tidies low r left

-- so every key is as it was, if nothing else was due
abbrev pub LeaveAll : Type 0
LeaveAll =
    (reads : List (ℕ × List ℕ)) (low : ℕ) (r read left : Records)
    → ReadAlone reads r read → Each (IsStrange low r) reads → AreDistinct reads
    → Tidies low read left → IsDrained low r → KeepsAll r left
