-- What is kept of each key, and what a low water gives back of it: the versions that no read from there on sees, and
-- the key itself if nothing is left but that it was absent.
use Rattle.std.specs.Prelude.{◌≡◌, ℕ, Bool, true, false, ◌&&◌, ◌==◌, nat_le, List, [], ◌∷◌, ◌++◌, length}
use Rattle.std.specs.Prelude.{Option, Some, None, option_map, bytes_eq, if◌then◌else◌}
use Rattle.std.specs.List.{list_any}
use Rattle.mv_chain.specs.declared.version.Version.{Version}
use Rattle.mv_chain.specs.Chain.{pruned}
use Rattle.mv_chain.specs.Idle.{is_idle}
use Rattle.mv_rules.specs.declared.records.Records.{Records}
use Rattle.mv_rules.specs.declared.own.Own.{Own}
use Rattle.mv_rules.specs.declared.own.Notes.{Notes}
use Rattle.mv_rules.specs.declared.answers.Got.{Got}
use Rattle.mv_rules.specs.declared.answers.Got.TheVariants.{Value, Absent, Busy, Memory}
use Rattle.mv_rules.specs.Records.{index_of, chain_at}

-- the versions that are kept of a key; None if nothing is kept of it
abbrev pub kept_of : List ℕ → Records → Option (List Version)
kept_of key r = option_map (λ i. chain_at i r) (index_of key r)

abbrev pub names : List ℕ → List Own → Bool
names key own = list_any (λ o. bytes_eq key o.key) own

-- the low water has passed the branch, and it is decided
abbrev pub is_due : ℕ → (ℕ × Notes) → Bool
is_due low e = nat_le e.0 low && (length e.1.written.items == 0)

-- The keys that are noted for the branches up to the first that isn't due, by timestamp. After an undecided branch
-- nothing is due, since that branch sees what it saw.
abbrev pub due : ℕ → List (ℕ × Notes) → List Own
due low [] = []
due low (e ∷ later) = if is_due low e then e.1.decided.items ++ e.1.read.items ++ due low later else []

-- what is noted for the branches from there on
abbrev pub not_due : ℕ → List (ℕ × Notes) → List (ℕ × Notes)
not_due low [] = []
not_due low (e ∷ later) = if is_due low e then not_due low later else e ∷ later

-- nothing that is noted is due
abbrev pub IsDrained : ℕ → Records → Type 0
IsDrained low r = due low r.notes.entries ≡ []

-- a key of which there is nothing but that it was absent isn't kept
abbrev pub unless_idle : ℕ → List Version → Option (List Version)
unless_idle low versions = if is_idle low versions then None else Some versions

abbrev pub forgotten : ℕ → Option (List Version) → Option (List Version)
forgotten low None = None
forgotten low (Some versions) = unless_idle low versions

-- what stays of a key from the low water on
abbrev pub tidied : ℕ → Option (List Version) → Option (List Version)
tidied low kept = forgotten low (option_map (pruned low) kept)

-- the key is tidied if it is named, and is as it was if it isn't
abbrev pub tidied_if : ℕ → Bool → Option (List Version) → Option (List Version)
tidied_if low named kept = if named then tidied low kept else kept

-- each key that a due note names is tidied, the others are as they were, and those notes are gone
pub record Tidies (low : ℕ) (old new : Records) : Type 0 where
  pub kept : (key : List ℕ) → kept_of key new ≡ tidied_if low (names key (due low old.notes.entries)) (kept_of key old)
  pub notes : new.notes.entries ≡ not_due low old.notes.entries

-- every key is as it was
abbrev pub KeepsAll : Records → Records → Type 0
KeepsAll old new = (key : List ℕ) → kept_of key new ≡ kept_of key old

-- every key is as it was but this one, for which what is kept is changed like this
abbrev pub KeepsBut : List ℕ → (Option (List Version) → Option (List Version)) → Records → Records → Type 0
KeepsBut key change old new =
    (q : List ℕ) → kept_of q new ≡ (if bytes_eq q key then change (kept_of q old) else kept_of q old)

-- whether a get has read: Busy and Memory haven't
abbrev pub has_read : Got → Bool
has_read (Value v) = true
has_read Absent = true
has_read (Busy by) = false
has_read Memory = false
