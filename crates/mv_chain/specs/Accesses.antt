-- A history of one resource manager's data under multiversion timestamp ordering: writes with their fates and
-- answered reads, newest first, in any order of timestamps. What a read sees, and when a write is late.
use Rattle.std.specs.Prelude.{◌≡◌, ℕ, ◌<◌, ◌≤◌, Bool, true, false, ◌&&◌, not, ◌==◌, nat_lt, nat_le}
use Rattle.std.specs.Prelude.{List, [], ◌∷◌, Option, Some, None, map, bytes_eq, if◌then◌else◌}
use Rattle.std.specs.List.{list_any, AllByRecursion as Each}
use Rattle.mv_chain.specs.declared.fate.Fate.{Fate}
use Rattle.mv_chain.specs.declared.fate.Fate.TheVariants.{Committed, RolledBack}

-- a write that was accepted: a value, or None for a delete; its fate is None while its branch is undecided
pub record Written : Type 0 where
  pub timestamp : ℕ
  pub key : List ℕ
  pub value : Option (List ℕ)
  pub fate : Option Fate

-- a read that was answered: by which timestamp, and of each key that it read, from which timestamp's write (0: none)
pub record Answered : Type 0 where
  pub reader : ℕ
  pub source : List ℕ → Option ℕ

-- an accepted write whose branch is undecided
abbrev pub wrote : ℕ → List ℕ → Option (List ℕ) → Written
wrote t key value = record { timestamp = t; key = key; value = value; fate = None }

-- an answered read of one key
abbrev pub read_by : ℕ → List ℕ → ℕ → Answered
read_by reader key from = record { reader = reader; source = λ k. if bytes_eq key k then Some from else None }

-- what a read sees: from which timestamp's write, its value, and whether its branch is undecided
pub record Seen : Type 0 where
  pub from : ℕ
  pub value : Option (List ℕ)
  pub pending : Bool

-- a key that nobody wrote is absent, at timestamp 0
abbrev pub absent : Seen
absent = record { from = 0; value = None; pending = false }

abbrev pub is_undecided : Option Fate → Bool
is_undecided None = true
is_undecided (Some f) = false

abbrev pub shown : Written → Seen
shown w = record { from = w.timestamp; value = w.value; pending = is_undecided w.fate }

-- of the writes that pass the test, the one with the greatest timestamp; of several with that timestamp the newest
abbrev pub newest : (Written → Bool) → List Written → Seen
newest counts [] = absent
newest counts (w ∷ older) =
    if counts w && nat_le (newest counts older).from w.timestamp then shown w else newest counts older

-- a rolled back write counts nowhere; an undecided one unless its branch is among those thought gone
abbrev pub stands : (ℕ → Bool) → ℕ → Option Fate → Bool
stands gone timestamp None = not (gone timestamp)
stands gone timestamp (Some Committed) = true
stands gone timestamp (Some RolledBack) = false

abbrev pub nobody : ℕ → Bool
nobody timestamp = false

-- what is seen at t of the keys that pass the test, once the undecided branches in gone are rolled back
abbrev pub seen_of : (List ℕ → Bool) → (ℕ → Bool) → ℕ → List Written → Seen
seen_of has_key gone t writes =
    newest (λ w. has_key w.key && (stands gone w.timestamp w.fate && nat_le w.timestamp t)) writes

abbrev pub seen_without : (ℕ → Bool) → List ℕ → ℕ → List Written → Seen
seen_without gone key t writes = seen_of (λ k. bytes_eq key k) gone t writes

-- what a read of the key at t sees: its source
abbrev pub seen : List ℕ → ℕ → List Written → Seen
seen key t writes = seen_without nobody key t writes

-- the source is the write of another branch that is undecided
abbrev pub is_busy : ℕ → Seen → Bool
is_busy t s = s.pending && not (s.from == t)

-- a timestamp stands above the source of what was read, if it was, and below the reader
abbrev pub is_between : ℕ → ℕ → Option ℕ → Bool
is_between t reader None = false
is_between t reader (Some from) = nat_lt from t && nat_lt t reader

-- a write of the key at t is late: some answered read of the key has its source below t and its reader above
abbrev pub is_late : List ℕ → ℕ → List Answered → Bool
is_late key t reads = list_any (λ r. is_between t r.reader (r.source key)) reads

-- the branch has an undecided write of the key
abbrev pub has_undecided : List ℕ → ℕ → List Written → Bool
has_undecided key t writes = list_any (λ w. bytes_eq key w.key && ((w.timestamp == t) && is_undecided w.fate)) writes

-- the fate of a branch is decided
abbrev pub deciding : ℕ → Fate → Written → Written
deciding t fate w = record w { fate = if w.timestamp == t then Some fate else w.fate }

abbrev pub decided : ℕ → Fate → List Written → List Written
decided t fate writes = map (deciding t fate) writes

-- each write of the branch is still undecided
abbrev pub IsUndecided : ℕ → List Written → Type 0
IsUndecided t writes = Each (λ w. w.timestamp ≡ t → w.fate ≡ None) writes

-- a branch with an undecided write has no write that is decided
abbrev pub AreWhole : List Written → Type 0
AreWhole writes = (t : ℕ) (key : List ℕ) → has_undecided key t writes ≡ true → IsUndecided t writes

-- a timestamp that a branch may write and be settled at: above 0, not below the low water, and not settled yet
pub record IsUnsettled (t low : ℕ) (writes : List Written) : Type 0 where
  pub positive : 0 < t
  pub above : low ≤ t
  pub all_undecided : IsUndecided t writes
