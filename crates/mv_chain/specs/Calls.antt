-- What a call leaves of the chain that it is given, and which history that stands for then.
use Rattle.std.specs.Prelude.{◌≡◌, ℕ, ◌≤◌, false, max, List, ◌∷◌, Option, option_map, Vec}
use Rattle.std.specs.declared.alloc.Global.{Global}
use Rattle.mv_chain.specs.declared.fate.Fate.{Fate}
use Rattle.mv_chain.specs.declared.version.Version.{Version}
use Rattle.mv_chain.specs.declared.look.Look.{Look}
use Rattle.mv_chain.specs.declared.pool.Pool.{Pool}
use Rattle.mv_chain.specs.declared.chain.Chain.{Chain}
use Rattle.mv_chain.specs.Accesses.{Written, Answered, Seen, wrote, read_by, seen, is_busy, is_late, decided}
use Rattle.mv_chain.specs.Accesses.{AreWhole, IsUndecided, IsUnsettled}
use Rattle.mv_chain.specs.Chain.{StandsFor, shows}
use Rattle.mv_chain.specs.Look.{looked}
use Rattle.mv_chain.specs.Pool.{shown_at, IsKeptAt, versions_of, IsKept}

-- what a read at t sees
abbrev pub sees : ℕ → Pool → Chain → Seen
sees t pool c = shows t (versions_of pool c)

-- the bytes that have to be written, none for a delete
abbrev pub bytes_of : Option (Vec ℕ Global) → Option (List ℕ)
bytes_of value = option_map (λ v. v.items) value

-- whichever timestamp t it was that the chain at these slots was looked at for
abbrev pub IfLookedAt : Look → Pool → List ℕ → (ℕ → Type 0) → Type 0
IfLookedAt look pool slots At = (t : ℕ) → IsKeptAt pool slots → look ≡ looked t (shown_at pool slots) → At t

abbrev pub IfLooked : Look → Pool → Chain → (ℕ → Type 0) → Type 0
IfLooked look pool c At = IfLookedAt look pool c.slots.items At

-- the call changes a chain's versions like this
abbrev pub LeavesAt : (List Version → List Version) → Pool → List ℕ → Pool → List ℕ → Type 0
LeavesAt change old mine new left = IsKeptAt old mine → shown_at new left ≡ change (shown_at old mine)

abbrev pub Leaves : (List Version → List Version) → Pool → Chain → Pool → Chain → Type 0
Leaves change old mine new left = LeavesAt change old mine.slots.items new left.slots.items

-- it changes them like this, for the timestamp that was looked at
abbrev pub LeavesLookedAt : (ℕ → List Version → List Version) → Look → Pool → List ℕ → Pool → List ℕ → Type 0
LeavesLookedAt change look old mine new left =
    IfLookedAt look old mine (λ t. shown_at new left ≡ change t (shown_at old mine))

abbrev pub LeavesLooked : (ℕ → List Version → List Version) → Look → Pool → Chain → Pool → Chain → Type 0
LeavesLooked change look old mine new left = LeavesLookedAt change look old mine.slots.items new left.slots.items

-- an answered read of timestamp t, of what stands at `from`, is noted in each history that the chain stood for
abbrev pub Notes : ℕ → ℕ → Pool → Chain → Pool → Chain → Type 0
Notes from t old mine new left =
    (key : List ℕ) (low : ℕ) (writes : List Written) (reads : List Answered)
    → IsKept old mine → StandsFor key low writes reads (versions_of old mine)
    → low ≤ t → from ≡ (seen key t writes).from → is_busy t (seen key t writes) ≡ false
    → StandsFor key low writes (read_by t key from ∷ reads) (versions_of new left)

-- the read is of the timestamp that was looked at, and of what the look found
abbrev pub NotesLooked : Look → Pool → Chain → Pool → Chain → Type 0
NotesLooked look old mine new left =
    (t : ℕ) (key : List ℕ) (low : ℕ) (writes : List Written) (reads : List Answered)
    → IsKept old mine → look ≡ looked t (versions_of old mine) → StandsFor key low writes reads (versions_of old mine)
    → low ≤ t → is_busy t (seen key t writes) ≡ false
    → StandsFor key low writes (read_by t key (seen key t writes).from ∷ reads) (versions_of new left)

-- a write of timestamp t that isn't late is added to each history that the chain stood for
abbrev pub Adds : ℕ → Option (List ℕ) → Pool → Chain → Pool → Chain → Type 0
Adds t value old mine new left =
    (key : List ℕ) (low : ℕ) (writes : List Written) (reads : List Answered)
    → IsKept old mine → StandsFor key low writes reads (versions_of old mine)
    → IsUnsettled t low writes → is_late key t reads ≡ false
    → StandsFor key low (wrote t key value ∷ writes) reads (versions_of new left)

-- the write is of the timestamp that was looked at
abbrev pub AddsLooked : Look → Option (List ℕ) → Pool → Chain → Pool → Chain → Type 0
AddsLooked look value old mine new left =
    (t : ℕ) (key : List ℕ) (low : ℕ) (writes : List Written) (reads : List Answered)
    → IsKept old mine → look ≡ looked t (versions_of old mine) → StandsFor key low writes reads (versions_of old mine)
    → IsUnsettled t low writes → is_late key t reads ≡ false
    → StandsFor key low (wrote t key value ∷ writes) reads (versions_of new left)

-- the fate of a branch is decided in each history that the chain stood for
abbrev pub Decides : ℕ → Fate → Pool → Chain → Pool → Chain → Type 0
Decides t fate old mine new left =
    (key : List ℕ) (low : ℕ) (writes : List Written) (reads : List Answered)
    → IsKept old mine → StandsFor key low writes reads (versions_of old mine)
    → IsUndecided t writes → StandsFor key low (decided t fate writes) reads (versions_of new left)

-- each history that the chain stood for goes on from the low water, if that is above its own
abbrev pub Raises : ℕ → Pool → Chain → Pool → Chain → Type 0
Raises low old mine new left =
    (key : List ℕ) (before : ℕ) (writes : List Written) (reads : List Answered)
    → IsKept old mine → StandsFor key before writes reads (versions_of old mine)
    → AreWhole writes → StandsFor key (max before low) writes reads (versions_of new left)
