-- What one chain stands for after a step.
use Rattle.std.specs.Prelude.{◌≡◌, ℕ, ◌≤◌, true, false, List, ◌∷◌, Option, is_some}
use Rattle.slab.specs.Slab.{Slab, get as chain_in}
use Rattle.mv_chain.specs.declared.pool.Pool.{Pool}
use Rattle.mv_chain.specs.declared.chain.Chain.{Chain}
use Rattle.mv_chain.specs.declared.fate.Fate.{Fate}
use Rattle.mv_chain.specs.declared.version.Version.{Version}
use Rattle.mv_chain.specs.Accesses.{Written, Answered, wrote, is_late, decided, IsUndecided, IsUnsettled}
use Rattle.mv_chain.specs.Chain.{shows, settled, StandsFor}
use Rattle.mv_rules.specs.declared.answers.Got.{Got}
use Rattle.mv_rules.specs.declared.own.Own.{Own}
use Rattle.mv_rules.specs.Accesses.{reads_after}
use Rattle.mv_rules.specs.Held.{versions_at, IsHeld}
use Rattle.mv_rules.specs.Own.{is_listed}

-- every history that it stood for, with the answered read
abbrev pub IsRead : Got → ℕ → List Version → List Version → Type 0
IsRead got t old new =
    (key : List ℕ) (low : ℕ) (writes : List Written) (reads : List Answered)
    → StandsFor key low writes reads old → low ≤ t
    → StandsFor key low writes (reads_after got t key (shows t old).from reads) new

-- every history that it stood for, with the branch's fate decided
abbrev pub IsSettled : ℕ → Fate → List Version → List Version → Type 0
IsSettled t fate old new =
    (key : List ℕ) (low : ℕ) (writes : List Written) (reads : List Answered)
    → StandsFor key low writes reads old → IsUndecided t writes
    → StandsFor key low (decided t fate writes) reads new

-- every history that it stood for, with one more write, unless that is late
abbrev pub IsWritten : ℕ → Option (List ℕ) → List Version → List Version → Type 0
IsWritten t value old new =
    (key : List ℕ) (low : ℕ) (writes : List Written) (reads : List Answered)
    → StandsFor key low writes reads old → IsUnsettled t low writes → is_late key t reads ≡ false
    → StandsFor key low (wrote t key value ∷ writes) reads new

-- the chains that are listed are settled, the others as they were
pub record SettlesListed (t : ℕ) (fate : Fate) (own : List Own) (pool : Pool) (chains : Slab Chain)
    (left_pool : Pool) (left : Slab Chain) : Type 0 where
  pub held : IsHeld left_pool left
  pub stands : (i : ℕ) → is_some (chain_in left i) ≡ is_some (chain_in chains i)
  pub listed : (i : ℕ) → is_listed i own ≡ true
      → IsSettled t fate (versions_at i pool chains) (versions_at i left_pool left)
  pub exact : (i : ℕ) → is_listed i own ≡ true
      → versions_at i left_pool left ≡ settled t fate (versions_at i pool chains)
  pub others : (i : ℕ) → is_listed i own ≡ false → versions_at i left_pool left ≡ versions_at i pool chains
