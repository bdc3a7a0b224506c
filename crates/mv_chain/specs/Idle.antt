-- A key that was only read, and whose reads lie below the low water.
use Rattle.std.specs.Prelude.{◌≡◌, ℕ, ◌≤◌, Bool, true, false, ◌&&◌, not, ◌==◌, nat_le, List, [], ◌∷◌, is_some}
use Rattle.mv_chain.specs.declared.version.Version.{Version}
use Rattle.mv_chain.specs.Accesses.{Written, Answered}
use Rattle.mv_chain.specs.Chain.{StandsFor, fresh}

-- the version at 0, committed and absent, with a mark of at most low
abbrev pub is_unused : ℕ → Version → Bool
is_unused low v = (v.timestamp == 0) && not (is_some v.value) && not v.pending && nat_le v.mark low

-- it is the only one
abbrev pub is_idle : ℕ → List Version → Bool
is_idle low [] = false
is_idle low (v ∷ []) = is_unused low v
is_idle low (v ∷ w ∷ later) = false

-- such a key may be forgotten: from any low water that isn't below, it stands for what a new one stands for
abbrev pub IdleStands : Type 0
IdleStands =
    (key : List ℕ) (low before : ℕ) (writes : List Written) (reads : List Answered) (versions : List Version)
    → is_idle low versions ≡ true → low ≤ before → StandsFor key before writes reads versions
    → StandsFor key before writes reads fresh
