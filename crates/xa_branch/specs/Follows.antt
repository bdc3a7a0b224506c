-- What is said of each state of the sequential resource manager that the branches stand for.
use Rattle.std.specs.Prelude.{ℕ, ◌≡◌}
use Rattle.std.specs.BTreeSet.{BTreeSet, contains}
use Rattle.std.specs.List.{list_any}
use Rattle.xa_xid.specs.Triple.{Triple, xid_cmp}
use Rattle.xa_model.specs.State.{State, owns}
use Rattle.xa_model.specs.Invariants.Sound.{IsSound}
use Rattle.xa_branch.specs.declared.branches.Branches.{Branches}
use Rattle.xa_branch.specs.Branches.{BranchesStandFor}

-- each state that they stand for has this
abbrev pub InEach : Branches → (State → Type 0) → Type 0
InEach m P = (s : State) → BranchesStandFor m s → P s

-- each sound one has
abbrev pub InSound : Branches → (State → Type 0) → Type 0
InSound m P = (s : State) → IsSound s → BranchesStandFor m s → P s

-- the same two, of each session

abbrev pub InEachOf : Branches → (State → ℕ → Type 0) → Type 0
InEachOf m P = (s : State) (n : ℕ) → BranchesStandFor m s → P s n

abbrev pub InSoundOf : Branches → (State → ℕ → Type 0) → Type 0
InSoundOf m P = (s : State) (n : ℕ) → IsSound s → BranchesStandFor m s → P s n

-- whichever sound state the ones stood for, the others stand for what becomes of it
abbrev pub Follows : Branches → (State → State) → Branches → Type 0
Follows m act m' = InSound m (λ s. BranchesStandFor m' (act s))

-- also from one that isn't sound
abbrev pub FollowsAlways : Branches → (State → State) → Branches → Type 0
FollowsAlways m act m' = InEach m (λ s. BranchesStandFor m' (act s))

-- by what each session does
abbrev pub FollowsEach : Branches → (State → ℕ → State) → Branches → Type 0
FollowsEach m act m' = InSoundOf m (λ s n. BranchesStandFor m' (act s n))

-- they stand for whichever state they stood for
abbrev pub Stays : Branches → Branches → Type 0
Stays m m' = InEach m (λ s. BranchesStandFor m' s)

-- these are the XIDs of a session's own associations
abbrev pub AreOwn : BTreeSet Triple → State → ℕ → Type 0
AreOwn own s n = (q : Triple) → contains xid_cmp own q ≡ list_any (owns n q) s.associations
