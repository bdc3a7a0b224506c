-- What the tables of a new boot are made of, branch by branch.
use Rattle.std.specs.Prelude.{◌≡◌, ◌<◌, ◌≤◌, ◌++◌, ℕ, false, List, [], ◌∷◌, map, fold}
use Rattle.std.specs.List.{AllByRecursion}
use Rattle.mv_chain.specs.Accesses.{Written, has_undecided}
use Rattle.mv_rules.specs.declared.records.Records.{Records}
use Rattle.mv_rules.specs.Records.{own_of, StandsFor as RecordsStandFor}
use Rattle.mv_rules.specs.Restoring.{with_committed, with_prepared}
use Rattle.mv_rules.specs.Within.{AreShort, HasKeys, HaveKeys}
use Rattle.xa_limits.specs.declared.TheConstants.{MOST_VALUE}
use Rattle.xa_model.specs.State.{Decided}
use Rattle.xa_model.specs.Durable.{CommittedBranch, PreparedBranch, Pairwise, commits_before, prepares_before}
use Rattle.xa_branch.specs.declared.branches.Branches.{Branches}
use Rattle.xa_branch.specs.Restored.{HasRestored}

-- timestamps above 0, each once, and no write has one of them
abbrev pub AreNew : List ℕ → List Written → Type 0
AreNew [] writes = Unit {0}
AreNew (t ∷ ts) writes =
    (0 < t) × AllByRecursion (λ u. u ≡ t → ⊥) ts × AllByRecursion (λ w. w.timestamp ≡ t → ⊥) writes × AreNew ts writes

-- nobody has read, and these writes stand, from this low water on
abbrev pub HaveWrites : ℕ → List Written → Records → Type 0
HaveWrites low writes m = RecordsStandFor (record { low = low; writes = writes; reads = [] }) m

-- the same from some low water on, of at most this one
abbrev pub HaveLow : ℕ → List Written → Records → Type 0
HaveLow least writes m = (low : ℕ) × (low ≤ least) × HaveWrites low writes m

-- Branches in doubt that are added in turn: of those that are left, each is new, and not below the low water.
pub record AddedUpto (low : ℕ) (older : List Written) (all left : List PreparedBranch) (m : Records) : Type 0 where
  pub writes : List Written
  pub leads : fold with_prepared writes left ≡ fold with_prepared older all
  pub new : AreNew (map (λ p. p.timestamp) left) writes
  pub above : AllByRecursion (λ p. low ≤ p.timestamp) left
  pub stands : HaveWrites low writes m

-- Committed branches that are added in turn, the low water rising with them to this one at most. None is undecided.
pub record CommittedUpto (least : ℕ) (all left : List CommittedBranch) (m : Records) : Type 0 where
  pub writes : List Written
  pub low : ℕ
  pub leads : fold with_committed writes left ≡ fold with_committed [] all
  pub new : AreNew (map (λ c. c.timestamp) left) writes
  pub ordered : Pairwise commits_before left
  pub above : AllByRecursion (λ c. low ≤ c.timestamp) left
  pub under : low ≤ least
  pub decided : (t : ℕ) (key : List ℕ) → has_undecided key t writes ≡ false
  pub stands : HaveWrites low writes m

-- the branches in doubt up to one of them are known
pub record PreparedUpto (boot moment : ℕ) (all left : List PreparedBranch) (m : Branches) : Type 0 where
  pub done : List PreparedBranch
  pub split : done ++ left ≡ all
  pub stands : HasRestored m boot moment done []

-- and what the operator completed, up to one of them
pub record CompletedUpto (boot moment : ℕ) (ps : List PreparedBranch) (all left : List Decided) (m : Branches) : Type 0 where
  pub done : List Decided
  pub split : done ++ left ≡ all
  pub stands : HasRestored m boot moment ps done

-- what these branches wrote has no value over MOST_VALUE bytes

abbrev pub CommittedAreShort : List CommittedBranch → Type 0
CommittedAreShort bs = AllByRecursion (λ b. AreShort MOST_VALUE b.writes) bs

abbrev pub PreparedAreShort : List PreparedBranch → Type 0
PreparedAreShort ps = AllByRecursion (λ p. AreShort MOST_VALUE p.writes) ps

-- what branches in doubt wrote has keys within the limits, and no more of them than a record holds

abbrev pub PreparedHaveKeys : List PreparedBranch → Type 0
PreparedHaveKeys ps = AllByRecursion (λ p. HaveKeys p.writes) ps

-- no undecided branch has written anything
abbrev pub NoneHasWritten : Records → Type 0
NoneHasWritten m = (t : ℕ) → own_of t m ≡ []

-- the same of those branches in doubt that are left
pub record KeysUpto (left : List PreparedBranch) (m : Records) : Type 0 where
  pub limits : PreparedHaveKeys left
  pub apart : Pairwise prepares_before left
  pub unwritten : AllByRecursion (λ p. own_of p.timestamp m ≡ []) left
  pub keys : HasKeys m
