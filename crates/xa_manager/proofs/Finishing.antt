-- The fate of a branch at work, or of a prepared one, is decided.
use Rattle.std.proofs.Common.{◌≡◌, ℕ, ◌+◌, Bool, true, false, cond, List, [], ◌∷◌, map, Option, Some, None, refl, ap, sym, ◌∙◌, subst}
use Rattle.std.specs.Prelude.{IsSome, find}
use Rattle.mv_chain.specs.declared.fate.Fate.{Fate}
use Rattle.mv_chain.specs.declared.fate.Fate.TheVariants.{Committed as kept, RolledBack as gone}
use Rattle.mv_chain.specs.Accesses.{Written, decided, IsUndecided}
use Rattle.mv_rules.specs.declared.records.Records.{Records}
use Rattle.mv_rules.specs.Accesses.{Accesses}
use Rattle.mv_rules.specs.Records.{StandsFor as RecordsStandFor}
use Rattle.mv_rules.specs.Ties.{history_of, low_of, writes_in, fate_of, read_as}
use Rattle.mv_rules.proofs.Moved.{stands_same}
use Rattle.mv_rules.proofs.Branches.{committed_writes, gone_writes}
use Rattle.mv_rules.proofs.Undecided.{at_work}
use Rattle.mv_rules.proofs.Remade.{low_rises}
use Rattle.xa_xid.specs.Triple.{Triple, xid_eq}
use Rattle.xa_branch.specs.declared.branches.Branches.{Branches}
use Rattle.xa_branch.specs.Branches.{BranchesStandFor, lasting_known}
use Rattle.xa_branch.specs.Room.{AreRooms, HaveRooms, rooms_of}
use Rattle.xa_branch.specs.declared.lasting.Lasting.{Lasting}
use Rattle.xa_branch.proofs.Elsewhere.{stands_elsewhere}
use Rattle.xa_branch.proofs.Rooms.{no_rooms_left}
use Rattle.xa_codes.specs.declared.direction.Direction.{Direction}
use Rattle.xa_codes.specs.declared.direction.Direction.TheVariants.{Commit, Rollback}
use Rattle.xa_model.specs.Invariants.Loggable.{IsRecoverable}
use Rattle.xa_assoc.proofs.Follows.{unmoved}
use Rattle.xa_manager.specs.View.{View}
use Rattle.xa_manager.specs.Changes.{fate_of as direction_fate}
use Rattle.xa_manager.specs.Stands.{StandsFor, StandsWithRooms, ending}
use Rattle.xa_manager.proofs.Lows.{rises_with}
use Rattle.xa_model.specs.State.{State, Branch, Phase, Working, Prepared, Committed, InDoubt, name_of, is_with, known_as, known_among, known_in, is_at_work, decided_of, or_completed, known_of, is_known_as, without, timestamp_of}
use Rattle.xa_model.specs.Associations.{timestamp_in, timestamp_by}
use Rattle.xa_model.specs.Phases.{rolled_back, committed, decided_by, prepared}
use Rattle.xa_model.specs.Invariants.Sound.{IsSound}
use Rattle.xa_model.proofs.ChangedWaters.{committed_water, rolled_back_water, committed_floor, rolled_back_floor}

passes_by : (q : Branch → Bool) (x b : Branch) (rest : Option Branch) (c : Bool) → q x ≡ c → cond c (Some x) rest ≡ Some b → (rest ≡ Some b → q b ≡ true) → q b ≡ true
passes_by q x b rest true e h more = let same : x ≡ b = cc h in subst (λ (y : Branch). q y ≡ true) same e
passes_by q x b rest false e h more = more h

-- what is found passes
pub found_passes : (q : Branch → Bool) (bs : List Branch) (b : Branch) → find q bs ≡ Some b → q b ≡ true
found_passes q [] b h = absurd (cc h)
found_passes q (x ∷ bs) b h = passes_by q x b (find q bs) (q x) refl h (found_passes q bs b)

-- a branch at work, or a prepared one
pub record IsHere (s : State) (xid : Triple) : Type 0 where
  pub branch : Branch
  pub at : known_of s.branches xid ≡ Some branch
  pub undecided : fate_of branch.phase ≡ None

named_open : (xid : Triple) (p : Phase) → is_with xid (name_of p) ≡ true → fate_of p ≡ None
named_open xid (Working x work) e = refl
named_open xid (Prepared x) e = refl
named_open xid Committed e = absurd (cc e)

pub here_by : (s : State) (xid : Triple) (o : Option Branch) → known_of s.branches xid ≡ o → IsSome o → IsHere s xid
here_by s xid None e h = absurd (cc h)
here_by s xid (Some b) e h = record { branch = b; at = e; undecided = named_open xid b.phase (found_passes (is_known_as xid) s.branches b e) }

-- what settling its writes comes to
abbrev pub Settles : ℕ → Fate → Records → Records → Type 0
Settles t fate r r' = (h : Accesses) → RecordsStandFor h r → IsUndecided t h.writes → RecordsStandFor (record h { writes = decided t fate h.writes }) r'

decided_at : (s : State) (xid : Triple) (t : ℕ) (fate : Fate) (r r' : Records) → IsSound s → (x : IsHere s xid) → t ≡ timestamp_in s xid → RecordsStandFor (history_of s) r → Settles t fate r r'
    → RecordsStandFor (record { low = low_of s; writes = decided x.branch.timestamp fate (writes_in s.branches); reads = map read_as s.reads }) r'
decided_at s xid t fate r r' sound x time st settles =
    let b = x.branch in
    let is : t ≡ b.timestamp = time ∙ ap timestamp_by x.at in
    let undecided : IsUndecided b.timestamp (writes_in s.branches) = (at_work xid b (timestamp_of s.boot s.given + 1) s.branches sound.descends x.at x.undecided).all_undecided in
    let here : IsUndecided t (writes_in s.branches) = subst (λ (u : ℕ). IsUndecided u (writes_in s.branches)) (sym is) undecided in
    subst (λ (u : ℕ). RecordsStandFor (record { low = low_of s; writes = decided u fate (writes_in s.branches); reads = map read_as s.reads }) r') is (settles (history_of s) st here)

pub committed_records : (s : State) (xid : Triple) (t : ℕ) (r r' : Records) → IsSound s → IsSome (known_of s.branches xid) → t ≡ timestamp_in s xid → RecordsStandFor (history_of s) r → Settles t kept r r'
    → RecordsStandFor (history_of (committed s xid)) r'
committed_records s xid t r r' sound here time st settles =
    let x = here_by s xid (known_of s.branches xid) refl here in
    let e = committed_writes xid x.branch (timestamp_of s.boot s.given + 1) s.branches sound.descends x.at in
    low_rises (record { low = low_of s; writes = writes_in (committed s xid).branches; reads = map read_as s.reads }) r' (low_of (committed s xid))
    (subst (λ (ws : List Written). RecordsStandFor (record { low = low_of s; writes = ws; reads = map read_as s.reads }) r') e (decided_at s xid t kept r r' sound x time st settles))
    (rises_with s (committed s xid) (committed_floor s xid) (committed_water s xid sound))

pub gone_records : (s : State) (xid : Triple) (t : ℕ) (r r' : Records) → IsSound s → IsSome (known_of s.branches xid) → t ≡ timestamp_in s xid → RecordsStandFor (history_of s) r → Settles t gone r r'
    → RecordsStandFor (history_of (rolled_back s xid)) r'
gone_records s xid t r r' sound here time st settles =
    let x = here_by s xid (known_of s.branches xid) refl here in
    low_rises (record { low = low_of s; writes = writes_in (rolled_back s xid).branches; reads = map read_as s.reads }) r' (low_of (rolled_back s xid))
    (stands_same (low_of s) (decided x.branch.timestamp gone (writes_in s.branches)) (writes_in (without (is_known_as xid) s.branches)) (map read_as s.reads) r'
    (gone_writes xid x.branch (timestamp_of s.boot s.given + 1) s.branches sound.descends x.at) (decided_at s xid t gone r r' sound x time st settles))
    (rises_with s (rolled_back s xid) (rolled_back_floor s xid) (rolled_back_water s xid sound))

-- where the log ends says nothing of branches
pub moved_end : (m : Branches) (s : State) (end : ℕ) → BranchesStandFor m s → BranchesStandFor m (ending s end)
moved_end m s end st = stands_elsewhere m s (ending s end) refl refl refl refl refl refl st

pub moved_rooms : (xids : List Triple) (m : Branches) (s : State) (end : ℕ) → HaveRooms xids m s → HaveRooms xids m (ending s end)
moved_rooms xids m s end st = record { stand = moved_end m s end st.stand; rooms = st.rooms }

-- all rooms were taken, or given back
pub without_rooms : (m : View) (s : State) → StandsWithRooms [] m s → StandsFor m s
without_rooms m s st = record {
  name = st.name;
  log_bytes = st.log_bytes;
  up = st.up;
  sessions = st.sessions;
  branches = no_rooms_left m.branches s st.branches;
  records = st.records;
  recoverable = st.recoverable;
}

-- tables stand for the same where branches have their rooms

pub with_rooms : (xids : List Triple) (m : View) (s : State) → AreRooms xids (rooms_of m.branches) → StandsFor m s → StandsWithRooms xids m s
with_rooms xids m s rooms st = record {
  name = st.name;
  log_bytes = st.log_bytes;
  up = st.up;
  sessions = st.sessions;
  branches = record { stand = st.branches; rooms = rooms };
  records = st.records;
  recoverable = st.recoverable;
}

pub beside_rooms : (xids : List Triple) (m : View) (s : State) → StandsWithRooms xids m s → StandsFor m s
beside_rooms xids m s st = record {
  name = st.name;
  log_bytes = st.log_bytes;
  up = st.up;
  sessions = st.sessions;
  branches = st.branches.stand;
  records = st.records;
  recoverable = st.recoverable;
}

-- the branches alone changed, to where these have their rooms
pub other_rooms : (xids others : List Triple) (m : View) (b : Branches) (s : State) → HaveRooms others b s → StandsWithRooms xids m s → StandsWithRooms others (record m { branches = b }) s
other_rooms xids others m b s branches st = record {
  name = st.name;
  log_bytes = st.log_bytes;
  up = st.up;
  sessions = st.sessions;
  branches = branches;
  records = st.records;
  recoverable = st.recoverable;
}

-- The operator completes a prepared branch.

named_phase : (xid : Triple) (s : State) (o : Option Branch) → known_of s.branches xid ≡ o → known_among o (decided_of s.decided xid) ≡ InDoubt → IsSome (known_of s.branches xid)
named_phase xid s (Some b) e h = rw e refl
named_phase xid s None e h = absurd (undecided_by (decided_of s.decided xid) h)
  where
    undecided_by : (o : Option Direction) → or_completed o ≡ InDoubt → ⊥
    undecided_by None h = cc h
    undecided_by (Some direction) h = cc h

-- what is in doubt is known
pub doubtful_known : (s : State) (xid : Triple) → known_as s xid ≡ InDoubt → IsSome (known_of s.branches xid)
doubtful_known s xid h = named_phase xid s (known_of s.branches xid) refl h

-- the branches and the records follow to another state, wherever the log ends then
pub settled_stands : (m : View) (b : Branches) (r : Records) (s t : State) (end : ℕ) → t.name ≡ s.name → t.log_bytes ≡ s.log_bytes → t.standing ≡ s.standing → t.sessions ≡ s.sessions → t.associations ≡ s.associations
    → StandsFor m s → BranchesStandFor b t → RecordsStandFor (history_of t) r → IsRecoverable (ending t end) → StandsFor (record m { branches = b; records = r }) (ending t end)
settled_stands m b r s t end name bytes standing sessions associations st branches records recoverable = record {
  name = st.name ∙ sym name;
  log_bytes = st.log_bytes ∙ sym bytes;
  up = standing ∙ st.up;
  sessions = unmoved m.sessions s (ending t end) sessions associations st.sessions;
  branches = moved_end b t end branches;
  records = records;
  recoverable = recoverable;
}

pub decided_stands : (m : View) (b : Branches) (r : Records) (s : State) (xid : Triple) (direction : Direction) (end t : ℕ) → StandsFor m s → known_as s xid ≡ InDoubt → t ≡ timestamp_in s xid
    → BranchesStandFor b (decided_by s direction xid) → Settles t (direction_fate direction) m.records r → IsRecoverable (ending (decided_by s direction xid) end)
    → StandsFor (record m { branches = b; records = r }) (ending (decided_by s direction xid) end)
decided_stands m b r s xid Commit end t st doubt time branches settles =
    settled_stands m b r s (decided_by s Commit xid) end refl refl refl refl refl st branches (committed_records s xid t m.records r st.recoverable.sound (doubtful_known s xid doubt) time st.records settles)
decided_stands m b r s xid Rollback end t st doubt time branches settles =
    settled_stands m b r s (decided_by s Rollback xid) end refl refl refl refl refl st branches (gone_records s xid t m.records r st.recoverable.sound (doubtful_known s xid doubt) time st.records settles)
