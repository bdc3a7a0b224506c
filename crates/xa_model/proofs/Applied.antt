-- What a record does to a state that may log it: the state stays sound, and what would last is what the record comes to.
use Rattle.std.proofs.Common.{◌≡◌, ℕ, ◌+◌, ◌<◌, true, false, List, [], ◌∷◌, ◌++◌, Option, Some, None, refl, ap, sym, ◌∙◌, subst, arith, rules}
use Rattle.std.specs.Prelude.{find, nat_lt}
use Rattle.std.specs.List.{AllByRecursion}
use Rattle.std.proofs.lemmas.Bool.Decides.{nat_tests}
use Rattle.std.proofs.lemmas.List.{append-nil}
use Rattle.xa_codes.specs.declared.direction.Direction.{Direction}
use Rattle.xa_codes.specs.declared.direction.Direction.TheVariants as direction
use Rattle.xa_codes.specs.declared.write.Write.{Write}
use Rattle.xa_xid.specs.Triple.{Triple, xid_eq}
use Rattle.xa_xid.proofs.Same.{xid_same}
use Rattle.xa_model.specs.State.{State, Branch, Phase, Working, Prepared, Committed, InDoubt, Decided, known_as, known_among, known_by, known_of, decided_of, or_completed, is_known_as, is_with, name_of, change, without, timestamp_of, is_working, is_at_work}
use Rattle.xa_model.specs.Phases.{as_prepared, as_committed, prepared, committed, completed, rolled_back}
use Rattle.xa_model.specs.Invariants.Sound.{IsSound, Descends}
use Rattle.xa_model.specs.Durable.{Durable, CommittedBranch, PreparedBranch, Pairwise, insert, commits_before, prepares_before, committed_part, prepared_part, durable, last_writes, writes_of, by_name}
use Rattle.xa_model.specs.Fold.{prepare, commit_writes, complete, prepared_as}
use Rattle.xa_model.specs.Invariants.MayLog.{IsIdle}
use Rattle.xa_model.proofs.Lists.{found_passes}
use Rattle.xa_model.proofs.Order.{descends_below}
use Rattle.xa_model.proofs.Commits.{commit_last}
use Rattle.xa_model.proofs.Splits.{IsSplit, split, uncounted, parts, parts_append, parts_none, parts_some, parts_all, insert_between, find_mid, without_mid, pairwise_last}

-- what is made of a branch
abbrev pub committed_of : Branch → Option CommittedBranch
committed_of b = committed_part b.timestamp (writes_of b.operations) b.phase

abbrev pub prepared_of : Branch → Option PreparedBranch
prepared_of b = prepared_part b.timestamp (writes_of b.operations) b.phase

-- and has its timestamp
pub committed_time : (b : Branch) (p : Phase) (c : CommittedBranch) → committed_part b.timestamp (writes_of b.operations) p ≡ Some c → c.timestamp ≡ b.timestamp
committed_time b (Working x work) c e = absurd (cc e)
committed_time b (Prepared x) c e = absurd (cc e)
committed_time b Committed c e = let same : record { timestamp = b.timestamp; writes = writes_of b.operations } ≡ c = cc e in ap (λ (d : CommittedBranch). d.timestamp) (sym same)

pub prepared_time : (b : Branch) (p : Phase) (c : PreparedBranch) → prepared_part b.timestamp (writes_of b.operations) p ≡ Some c → c.timestamp ≡ b.timestamp
prepared_time b (Working x work) c e = absurd (cc e)
prepared_time b Committed c e = absurd (cc e)
prepared_time b (Prepared x) c e = let same : record { xid = x; timestamp = b.timestamp; writes = writes_of b.operations } ≡ c = cc e in ap (λ (d : PreparedBranch). d.timestamp) (sym same)

-- Branches before and after one

front_above : (limit : ℕ) (front : List Branch) (b : Branch) (back : List Branch) → Descends limit (front ++ b ∷ back) → b.timestamp < limit
front_above limit [] b back h = h.1
front_above limit (c ∷ front) b back h = let less : b.timestamp < c.timestamp = front_above c.timestamp front b back h.2 in omega (arith, less, h.1)

before_all : (limit : ℕ) (front : List Branch) (b : Branch) (back : List Branch) → Descends limit (front ++ b ∷ back) → AllByRecursion (λ (c : Branch). b.timestamp < c.timestamp) front
before_all limit [] b back h = tt
before_all limit (c ∷ front) b back h = (front_above c.timestamp front b back h.2, before_all c.timestamp front b back h.2)

pub below_all : (limit : ℕ) (bs : List Branch) → Descends limit bs → AllByRecursion (λ (c : Branch). c.timestamp < limit) bs
below_all limit [] h = tt
below_all limit (b ∷ bs) h = (h.1, below_all limit bs (descends_below b.timestamp limit bs (omega (arith, h.1)) h.2))

behind_all : (limit : ℕ) (front : List Branch) (b : Branch) (back : List Branch) → Descends limit (front ++ b ∷ back) → AllByRecursion (λ (c : Branch). c.timestamp < b.timestamp) back
behind_all limit [] b back h = below_all b.timestamp back h.2
behind_all limit (c ∷ front) b back h = behind_all c.timestamp front b back h.2

less_is : (t u : ℕ) → t < u → nat_lt t u ≡ true
less_is t u h = grind (arith, nat_tests)

more_not : (t u : ℕ) → u < t → nat_lt t u ≡ false
more_not t u h = grind (arith, nat_tests)

-- committed ones ascend
ascend_by : (b : Branch) (bs : List Branch) (o : Option CommittedBranch) → committed_of b ≡ o → AllByRecursion (λ (c : Branch). c.timestamp < b.timestamp) bs
    → Pairwise commits_before (parts committed_of bs) → Pairwise commits_before (parts committed_of (b ∷ bs))
ascend_by b bs None e all rest = subst (Pairwise commits_before) (sym (parts_none committed_of [] b bs e ∙ append-nil (parts committed_of bs))) rest
ascend_by b bs (Some c) e all rest =
    let less : AllByRecursion (λ (d : CommittedBranch). commits_before d c ≡ true) (parts committed_of bs) =
    parts_all (λ (d : Branch). d.timestamp < b.timestamp) (λ (d : CommittedBranch). commits_before d c ≡ true) committed_of
    (λ x y made below. let same = committed_time x x.phase y made in let here = committed_time b b.phase c e in less_is y.timestamp c.timestamp (omega (arith, same, here, below))) bs all in
    subst (Pairwise commits_before) (sym (parts_some committed_of [] b bs c e)) (pairwise_last commits_before (parts committed_of bs) c rest less)

pub commits_ascend : (limit : ℕ) (bs : List Branch) → Descends limit bs → Pairwise commits_before (parts committed_of bs)
commits_ascend limit [] h = tt
commits_ascend limit (b ∷ bs) h = ascend_by b bs (committed_of b) refl (below_all b.timestamp bs h.2) (commits_ascend b.timestamp bs h.2)

-- One branch of a state

-- the known branch, with those around it
pub record IsAmong (s : State) (xid : Triple) (b : Branch) : Type 0 where
  pub here : IsSplit (is_known_as xid) b s.branches
  pub above : AllByRecursion (λ (c : Branch). b.timestamp < c.timestamp) here.front
  pub below : AllByRecursion (λ (c : Branch). c.timestamp < b.timestamp) here.back
  pub alone : AllByRecursion (λ (c : Branch). is_known_as xid c ≡ false) here.back

pub among : (s : State) (xid : Triple) (b : Branch) → IsSound s → known_of s.branches xid ≡ Some b → IsAmong s xid b
among s xid b h found =
    let here = split (is_known_as xid) b s.branches found in
    let order : Descends (timestamp_of s.boot s.given + 1) (here.front ++ b ∷ here.back) = subst (Descends (timestamp_of s.boot s.given + 1)) here.whole h.descends in
    record {
      here = here;
      above = before_all (timestamp_of s.boot s.given + 1) here.front b here.back order;
      below = behind_all (timestamp_of s.boot s.given + 1) here.front b here.back order;
      alone = uncounted (is_known_as xid) here.back (omega (arith, here.counted, h.distinct xid));
    }

-- what a branch is made into takes its place
part_place : {P : Type 0} (time : P → ℕ) (part_of : Branch → Option P) → ((x : Branch) (y : P) → part_of x ≡ Some y → time y ≡ x.timestamp)
    → (s : State) (xid : Triple) (b : Branch) (k : IsAmong s xid b) (c : P) → time c ≡ b.timestamp
    → insert (λ x y. nat_lt (time x) (time y)) c (parts part_of k.here.back ++ parts part_of k.here.front) ≡ parts part_of k.here.back ++ c ∷ parts part_of k.here.front
part_place {P} time part_of timed s xid b k c same =
    insert_between (λ x y. nat_lt (time x) (time y)) c (parts part_of k.here.back) (parts part_of k.here.front)
    (parts_all (λ (d : Branch). d.timestamp < b.timestamp) (λ (d : P). nat_lt (time d) (time c) ≡ true) part_of
    (λ x y made below. let as_made = timed x y made in less_is (time y) (time c) (omega (arith, as_made, same, below))) k.here.back k.below)
    (parts_all (λ (d : Branch). b.timestamp < d.timestamp) (λ (d : P). nat_lt (time d) (time c) ≡ false) part_of
    (λ x y made above. let as_made = timed x y made in more_not (time y) (time c) (omega (arith, as_made, same, above))) k.here.front k.above)

committed_place : (s : State) (xid : Triple) (b : Branch) (k : IsAmong s xid b) (c : CommittedBranch) → c.timestamp ≡ b.timestamp
    → insert commits_before c (parts committed_of k.here.back ++ parts committed_of k.here.front) ≡ parts committed_of k.here.back ++ c ∷ parts committed_of k.here.front
committed_place s xid b k c same = part_place (λ (d : CommittedBranch). d.timestamp) committed_of (λ x y made. committed_time x x.phase y made) s xid b k c same

prepared_place : (s : State) (xid : Triple) (b : Branch) (k : IsAmong s xid b) (c : PreparedBranch) → c.timestamp ≡ b.timestamp
    → insert prepares_before c (parts prepared_of k.here.back ++ parts prepared_of k.here.front) ≡ parts prepared_of k.here.back ++ c ∷ parts prepared_of k.here.front
prepared_place s xid b k c same = part_place (λ (d : PreparedBranch). d.timestamp) prepared_of (λ x y made. prepared_time x x.phase y made) s xid b k c same

-- one more is committed, of whom nothing was
committed_more : (s : State) (xid : Triple) (b : Branch) → IsSound s → (k : IsAmong s xid b) → committed_of b ≡ None
    → last_writes (parts committed_of (change (is_known_as xid) as_committed s.branches))
    ≡ last_writes (insert commits_before (record { timestamp = b.timestamp; writes = writes_of b.operations }) (last_writes (parts committed_of s.branches)))
committed_more s xid b h k none =
    let c : CommittedBranch = record { timestamp = b.timestamp; writes = writes_of b.operations } in
    let xs = parts committed_of k.here.back in
    let zs = parts committed_of k.here.front in
    let now : parts committed_of (change (is_known_as xid) as_committed s.branches) ≡ xs ++ c ∷ zs =
    ap (parts committed_of) (k.here.changed as_committed) ∙ parts_some committed_of k.here.front (as_committed b) k.here.back c refl in
    let before : parts committed_of s.branches ≡ xs ++ zs = ap (parts committed_of) k.here.whole ∙ parts_none committed_of k.here.front b k.here.back none in
    let placed : insert commits_before c (parts committed_of s.branches) ≡ xs ++ c ∷ zs = ap (insert commits_before c) before ∙ committed_place s xid b k c refl in
    ap last_writes (now ∙ sym placed) ∙ sym (commit_last c (parts committed_of s.branches) (commits_ascend (timestamp_of s.boot s.given + 1) s.branches h.descends))

-- and what isn't made of a branch before nor after its change
unchanged : {B : Type 0} (m : Branch → Option B) (f : Branch → Branch) (s : State) (xid : Triple) (b : Branch) (k : IsAmong s xid b) → m b ≡ None → m (f b) ≡ None
    → parts m (change (is_known_as xid) f s.branches) ≡ parts m s.branches
unchanged m f s xid b k none still =
    ap (parts m) (k.here.changed f) ∙ parts_none m k.here.front (f b) k.here.back still
    ∙ sym (ap (parts m) k.here.whole ∙ parts_none m k.here.front b k.here.back none)

ungone : {B : Type 0} (m : Branch → Option B) (s : State) (xid : Triple) (b : Branch) (k : IsAmong s xid b) → m b ≡ None → parts m (without (is_known_as xid) s.branches) ≡ parts m s.branches
ungone m s xid b k none =
    ap (parts m) k.here.left ∙ parts_append m k.here.front k.here.back
    ∙ sym (ap (parts m) k.here.whole ∙ parts_none m k.here.front b k.here.back none)

-- what was made of the branch is gone
left_out : {B : Type 0} (m : Branch → Option B) (f : Branch → Branch) (s : State) (xid : Triple) (b : Branch) (k : IsAmong s xid b) → m (f b) ≡ None
    → parts m (change (is_known_as xid) f s.branches) ≡ parts m k.here.back ++ parts m k.here.front
left_out m f s xid b k still = ap (parts m) (k.here.changed f) ∙ parts_none m k.here.front (f b) k.here.back still

-- Durables

abbrev durable_of : ℕ → List CommittedBranch → List PreparedBranch → List Decided → Durable
durable_of boot cs ps ds = record { boot = boot; committed = cs; prepared = ps; decided = ds }

pub same_durable : (boot : ℕ) (cs es : List CommittedBranch) (ps qs : List PreparedBranch) (ds : List Decided) → cs ≡ es → ps ≡ qs
    → durable_of boot cs ps ds ≡ durable_of boot es qs ds
same_durable boot cs es ps qs ds e f = rw (e, f) refl

-- a branch at work: nothing of it lasts

pub record IsWork (b : Branch) (xid : Triple) : Type 0 where
  pub uncommitted : committed_of b ≡ None
  pub unprepared : prepared_of b ≡ None
  pub prepares : prepared_of (as_prepared b) ≡ Some (record { xid = xid; timestamp = b.timestamp; writes = writes_of b.operations })
  pub stays : committed_of (as_prepared b) ≡ None

work_by : (t : ℕ) (ops : List _) (p : Phase) (xid : Triple) → is_with xid (name_of p) ≡ true → is_working p ≡ true → IsWork (record { timestamp = t; operations = ops; phase = p }) xid
work_by t ops (Working x work) xid named works =
    let same : x ≡ xid = xid_same x xid named in
    record { uncommitted = refl; unprepared = refl; prepares = ap (λ (y : Triple). Some (record { xid = y; timestamp = t; writes = writes_of ops })) same; stays = refl }
work_by t ops (Prepared x) xid named works = absurd (cc works)
work_by t ops Committed xid named works = absurd (cc works)

-- the idle branch
pub record IsIdleBranch (s : State) (xid : Triple) (t : ℕ) (ws : List Write) : Type 0 where
  pub branch : Branch
  pub found : known_of s.branches xid ≡ Some branch
  pub work : IsWork branch xid
  pub time : branch.timestamp ≡ t
  pub wrote : writes_of branch.operations ≡ ws

idle_by : (s : State) (xid : Triple) (t : ℕ) (ws : List Write) (o : Option Branch) → known_of s.branches xid ≡ o → IsIdle s xid t ws → IsIdleBranch s xid t ws
idle_by s xid t ws None found h = let no : false ≡ true = simp found at h.working in absurd (cc no)
idle_by s xid t ws (Some b) found h = record {
  branch = b;
  found = found;
  work = work_by b.timestamp b.operations b.phase xid (found_passes (is_known_as xid) b s.branches found) (let works : is_at_work (known_of s.branches xid) ≡ true = h.working in simp found at works);
  time = let same : _ ≡ t = h.timestamp in simp found at same;
  wrote = let same : _ ≡ ws = h.writes in simp found at same;
}

pub idle_branch : (s : State) (xid : Triple) (t : ℕ) (ws : List Write) → IsIdle s xid t ws → IsIdleBranch s xid t ws
idle_branch s xid t ws h = idle_by s xid t ws (known_of s.branches xid) refl h

prepared_as_is : (s : State) (xid : Triple) (b : Branch) → IsSound s → known_of s.branches xid ≡ Some b → IsWork b xid → durable (prepared s xid) ≡ prepare xid b.timestamp (writes_of b.operations) (durable s)
prepared_as_is s xid b h found work =
    let k = among s xid b h found in
    let p : PreparedBranch = record { xid = xid; timestamp = b.timestamp; writes = writes_of b.operations } in
    let xs = parts prepared_of k.here.back in
    let zs = parts prepared_of k.here.front in
    let now : parts prepared_of (change (is_known_as xid) as_prepared s.branches) ≡ xs ++ p ∷ zs =
    ap (parts prepared_of) (k.here.changed as_prepared) ∙ parts_some prepared_of k.here.front (as_prepared b) k.here.back p work.prepares in
    let before : parts prepared_of s.branches ≡ xs ++ zs = ap (parts prepared_of) k.here.whole ∙ parts_none prepared_of k.here.front b k.here.back work.unprepared in
    let placed : insert prepares_before p (parts prepared_of s.branches) ≡ xs ++ p ∷ zs = ap (insert prepares_before p) before ∙ prepared_place s xid b k p refl in
    same_durable s.logged_boot (last_writes (parts committed_of (change (is_known_as xid) as_prepared s.branches))) (last_writes (parts committed_of s.branches))
    (parts prepared_of (change (is_known_as xid) as_prepared s.branches)) (insert prepares_before p (parts prepared_of s.branches)) (by_name s.decided)
    (ap last_writes (unchanged committed_of as_prepared s xid b k work.uncommitted work.stays)) (now ∙ sym placed)

pub prepared_lasts : (s : State) (xid : Triple) (t : ℕ) (ws : List Write) → IsSound s → IsIdle s xid t ws → durable (prepared s xid) ≡ prepare xid t ws (durable s)
prepared_lasts s xid t ws h idle =
    let i = idle_branch s xid t ws idle in
    prepared_as_is s xid i.branch h i.found i.work ∙ ap (λ (u : ℕ). prepare xid u (writes_of i.branch.operations) (durable s)) i.time ∙ ap (λ (vs : List Write). prepare xid t vs (durable s)) i.wrote

committed_as_is : (s : State) (xid : Triple) (b : Branch) → IsSound s → known_of s.branches xid ≡ Some b → IsWork b xid → durable (committed s xid) ≡ commit_writes b.timestamp (writes_of b.operations) (durable s)
committed_as_is s xid b h found work =
    let k = among s xid b h found in
    same_durable s.logged_boot (last_writes (parts committed_of (change (is_known_as xid) as_committed s.branches)))
    (last_writes (insert commits_before (record { timestamp = b.timestamp; writes = writes_of b.operations }) (last_writes (parts committed_of s.branches))))
    (parts prepared_of (change (is_known_as xid) as_committed s.branches)) (parts prepared_of s.branches) (by_name s.decided)
    (committed_more s xid b h k work.uncommitted) (unchanged prepared_of as_committed s xid b k work.unprepared refl)

pub committed_lasts : (s : State) (xid : Triple) (t : ℕ) (ws : List Write) → IsSound s → IsIdle s xid t ws → durable (committed s xid) ≡ commit_writes t ws (durable s)
committed_lasts s xid t ws h idle =
    let i = idle_branch s xid t ws idle in
    committed_as_is s xid i.branch h i.found i.work ∙ ap (λ (u : ℕ). commit_writes u (writes_of i.branch.operations) (durable s)) i.time ∙ ap (λ (vs : List Write). commit_writes t vs (durable s)) i.wrote

-- a branch at work that is rolled back
pub rolled_back_lasts : (s : State) (xid : Triple) (t : ℕ) (ws : List Write) → IsSound s → IsIdle s xid t ws → durable (rolled_back s xid) ≡ durable s
rolled_back_lasts s xid t ws h idle =
    let i = idle_branch s xid t ws idle in
    let k = among s xid i.branch h i.found in
    same_durable s.logged_boot (last_writes (parts committed_of (without (is_known_as xid) s.branches))) (last_writes (parts committed_of s.branches))
    (parts prepared_of (without (is_known_as xid) s.branches)) (parts prepared_of s.branches) (by_name s.decided)
    (ap last_writes (ungone committed_of s xid i.branch k i.work.uncommitted)) (ungone prepared_of s xid i.branch k i.work.unprepared)

-- a branch in doubt

pub doubt_by : (b : Branch) (p : Phase) (xid : Triple) → b.phase ≡ p → is_with xid (name_of b.phase) ≡ true → known_by b.phase ≡ InDoubt
    → (committed_of b ≡ None) × (prepared_of b ≡ Some (record { xid = xid; timestamp = b.timestamp; writes = writes_of b.operations }))
doubt_by b (Working x work) xid e named doubt = let no : known_by (Working x work) ≡ InDoubt = simp e at doubt in absurd (cc no)
doubt_by b Committed xid e named doubt = let no : known_by Committed ≡ InDoubt = simp e at doubt in absurd (cc no)
doubt_by b (Prepared x) xid e named doubt =
    let test : is_with xid (name_of (Prepared x)) ≡ true = subst (λ (p : Phase). is_with xid (name_of p) ≡ true) e named in
    let same : x ≡ xid = xid_same x xid test in (
      ap (committed_part b.timestamp (writes_of b.operations)) e,
      ap (prepared_part b.timestamp (writes_of b.operations)) e ∙ ap (λ (y : Triple). Some (record { xid = y; timestamp = b.timestamp; writes = writes_of b.operations })) same,
    )

-- who isn't known by an XID isn't prepared under it
pub unnamed_by : (xid : Triple) (b : Branch) (p : Phase) (q : PreparedBranch) → prepared_part b.timestamp (writes_of b.operations) p ≡ Some q → is_with xid (name_of p) ≡ false → prepared_as xid q ≡ false
unnamed_by xid b (Working x work) q made other = absurd (cc made)
unnamed_by xid b Committed q made other = absurd (cc made)
unnamed_by xid b (Prepared x) q made other =
    let same : record { xid = x; timestamp = b.timestamp; writes = writes_of b.operations } ≡ q = cc made in subst (λ (r : PreparedBranch). prepared_as xid r ≡ false) same other

known_same : (x : Triple) → xid_eq x x ≡ true
known_same x = search rules depth 6

pub record IsDoubt (s : State) (xid : Triple) (b : Branch) (k : IsAmong s xid b) : Type 0 where
  pub found : find (prepared_as xid) (parts prepared_of s.branches) ≡ Some (record { xid = xid; timestamp = b.timestamp; writes = writes_of b.operations })
  pub left : without (prepared_as xid) (parts prepared_of s.branches) ≡ parts prepared_of k.here.back ++ parts prepared_of k.here.front

pub doubted : (s : State) (xid : Triple) (b : Branch) (k : IsAmong s xid b) → prepared_of b ≡ Some (record { xid = xid; timestamp = b.timestamp; writes = writes_of b.operations }) → IsDoubt s xid b k
doubted s xid b k made =
    let p : PreparedBranch = record { xid = xid; timestamp = b.timestamp; writes = writes_of b.operations } in
    let xs = parts prepared_of k.here.back in
    let zs = parts prepared_of k.here.front in
    let before : parts prepared_of s.branches ≡ xs ++ p ∷ zs = ap (parts prepared_of) k.here.whole ∙ parts_some prepared_of k.here.front b k.here.back p made in
    let none : AllByRecursion (λ q. prepared_as xid q ≡ false) xs =
    parts_all (λ (c : Branch). is_known_as xid c ≡ false) (λ q. prepared_as xid q ≡ false) prepared_of (λ x y e other. unnamed_by xid x x.phase y e other) k.here.back k.alone in
    record {
      found = ap (find (prepared_as xid)) before ∙ find_mid (prepared_as xid) xs p zs none (known_same xid);
      left = ap (without (prepared_as xid)) before ∙ without_mid (prepared_as xid) xs p zs none (known_same xid);
    }

completed_as_is : (s : State) (direction : Direction) (xid : Triple) (b : Branch) → IsSound s → known_of s.branches xid ≡ Some b → known_by b.phase ≡ InDoubt
    → durable (completed s direction xid) ≡ complete xid direction (durable s)
completed_as_is s direction.Commit xid b h found doubt =
    let k = among s xid b h found in
    let made = doubt_by b b.phase xid refl (found_passes (is_known_as xid) b s.branches found) doubt in
    let d = doubted s xid b k made.1 in
    let c : CommittedBranch = record { timestamp = b.timestamp; writes = writes_of b.operations } in
    rw d.found (same_durable s.logged_boot (last_writes (parts committed_of (change (is_known_as xid) as_committed s.branches)))
    (last_writes (insert commits_before c (last_writes (parts committed_of s.branches))))
    (parts prepared_of (change (is_known_as xid) as_committed s.branches)) (without (prepared_as xid) (parts prepared_of s.branches)) (by_name s.decided)
    (committed_more s xid b h k made.0) (left_out prepared_of as_committed s xid b k refl ∙ sym d.left))
completed_as_is s direction.Rollback xid b h found doubt =
    let k = among s xid b h found in
    let made = doubt_by b b.phase xid refl (found_passes (is_known_as xid) b s.branches found) doubt in
    let d = doubted s xid b k made.1 in
    same_durable s.logged_boot (last_writes (parts committed_of (without (is_known_as xid) s.branches))) (last_writes (parts committed_of s.branches))
    (parts prepared_of (without (is_known_as xid) s.branches)) (without (prepared_as xid) (parts prepared_of s.branches)) (by_name s.decided)
    (ap last_writes (ungone committed_of s xid b k made.0)) (ap (parts prepared_of) k.here.left ∙ parts_append prepared_of k.here.front k.here.back ∙ sym d.left)

no_doubt : (o : Option Direction) → or_completed o ≡ InDoubt → ⊥
no_doubt None e = cc e
no_doubt (Some direction) e = cc e

completed_by : (s : State) (direction : Direction) (xid : Triple) (o : Option Branch) → IsSound s → known_of s.branches xid ≡ o → known_among o (decided_of s.decided xid) ≡ InDoubt
    → durable (completed s direction xid) ≡ complete xid direction (durable s)
completed_by s direction xid None h found doubt = absurd (no_doubt (decided_of s.decided xid) doubt)
completed_by s direction xid (Some b) h found doubt = completed_as_is s direction xid b h found doubt

pub completed_lasts : (s : State) (direction : Direction) (xid : Triple) → IsSound s → known_as s xid ≡ InDoubt → durable (completed s direction xid) ≡ complete xid direction (durable s)
completed_lasts s direction xid h doubt = completed_by s direction xid (known_of s.branches xid) h refl doubt
