-- Known branches that stand for a state, after a branch is committed or rolled back.
use Rattle.std.proofs.Common.{◌≡◌, ℕ, ◌+◌, ◌-◌, ◌≤◌, ◌==◌, Bool, true, false, cond, Option, Some, None, List, refl, ap, sym, ◌∙◌, subst, arith}
use Rattle.std.specs.Prelude.{is_some, option_map, option_and_then}
use Rattle.std.specs.BTreeMap.{BTreeMap, get}
use Rattle.std.specs.BTreeSet.{BTreeSet}
use Rattle.std.specs.List.{list_any}
use Rattle.xa_xid.specs.Triple.{Triple, xid_cmp, xid_eq}
use Rattle.xa_xid.proofs.Same.{xid_same}
use Rattle.xa_model.specs.State.{State, Branch, count, name_of, is_known_as, known_of, known_count, decided_of, timestamp_of, without, change}
use Rattle.xa_model.specs.Logging.{is_in_doubt}
use Rattle.xa_model.specs.Phases.{rolled_back, committed, as_committed}
use Rattle.xa_model.specs.Invariants.LowWater.{is_known_at}
use Rattle.xa_model.specs.Invariants.Sound.{IsSound}
use Rattle.xa_model.proofs.Counts.{found_none}
use Rattle.xa_model.proofs.Finds.{find_without}
use Rattle.xa_model.proofs.Leaving.{count_left, count_turned, any_counts, found_any, without_none, change_none}
use Rattle.xa_model.proofs.Lists.{find_change_other}
use Rattle.xa_model.proofs.Names.{called_apart}
use Rattle.xa_model.proofs.Xids.{cmp_is_eq}
use Rattle.xa_branch.specs.declared.branches.Branches.{Branches}
use Rattle.xa_branch.specs.declared.lasting.Lasting.{Lasting}
use Rattle.xa_branch.specs.declared.lasting.Lasting.TheVariants as lasts
use Rattle.xa_branch.specs.declared.working.Working.{Working as Kept}
use Rattle.xa_branch.proofs.Rooms.{left_look as no_more, set_look}
use Rattle.xa_branch.specs.Branches.{BranchesStandFor, working_at, working_in, lasting_at, lasting_among, timed_at, prepared_among}
use Rattle.xa_branch.specs.Changes.{Sets, SetsTime}
use Rattle.xa_branch.proofs.Beginning.{named as is_named}
use Rattle.xa_branch.proofs.Finding.{found_left, found_turned}
use Rattle.xa_branch.specs.Due.{due_of, due_in, due_named, work_of, LosesDue}
use Rattle.xa_branch.proofs.Dues.{lost_stands, stayed_due, working_due, unworking_due}
use Rattle.xa_branch.proofs.Looks.{Seen, Nowhere, There, Doubtful, Done, seen_at, works_at}
use Rattle.xa_branch.proofs.Setting.{none_at}
use Rattle.xa_branch.proofs.Timed.{times_left, times_committed}

-- what the other branches are, where one of them leaves its name
pub record Leaves (xid : Triple) (bs after : List Branch) (b : Branch) : Type 0 where
  pub here : known_of after xid ≡ None
  pub others : (q : Triple) → xid_eq xid q ≡ false → known_of after q ≡ known_of bs q
  pub known : known_count after + 1 ≡ known_count bs
  pub prepared : prepared_among after + cond (is_in_doubt b.phase) 1 0 ≡ prepared_among bs
  pub times : (t : ℕ) → is_known_at t after ≡ cond (b.timestamp == t) false (is_known_at t bs)

alone : (s : State) (xid : Triple) → IsSound s → count (is_known_as xid) s.branches ≤ 1
alone s xid h = omega (arith, h.distinct xid)

pub rolled_leaves : (s : State) (xid : Triple) (b : Branch) → IsSound s → known_of s.branches xid ≡ Some b → Leaves xid s.branches (without (is_known_as xid) s.branches) b
rolled_leaves s xid b h found = record {
  here =
      let any : list_any (is_known_as xid) s.branches ≡ true = found_any (is_known_as xid) b s.branches found in
      let fewer = count_left (is_known_as xid) (is_known_as xid) true (λ x passes. passes) s.branches any in
      found_none (is_known_as xid) (without (is_known_as xid) s.branches) (omega (arith, alone s xid h, fewer));
  others = λ q e. find_without (is_known_as xid) (is_known_as q) (λ x passes. called_apart xid q x e passes) s.branches;
  known =
      let any : list_any (is_known_as xid) s.branches ≡ true = found_any (is_known_as xid) b s.branches found in
      count_left (is_known_as xid) (λ x. is_some (name_of x.phase)) true (is_named xid) s.branches any;
  prepared = found_left (is_known_as xid) (λ x. is_in_doubt x.phase) b s.branches found;
  times = λ t. times_left xid b (timestamp_of s.boot s.given + 1) t s.branches h.descends found;
}

pub committed_leaves : (s : State) (xid : Triple) (b : Branch) → IsSound s → known_of s.branches xid ≡ Some b → Leaves xid s.branches (change (is_known_as xid) as_committed s.branches) b
committed_leaves s xid b h found = record {
  here =
      let any : list_any (is_known_as xid) s.branches ≡ true = found_any (is_known_as xid) b s.branches found in
      let fewer = count_left (is_known_as xid) (is_known_as xid) true (λ x passes. passes) s.branches any in
      let same = count_turned (is_known_as xid) (is_known_as xid) as_committed false (λ x passes. refl) s.branches any in
      found_none (is_known_as xid) (change (is_known_as xid) as_committed s.branches) (omega (arith, alone s xid h, fewer, same));
  others = λ q e. find_change_other (is_known_as xid) (is_known_as q) as_committed (λ x passes. (called_apart xid q x e passes, refl)) s.branches;
  known =
      let any : list_any (is_known_as xid) s.branches ≡ true = found_any (is_known_as xid) b s.branches found in
      let fewer = count_left (is_known_as xid) (λ x. is_some (name_of x.phase)) true (is_named xid) s.branches any in
      let same = count_turned (is_known_as xid) (λ x. is_some (name_of x.phase)) as_committed false (λ x passes. refl) s.branches any in omega (arith, fewer, same);
  prepared = let turned = found_turned (is_known_as xid) (λ x. is_in_doubt x.phase) as_committed b s.branches found in omega (arith, turned);
  times = λ t. times_committed xid t s.branches ∙ times_left xid b (timestamp_of s.boot s.given + 1) t s.branches h.descends found;
}

-- nothing was decided of a branch that is known
pub undecided : (s : State) (xid : Triple) (b : Branch) → IsSound s → known_of s.branches xid ≡ Some b → decided_of s.decided xid ≡ None
undecided s xid b h found =
    let any : list_any (is_known_as xid) s.branches ≡ true = found_any (is_known_as xid) b s.branches found in
    let some : 1 ≤ count (is_known_as xid) s.branches = any_counts (is_known_as xid) s.branches any in
    let none : count (λ d. xid_eq d.xid xid) s.decided ≡ 0 = omega (arith, h.distinct xid) in
    ap (option_map (λ d. d.direction)) (found_none (λ d. xid_eq d.xid xid) s.decided none)

-- what is kept of each XID

pub left_look : (m : Branches) (s : State) (xid q : Triple) (bs : List Branch) (b : Branch) (c : Bool) → xid_eq xid q ≡ c → BranchesStandFor m s → Leaves xid s.branches bs b
    → cond c None (working_at m q) ≡ option_and_then (working_in s.associations q) (known_of bs q)
left_look m s xid q bs b true e st leaves =
    let gone : known_of bs q ≡ None = subst (λ (x : Triple). known_of bs x ≡ None) (xid_same xid q e) leaves.here in rw gone refl
left_look m s xid q bs b false e st leaves = st.working q ∙ sym (ap (option_and_then (working_in s.associations q)) (leaves.others q e))

left_lasting : (m : Branches) (s : State) (xid q : Triple) (bs : List Branch) (b : Branch) (c : Bool) → xid_eq xid q ≡ c → BranchesStandFor m s → Leaves xid s.branches bs b → decided_of s.decided xid ≡ None
    → cond c None (lasting_at m q) ≡ lasting_among (known_of bs q) (decided_of s.decided q)
left_lasting m s xid q bs b true e st leaves none =
    let gone : known_of bs q ≡ None = subst (λ (x : Triple). known_of bs x ≡ None) (xid_same xid q e) leaves.here in
    let nothing : decided_of s.decided q ≡ None = subst (λ (x : Triple). decided_of s.decided x ≡ None) (xid_same xid q e) none in rw (gone, nothing) refl
left_lasting m s xid q bs b false e st leaves none = st.lasting q ∙ sym (ap (λ (o : Option Branch). lasting_among o (decided_of s.decided q)) (leaves.others q e))

pub left_times : (m : Branches) (ts : BTreeSet ℕ) (s : State) (xid : Triple) (bs : List Branch) (b : Branch) (t : ℕ) → BranchesStandFor m s → Leaves xid s.branches bs b → SetsTime m.times t false ts → t ≡ b.timestamp
    → (u : ℕ) → timed_at (record m { times = ts }) u ≡ is_known_at u bs
left_times m ts s xid bs b t st leaves timed same u = timed u ∙ rw (same, st.times u) (sym (leaves.times u))

pub left_named : (xid q : Triple) (bs after : List Branch) (b : Branch) (c : Bool) → xid_eq xid q ≡ c → Leaves xid bs after b → due_named after q ≡ cond c None (due_named bs q)
left_named xid q bs after b true e leaves =
    let gone : known_of after q ≡ None = subst (λ (x : Triple). known_of after x ≡ None) (xid_same xid q e) leaves.here in rw gone refl
left_named xid q bs after b false e leaves = ap (option_and_then due_in) (leaves.others q e)

-- A branch at work leaves

working_left : (m : Branches) (after : BTreeMap Triple Kept) (rooms : BTreeMap Triple Lasting) (ts : BTreeSet ℕ) (due : BTreeSet (ℕ × Triple)) (s : State) (xid : Triple) (bs : List Branch) (b : Branch) (w : Kept) → BranchesStandFor m s → Leaves xid s.branches bs b → working_at m xid ≡ Some w
    → decided_of s.decided xid ≡ None → is_in_doubt b.phase ≡ false → Sets m.working xid None after → Sets m.lasting xid None rooms → SetsTime m.times w.timestamp false ts → w.timestamp ≡ b.timestamp
    → LosesDue m.due xid (due_of (work_of w)) due → BranchesStandFor (record m { working = after; lasting = rooms; times = ts; due = due }) (record s { branches = bs })
working_left m after rooms ts due s xid bs b w st leaves there none plain sets takes timed same loses = record {
  boot = st.boot;
  given = st.given;
  moment = st.moment;
  working = λ q. sets.at q ∙ rw (cmp_is_eq xid q) (left_look m s xid q bs b (xid_eq xid q) refl st leaves);
  times = left_times m ts s xid bs b w.timestamp st leaves timed same;
  due = lost_stands m.due due s.branches bs xid (due_of (work_of w)) st.due (working_due m s xid w (st.working xid) there) loses (λ q. left_named xid q s.branches bs b (xid_eq xid q) refl leaves);
  lasting = λ q.
      rw (sets.at q, takes.at q, cmp_is_eq xid q)
      (no_more (working_at m q) (get xid_cmp m.lasting q) None (xid_eq xid q) ∙ left_lasting m s xid q bs b (xid_eq xid q) refl st leaves none);
  known = let fewer = rw there at sets.number in omega (arith, fewer, leaves.known, st.known);
  prepared = let same = rw plain at leaves.prepared in omega (arith, same, st.prepared);
  completed = st.completed;
}

-- A prepared branch leaves
prepared_left : (m : Branches) (after : BTreeMap Triple Lasting) (ts : BTreeSet ℕ) (n t : ℕ) (s : State) (xid : Triple) (bs : List Branch) (b : Branch) (l : Lasting) → BranchesStandFor m s → Leaves xid s.branches bs b
    → working_at m xid ≡ None → lasting_at m xid ≡ Some l → decided_of s.decided xid ≡ None → is_in_doubt b.phase ≡ true → n ≡ m.prepared - 1 → Sets m.lasting xid None after → SetsTime m.times t false ts → t ≡ b.timestamp
    → BranchesStandFor (record m { lasting = after; times = ts; prepared = n }) (record s { branches = bs })
prepared_left m after ts n t s xid bs b l st leaves nor there none prepared fewer sets timed same = record {
  boot = st.boot;
  given = st.given;
  moment = st.moment;
  working = λ q. none_at (working_at m) xid q (xid_eq xid q) refl nor ∙ left_look m s xid q bs b (xid_eq xid q) refl st leaves;
  times = left_times m ts s xid bs b t st leaves timed same;
  due = stayed_due m.due s.branches bs xid st.due (unworking_due m s xid (st.working xid) nor) (λ q. left_named xid q s.branches bs b (xid_eq xid q) refl leaves);
  lasting = λ q. set_look m after xid None nor sets q ∙ rw (cmp_is_eq xid q) (left_lasting m s xid q bs b (xid_eq xid q) refl st leaves none);
  known = let less = rw prepared at leaves.prepared in omega (arith, less, fewer, leaves.known, st.known, st.prepared);
  prepared = let less = rw prepared at leaves.prepared in omega (arith, less, st.prepared);
  completed = st.completed;
}

-- What becomes of the branches: one that is known leaves its name, and where none is known they stay.
pub record Finishes (s : State) (xid : Triple) (bs : List Branch) : Type 0 where
  pub leaves : (b : Branch) → known_of s.branches xid ≡ Some b → Leaves xid s.branches bs b
  pub stays : known_of s.branches xid ≡ None → bs ≡ s.branches

pub rolled_finishes : (s : State) (xid : Triple) → IsSound s → Finishes s xid (rolled_back s xid).branches
rolled_finishes s xid h = record { leaves = λ b found. rolled_leaves s xid b h found; stays = λ none. without_none (is_known_as xid) s.branches none }

pub committed_finishes : (s : State) (xid : Triple) → IsSound s → Finishes s xid (committed s xid).branches
committed_finishes s xid h = record { leaves = λ b found. committed_leaves s xid b h found; stays = λ none. change_none (is_known_as xid) as_committed s.branches none }

-- what is kept is prepared
abbrev pub is_doubtful : Option Lasting → Bool
is_doubtful None = false
is_doubtful (Some (lasts.Prepared t)) = true
is_doubtful (Some (lasts.Completed direction)) = false

-- where the operator completed the branch, nothing leaves
stayed_by : (m : Branches) (s : State) (xid : Triple) (bs : List Branch) (l : Lasting) (o : Option Kept) → BranchesStandFor m s → Finishes s xid bs → is_doubtful (Some l) ≡ false → Seen s xid o (Some l)
    → BranchesStandFor m (record s { branches = bs })
stayed_by m s xid bs l None st finishes plain (Doubtful t is) = absurd (cc plain)
stayed_by m s xid bs l None st finishes plain (Done direction none was) = rw (finishes.stays none) st
stayed_by m s xid bs l (Some w) st finishes plain x = elim x [ ]

pub stayed_stands : (m : Branches) (s : State) (xid : Triple) (bs : List Branch) (l : Lasting) → BranchesStandFor m s → Finishes s xid bs → is_doubtful (Some l) ≡ false → lasting_at m xid ≡ Some l
    → BranchesStandFor m (record s { branches = bs })
stayed_stands m s xid bs l st finishes plain e = stayed_by m s xid bs l (working_at m xid) st finishes plain (seen_at m s xid (working_at m xid) (Some l) st refl e)

-- one that is at work leaves, or none is known

pub finished_stands : (m : Branches) (after : BTreeMap Triple Kept) (rooms : BTreeMap Triple Lasting) (ts : BTreeSet ℕ) (due : BTreeSet (ℕ × Triple)) (s : State) (xid : Triple) (bs : List Branch) (w : Kept) → IsSound s → BranchesStandFor m s → Finishes s xid bs
    → working_at m xid ≡ Some w → Sets m.working xid None after → Sets m.lasting xid None rooms → SetsTime m.times w.timestamp false ts
    → LosesDue m.due xid (due_of (work_of w)) due → BranchesStandFor (record m { working = after; lasting = rooms; times = ts; due = due }) (record s { branches = bs })
finished_stands m after rooms ts due s xid bs w h st finishes e sets takes timed loses =
    let is = works_at m s xid w st e in
    let same : w.timestamp ≡ is.branch.timestamp = ap (λ (k : Kept). k.timestamp) is.kept in
    working_left m after rooms ts due s xid bs is.branch w st (finishes.leaves is.branch is.found) e (undecided s xid is.branch h is.found) (rw is.phase refl) sets takes timed same loses

unknown_by : (s : State) (xid : Triple) (o : Option Kept) (l : Option Lasting) → o ≡ None → l ≡ None → Seen s xid o l → known_of s.branches xid ≡ None
unknown_by s xid None None e f (Nowhere none nor) = none
unknown_by s xid (Some w) None e f (There v is) = absurd (cc e)
unknown_by s xid (Some w) (Some l) e f x = elim x [ ]
unknown_by s xid None (Some l) e f (Doubtful t is) = absurd (cc f)
unknown_by s xid None (Some l) e f (Done direction none was) = absurd (cc f)

pub unknown_stands : (m : Branches) (s : State) (xid : Triple) (bs : List Branch) → BranchesStandFor m s → Finishes s xid bs → working_at m xid ≡ None → lasting_at m xid ≡ None
    → BranchesStandFor m (record s { branches = bs })
unknown_stands m s xid bs st finishes none nor =
    let unknown : known_of s.branches xid ≡ None = unknown_by s xid (working_at m xid) (lasting_at m xid) none nor (seen_at m s xid (working_at m xid) (lasting_at m xid) st refl refl) in
    rw (finishes.stays unknown) st

settled_by : (m : Branches) (after : BTreeMap Triple Lasting) (ts : BTreeSet ℕ) (n : ℕ) (s : State) (xid : Triple) (bs : List Branch) (t : ℕ) (o : Option Kept) (l : Option Lasting) → IsSound s → BranchesStandFor m s → Finishes s xid bs
    → l ≡ Some (lasts.Prepared t) → n ≡ m.prepared - 1 → Sets m.lasting xid None after → SetsTime m.times t false ts → working_at m xid ≡ o → lasting_at m xid ≡ l → Seen s xid o l
    → BranchesStandFor (record m { lasting = after; times = ts; prepared = n }) (record s { branches = bs })
settled_by m after ts n s xid bs t None None h st finishes is_ fewer sets timed e f (Nowhere none nor) = absurd (cc is_)
settled_by m after ts n s xid bs t (Some w) None h st finishes is_ fewer sets timed e f (There v is) = absurd (cc is_)
settled_by m after ts n s xid bs t (Some w) (Some l) h st finishes is_ fewer sets timed e f x = elim x [ ]
settled_by m after ts n s xid bs t None (Some l) h st finishes is_ fewer sets timed e f (Doubtful u is) =
    let time : u ≡ t = cc is_ in
    prepared_left m after ts n t s xid bs is.branch l st (finishes.leaves is.branch is.found) e f (undecided s xid is.branch h is.found) (rw is.phase refl) fewer sets timed (sym (is.time ∙ time))
settled_by m after ts n s xid bs t None (Some l) h st finishes is_ fewer sets timed e f (Done direction none was) = absurd (cc is_)

pub settled_stands : (m : Branches) (after : BTreeMap Triple Lasting) (ts : BTreeSet ℕ) (n : ℕ) (s : State) (xid : Triple) (bs : List Branch) (t : ℕ) → IsSound s → BranchesStandFor m s → Finishes s xid bs
    → lasting_at m xid ≡ Some (lasts.Prepared t) → n ≡ m.prepared - 1 → Sets m.lasting xid None after → SetsTime m.times t false ts
    → BranchesStandFor (record m { lasting = after; times = ts; prepared = n }) (record s { branches = bs })
settled_stands m after ts n s xid bs t h st finishes is fewer sets timed =
    settled_by m after ts n s xid bs t (working_at m xid) (lasting_at m xid) h st finishes is fewer sets timed refl refl (seen_at m s xid (working_at m xid) (lasting_at m xid) st refl refl)
