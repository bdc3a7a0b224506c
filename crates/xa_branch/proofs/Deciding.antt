-- Known branches that stand for a state, after the operator completed a branch, and after that is forgotten.
use Rattle.std.proofs.Common.{◌≡◌, ℕ, ◌+◌, ◌-◌, ◌^◌, Bool, true, false, cond, min, Option, Some, None, List, ◌∷◌, length, refl, ap, sym, ◌∙◌, subst, arith}
use Rattle.std.specs.Prelude.{find, option_map}
use Rattle.std.specs.BTreeMap.{BTreeMap}
use Rattle.std.specs.BTreeSet.{BTreeSet}
use Rattle.xa_codes.specs.declared.direction.Direction.{Direction}
use Rattle.xa_codes.specs.declared.direction.Direction.TheVariants as direction
use Rattle.xa_xid.specs.Triple.{Triple, xid_eq}
use Rattle.xa_xid.proofs.Same.{xid_same}
use Rattle.xa_model.specs.State.{State, Branch, Decided, known_of, decided_of, known_as, InDoubt, without}
use Rattle.xa_model.specs.Phases.{rolled_back, committed, decided_by, is_decision_of, forgotten}
use Rattle.xa_model.specs.Invariants.Sound.{IsSound}
use Rattle.xa_model.proofs.Counts.{found_none}
use Rattle.xa_model.proofs.Finds.{find_without}
use Rattle.xa_model.proofs.Leaving.{without_none}
use Rattle.xa_model.proofs.Lists.{found_passes}
use Rattle.xa_model.proofs.Xids.{cmp_is_eq, xid_apart}
use Rattle.xa_branch.specs.declared.branches.Branches.{Branches}
use Rattle.xa_branch.specs.declared.lasting.Lasting.{Lasting}
use Rattle.xa_branch.specs.declared.lasting.Lasting.TheVariants as lasts
use Rattle.xa_branch.specs.declared.working.Working.{Working as Kept}
use Rattle.xa_branch.proofs.Rooms.{set_look}
use Rattle.xa_branch.specs.Branches.{BranchesStandFor, working_at, lasting_at, lasting_among}
use Rattle.xa_branch.specs.Changes.{Sets, SetsTime}
use Rattle.xa_branch.proofs.Finding.{found_left, all_counted}
use Rattle.xa_branch.proofs.Dues.{stayed_due, unworking_due}
use Rattle.xa_branch.proofs.Finishing.{Leaves, left_look, left_times, left_named, rolled_leaves, committed_leaves, undecided, is_doubtful}
use Rattle.xa_branch.proofs.Looks.{IsPrepared, Seen, Nowhere, There, Doubtful, Done, seen_at, fact_at, known_is}
use Rattle.xa_branch.proofs.Setting.{none_at}

-- what lasts at an XID is prepared, and nothing is at work there

doubtful_is : (s : State) (xid : Triple) (t : ℕ) (o : Option Kept) (l : Option Lasting) → l ≡ Some (lasts.Prepared t) → Seen s xid o l → (o ≡ None) × IsPrepared s xid t
doubtful_is s xid t None None e (Nowhere none nor) = absurd (cc e)
doubtful_is s xid t (Some w) None e (There v is) = absurd (cc e)
doubtful_is s xid t (Some w) (Some l) e x = elim x [ ]
doubtful_is s xid t None (Some l) e (Doubtful u is) = let same : u ≡ t = cc e in (refl, subst (λ (k : ℕ). IsPrepared s xid k) same is)
doubtful_is s xid t None (Some l) e (Done direction none was) = absurd (cc e)

-- The operator completes a branch

decided_look : (m : Branches) (s : State) (xid q : Triple) (bs : List Branch) (b : Branch) (d : Direction) (c : Bool) → xid_eq xid q ≡ c → BranchesStandFor m s → Leaves xid s.branches bs b
    → cond c (Some (lasts.Completed d)) (lasting_at m q) ≡ lasting_among (known_of bs q) (option_map (λ x. x.direction) (cond c (Some (record { xid = xid; direction = d })) (find (λ x. xid_eq x.xid q) s.decided)))
decided_look m s xid q bs b d true e st leaves =
    let gone : known_of bs q ≡ None = subst (λ (x : Triple). known_of bs x ≡ None) (xid_same xid q e) leaves.here in rw gone refl
decided_look m s xid q bs b d false e st leaves = st.lasting q ∙ sym (ap (λ (o : Option Branch). lasting_among o (decided_of s.decided q)) (leaves.others q e))

completed_stands : (m : Branches) (after : BTreeMap Triple Lasting) (ts : BTreeSet ℕ) (n k : ℕ) (s : State) (d : Direction) (xid : Triple) (t : ℕ) (bs : List Branch) → IsSound s → BranchesStandFor m s
    → lasting_at m xid ≡ Some (lasts.Prepared t) → Sets m.lasting xid (Some (lasts.Completed d)) after → n ≡ m.prepared - 1 → k ≡ min (m.completed + 1) (2 ^ 64 - 1)
    → working_at m xid ≡ None → (is : IsPrepared s xid t) → Leaves xid s.branches bs is.branch → SetsTime m.times t false ts
    → BranchesStandFor (record m { lasting = after; times = ts; prepared = n; completed = k }) (record s { branches = bs; decided = record { xid = xid; direction = d } ∷ s.decided })
completed_stands m after ts n k s d xid t bs h st e sets fewer more idle is leaves timed = record {
  boot = st.boot;
  given = st.given;
  moment = st.moment;
  working = λ q. none_at (working_at m) xid q (xid_eq xid q) refl idle ∙ left_look m s xid q bs is.branch (xid_eq xid q) refl st leaves;
  lasting = λ q. set_look m after xid (Some (lasts.Completed d)) idle sets q ∙ rw (cmp_is_eq xid q) (decided_look m s xid q bs is.branch d (xid_eq xid q) refl st leaves);
  times = left_times m ts s xid bs is.branch t st leaves timed (sym is.time);
  due = stayed_due m.due s.branches bs xid st.due (unworking_due m s xid (st.working xid) idle) (λ q. left_named xid q s.branches bs is.branch (xid_eq xid q) refl leaves);
  known = let less = rw is.phase at leaves.prepared in omega (arith, less, fewer, more, leaves.known, st.known, st.prepared, st.completed, h.known);
  prepared = let less = rw is.phase at leaves.prepared in omega (arith, less, fewer, st.prepared);
  completed = omega (arith, more, st.completed, h.known);
}

pub decided_stands : (m : Branches) (after : BTreeMap Triple Lasting) (ts : BTreeSet ℕ) (n k : ℕ) (s : State) (d : Direction) (xid : Triple) (t : ℕ) → IsSound s → BranchesStandFor m s → lasting_at m xid ≡ Some (lasts.Prepared t)
    → Sets m.lasting xid (Some (lasts.Completed d)) after → n ≡ m.prepared - 1 → k ≡ min (m.completed + 1) (2 ^ 64 - 1) → SetsTime m.times t false ts
    → BranchesStandFor (record m { lasting = after; times = ts; prepared = n; completed = k }) (decided_by s d xid)
decided_stands m after ts n k s direction.Commit xid t h st e sets fewer more timed =
    let both = doubtful_is s xid t (working_at m xid) (lasting_at m xid) e (seen_at m s xid (working_at m xid) (lasting_at m xid) st refl refl) in
    completed_stands m after ts n k s direction.Commit xid t (committed s xid).branches h st e sets fewer more both.0 both.1 (committed_leaves s xid both.1.branch h both.1.found) timed
decided_stands m after ts n k s direction.Rollback xid t h st e sets fewer more timed =
    let both = doubtful_is s xid t (working_at m xid) (lasting_at m xid) e (seen_at m s xid (working_at m xid) (lasting_at m xid) st refl refl) in
    completed_stands m after ts n k s direction.Rollback xid t (rolled_back s xid).branches h st e sets fewer more both.0 both.1 (rolled_leaves s xid both.1.branch h both.1.found) timed

-- only what is in doubt is kept as prepared

doubt_by : (o : Option Kept) (l : Option Lasting) → fact_at o l ≡ InDoubt → is_doubtful l ≡ true
doubt_by None None e = absurd (cc e)
doubt_by None (Some (lasts.Prepared t)) e = refl
doubt_by None (Some (lasts.Completed direction)) e = absurd (cc e)
doubt_by (Some w) l e = absurd (cc e)

pub doubtful : (m : Branches) (s : State) (xid : Triple) → BranchesStandFor m s → known_as s xid ≡ InDoubt → is_doubtful (lasting_at m xid) ≡ true
doubtful m s xid st e = doubt_by (working_at m xid) (lasting_at m xid) (sym (known_is m s xid (working_at m xid) (lasting_at m xid) st refl refl) ∙ e)

prepared_fact : (s : State) (xid : Triple) (t : ℕ) (o : Option Kept) (l : Option Lasting) → l ≡ Some (lasts.Prepared t) → Seen s xid o l → fact_at o l ≡ InDoubt
prepared_fact s xid t None None e (Nowhere none nor) = absurd (cc e)
prepared_fact s xid t (Some w) None e (There v is) = absurd (cc e)
prepared_fact s xid t (Some w) (Some l) e x = elim x [ ]
prepared_fact s xid t None (Some l) e (Doubtful u is) = refl
prepared_fact s xid t None (Some l) e (Done direction none was) = absurd (cc e)

pub in_doubt : (m : Branches) (s : State) (xid : Triple) (t : ℕ) → BranchesStandFor m s → lasting_at m xid ≡ Some (lasts.Prepared t) → known_as s xid ≡ InDoubt
in_doubt m s xid t st e =
    known_is m s xid (working_at m xid) (lasting_at m xid) st refl refl
    ∙ prepared_fact s xid t (working_at m xid) (lasting_at m xid) e (seen_at m s xid (working_at m xid) (lasting_at m xid) st refl refl)

-- Forgotten

abbrev rest_of : State → Triple → List Decided
rest_of s xid = without (is_decision_of xid) s.decided

others_rest : (s : State) (xid q : Triple) → xid_eq xid q ≡ false → decided_of (rest_of s xid) q ≡ decided_of s.decided q
others_rest s xid q e = ap (option_map (λ d. d.direction)) (find_without (is_decision_of xid) (λ d. xid_eq d.xid q) (λ d is. xid_apart d.xid xid q is e) s.decided)

mapped_found : (o : Option Decided) (d : Direction) → option_map (λ x. x.direction) o ≡ Some d → (y : Decided) × (o ≡ Some y)
mapped_found None d e = absurd (cc e)
mapped_found (Some y) d e = (y, refl)

-- one decision less, and none of the XID
record IsForgotten (s : State) (xid : Triple) : Type 0 where
  here : decided_of (rest_of s xid) xid ≡ None
  fewer : length (rest_of s xid) + 1 ≡ length s.decided

forgotten_is : (s : State) (xid : Triple) (y : Decided) → IsSound s → find (is_decision_of xid) s.decided ≡ Some y → IsForgotten s xid
forgotten_is s xid y h found = record {
  here =
      let left = found_left (is_decision_of xid) (is_decision_of xid) y s.decided found in
      let passes : is_decision_of xid y ≡ true = found_passes (is_decision_of xid) y s.decided found in
      let fewer = rw passes at left in
      ap (option_map (λ d. d.direction)) (found_none (is_decision_of xid) (rest_of s xid) (omega (arith, fewer, h.distinct xid)));
  fewer = omega (arith, found_left (is_decision_of xid) (λ d. true) y s.decided found, all_counted s.decided, all_counted (rest_of s xid));
}

forgotten_look : (m : Branches) (s : State) (xid q : Triple) (c : Bool) → xid_eq xid q ≡ c → BranchesStandFor m s → known_of s.branches xid ≡ None → IsForgotten s xid
    → cond c None (lasting_at m q) ≡ lasting_among (known_of s.branches q) (decided_of (rest_of s xid) q)
forgotten_look m s xid q true e st none is =
    let unknown : known_of s.branches q ≡ None = subst (λ (x : Triple). known_of s.branches x ≡ None) (xid_same xid q e) none in
    let nothing : decided_of (rest_of s xid) q ≡ None = subst (λ (x : Triple). decided_of (rest_of s xid) x ≡ None) (xid_same xid q e) is.here in rw (unknown, nothing) refl
forgotten_look m s xid q false e st none is = st.lasting q ∙ sym (ap (λ (o : Option Direction). lasting_among (known_of s.branches q) o) (others_rest s xid q e))

forget_by : (m : Branches) (after : BTreeMap Triple Lasting) (n : ℕ) (s : State) (xid : Triple) (d : Direction) (o : Option Kept) (l : Option Lasting) → IsSound s → BranchesStandFor m s
    → working_at m xid ≡ o → l ≡ Some (lasts.Completed d) → Sets m.lasting xid None after → n ≡ m.completed - 1 → Seen s xid o l → BranchesStandFor (record m { lasting = after; completed = n }) (forgotten s xid)
forget_by m after n s xid d None None h st f e sets fewer (Nowhere none nor) = absurd (cc e)
forget_by m after n s xid d (Some w) None h st f e sets fewer (There v is) = absurd (cc e)
forget_by m after n s xid d (Some w) (Some l) h st f e sets fewer x = elim x [ ]
forget_by m after n s xid d None (Some l) h st f e sets fewer (Doubtful t is) = absurd (cc e)
forget_by m after n s xid d None (Some l) h st f e sets fewer (Done direction none was) =
    let found = mapped_found (find (is_decision_of xid) s.decided) direction was in
    let is = forgotten_is s xid found.0 h found.1 in record {
      boot = st.boot;
      given = st.given;
      moment = st.moment;
      working = st.working;
      times = st.times;
      due = st.due;
      lasting = λ q. set_look m after xid None f sets q ∙ rw (cmp_is_eq xid q) (forgotten_look m s xid q (xid_eq xid q) refl st none is);
      known = omega (arith, fewer, is.fewer, st.known, st.completed);
      prepared = st.prepared;
      completed = omega (arith, fewer, is.fewer, st.completed);
    }

pub forgotten_stands : (m : Branches) (after : BTreeMap Triple Lasting) (n : ℕ) (s : State) (xid : Triple) (d : Direction) → IsSound s → BranchesStandFor m s → lasting_at m xid ≡ Some (lasts.Completed d)
    → Sets m.lasting xid None after → n ≡ m.completed - 1 → BranchesStandFor (record m { lasting = after; completed = n }) (forgotten s xid)
forgotten_stands m after n s xid d h st e sets fewer =
    forget_by m after n s xid d (working_at m xid) (lasting_at m xid) h st refl e sets fewer (seen_at m s xid (working_at m xid) (lasting_at m xid) st refl refl)

-- where nothing was decided, nothing is forgotten

-- what is kept is what the operator decided
abbrev pub is_completed : Option Lasting → Bool
is_completed None = false
is_completed (Some (lasts.Prepared t)) = false
is_completed (Some (lasts.Completed direction)) = true

mapped_none : (o : Option Decided) → option_map (λ x. x.direction) o ≡ None → o ≡ None
mapped_none None e = refl
mapped_none (Some y) e = absurd (cc e)

undecided_by : (s : State) (xid : Triple) (o : Option Kept) (l : Option Lasting) → IsSound s → is_completed l ≡ false → Seen s xid o l → decided_of s.decided xid ≡ None
undecided_by s xid None None h plain (Nowhere none nor) = nor
undecided_by s xid (Some w) None h plain (There v is) = undecided s xid is.branch h is.found
undecided_by s xid (Some w) (Some l) h plain x = elim x [ ]
undecided_by s xid None (Some l) h plain (Doubtful t is) = undecided s xid is.branch h is.found
undecided_by s xid None (Some l) h plain (Done direction none was) = absurd (cc plain)

pub unforgotten_stands : (m : Branches) (s : State) (xid : Triple) → IsSound s → BranchesStandFor m s → is_completed (lasting_at m xid) ≡ false → BranchesStandFor m (forgotten s xid)
unforgotten_stands m s xid h st plain =
    let none = undecided_by s xid (working_at m xid) (lasting_at m xid) h plain (seen_at m s xid (working_at m xid) (lasting_at m xid) st refl refl) in
    rw (without_none (is_decision_of xid) s.decided (mapped_none (find (is_decision_of xid) s.decided) none)) st
