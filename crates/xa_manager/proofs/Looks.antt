-- What a manager's look-ups say of the states that it stands for.
use Rattle.std.proofs.Common.{◌≡◌, ℕ, ℤ, ◌≤◌, true, false, Option, Some, None, refl, ap, sym, ◌∙◌, subst, arith, rules}
use Rattle.std.specs.Prelude.{option_map, option_and_then}
use Rattle.std.specs.List.{list_any}
use Rattle.mv_rules.specs.Ties.{fate_of, low_of}
use Rattle.xa_xid.specs.Triple.{Triple, xid_eq}
use Rattle.xa_model.specs.State.{State, Branch, Known, Unknown, AtWork, InDoubt, Completed, count, is_with, is_active, works_in, mark_of, known_of, known_as, active_of, holders_of, branch_with, own_branch, is_at_work, is_working}
use Rattle.xa_model.specs.Associations.{is_unknown, is_lasting, mark_in}
use Rattle.xa_model.specs.Invariants.Sound.{IsSound}
use Rattle.xa_model.proofs.Counts.{count_less}
use Rattle.xa_model.proofs.Leaving.{any_counts}
use Rattle.xa_model.proofs.Xids.{both_true}
use Rattle.xa_assoc.proofs.Held.{works_somewhere}
use Rattle.xa_assoc.specs.Seats.{active_at}
use Rattle.xa_branch.specs.declared.working.Working.{Working as Kept_branch}
use Rattle.xa_branch.specs.Branches.{working_at}
use Rattle.xa_branch.proofs.Looks.{IsWorking, works_at, idle_at}
use Rattle.xa_manager.specs.View.{View, with_working, own_at}
use Rattle.xa_manager.specs.Stands.{StandsFor}
use Rattle.xa_manager.proofs.Lows.{low_under}

-- what a mapped option says
mapped_none : {A B : Type 0} (f : A → B) (o : Option A) → option_map f o ≡ None → o ≡ None
mapped_none f None h = refl
mapped_none f (Some x) h = absurd (cc h)

mapped_some : {A B : Type 0} (f : A → B) (o : Option A) (y : B) → option_map f o ≡ Some y → (x : A) × (o ≡ Some x) × (y ≡ f x)
mapped_some f None y h = absurd (cc h)
mapped_some f (Some x) y h = (x, refl, cc h)

-- a branch that is kept is a known one at work
pub finds : (m : View) (s : State) (xid : Triple) (w : Kept_branch) → StandsFor m s → working_at m.branches xid ≡ Some w → IsWorking s xid w
finds m s xid w st h = works_at m.branches s xid w st.branches h

work_by : (k : Known) → is_unknown k ≡ false → is_lasting k ≡ false → k ≡ AtWork (mark_in k)
work_by Unknown e h = absurd (cc e)
work_by (AtWork mark) e h = refl
work_by InDoubt e h = absurd (cc h)
work_by (Completed direction) e h = absurd (cc h)

pub work_is : (s : State) (xid : Triple) → is_unknown (known_as s xid) ≡ false → is_lasting (known_as s xid) ≡ false → known_as s xid ≡ AtWork (mark_in (known_as s xid))
work_is s xid e h = work_by (known_as s xid) e h

-- the branch that a session is at work for

own_by : (m : View) (xid : Triple) (w : Kept_branch) (o : Option Triple) → option_and_then (with_working m) o ≡ Some (xid, w) → (o ≡ Some xid) × (working_at m.branches xid ≡ Some w)
own_by m xid w None h = absurd (cc h)
own_by m xid w (Some x) h =
    let found = mapped_some (λ (y : Kept_branch). (x, y)) (working_at m.branches x) (xid, w) h in
    let ex : xid ≡ x = ap (λ (p : Triple × Kept_branch). p.0) found.2 in
    let ew : w ≡ found.0 = ap (λ (p : Triple × Kept_branch). p.1) found.2 in
    (ap Some (sym ex), subst (λ (y : Triple). working_at m.branches y ≡ Some w) (sym ex) (found.1 ∙ ap Some (sym ew)))

pub own_works : (m : View) (n : ℕ) (xid : Triple) (w : Kept_branch) → own_at m n ≡ Some (xid, w) → (active_at m.sessions n ≡ Some xid) × (working_at m.branches xid ≡ Some w)
own_works m n xid w h = own_by m xid w (active_at m.sessions n) h

pub own_is : (m : View) (s : State) (n : ℕ) (xid : Triple) (w : Kept_branch) → StandsFor m s → own_at m n ≡ Some (xid, w) → (x : IsWorking s xid w) → own_branch s n ≡ Some (xid, x.branch)
own_is m s n xid w st h x =
    let active : active_of s.associations n ≡ Some xid = sym (st.sessions.active n) ∙ (own_works m n xid w h).0 in
    ap (option_and_then (branch_with s.branches)) active ∙ ap (option_map (λ (b : Branch). (xid, b))) x.found

itself : (xid : Triple) → xid_eq xid xid ≡ true
itself xid = search rules

-- whom a session works for is at work
never_idle : (s : State) (n : ℕ) (xid : Triple) → IsSound s → active_of s.associations n ≡ Some xid → is_at_work (known_of s.branches xid) ≡ false → ⊥
never_idle s n xid h active idle =
    let zero : holders_of s.associations xid ≡ 0 = h.bound xid idle in
    let any : list_any (works_in n xid) s.associations ≡ true = works_somewhere n xid s.associations (ap (is_with xid) active ∙ itself xid) in
    let some : 1 ≤ count (works_in n xid) s.associations = any_counts (works_in n xid) s.associations any in
    let fewer : count (works_in n xid) s.associations ≤ holders_of s.associations xid =
    count_less (works_in n xid) (λ a. xid_eq a.xid xid) (λ a is. (both_true (is_active n a.holder) (xid_eq a.xid xid) is).1) s.associations in
    omega arith

no_own_by : (m : View) (s : State) (n : ℕ) (o : Option Triple) → StandsFor m s → active_of s.associations n ≡ o → option_and_then (with_working m) o ≡ None → option_and_then (branch_with s.branches) o ≡ None
no_own_by m s n None st active h = refl
no_own_by m s n (Some x) st active h =
    absurd (never_idle s n x st.recoverable.sound active (idle_at m.branches s x st.branches (mapped_none (λ (y : Kept_branch). (x, y)) (working_at m.branches x) h)))

pub no_own : (m : View) (s : State) (n : ℕ) → StandsFor m s → own_at m n ≡ None → own_branch s n ≡ None
no_own m s n st h = ap (option_and_then (branch_with s.branches)) (sym (st.sessions.active n)) ∙ no_own_by m s n (active_at m.sessions n) st (sym (st.sessions.active n)) h

-- what is kept of it

pub own_mark : (s : State) (xid : Triple) (w : Kept_branch) (o : Option ℤ) → (x : IsWorking s xid w) → w.mark ≡ o → mark_of x.branch.phase ≡ o
own_mark s xid w o x h = ap mark_of x.phase ∙ h

pub time_of : (s : State) (xid : Triple) (w : Kept_branch) → (x : IsWorking s xid w) → w.timestamp ≡ x.branch.timestamp
time_of s xid w x = ap (λ (y : Kept_branch). y.timestamp) x.kept

pub open_fate : (s : State) (xid : Triple) (w : Kept_branch) → (x : IsWorking s xid w) → fate_of x.branch.phase ≡ None
open_fate s xid w x = ap fate_of x.phase

-- a branch at work isn't below where the history counts
pub from_low : (s : State) (xid : Triple) (w : Kept_branch) → (x : IsWorking s xid w) → low_of s ≤ x.branch.timestamp
from_low s xid w x = low_under s xid x.branch x.found (ap is_working x.phase)

pub above_low : (m : View) (s : State) (xid : Triple) (w : Kept_branch) → StandsFor m s → (x : IsWorking s xid w) → low_of s ≤ w.timestamp
above_low m s xid w st x = subst (λ (t : ℕ). low_of s ≤ t) (sym (time_of s xid w x)) (from_low s xid w x)
