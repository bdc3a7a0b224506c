-- No branch is known, and a branch begins.
use Rattle.std.proofs.Common.{◌≡◌, ℕ, ◌<◌, ◌≤◌, Bool, true, false, ◌||◌, Option, Some, None, List, [], ◌∷◌, length, refl, ap, sym, ◌∙◌, arith}
use Rattle.std.specs.Prelude.{is_some, nat_le}
use Rattle.xa_xid.specs.Triple.{Triple}
use Rattle.std.proofs.lemmas.Bool.Decides.{nat_tests}
use Rattle.xa_model.specs.State.{State, Branch, Decided, Phase, Working, Prepared, Committed, count, name_of, is_with, is_known_as, known_of, known_in, known_as, known_count}
use Rattle.xa_model.specs.Logging.{is_in_doubt}
use Rattle.xa_model.specs.Associations.{is_taken}
use Rattle.xa_model.proofs.Counts.{count_less, found_none}
use Rattle.xa_branch.specs.declared.branches.Branches.{Branches}
use Rattle.xa_branch.specs.declared.fault.BeginFault.TheVariants.{Full, Spent}
use Rattle.xa_branch.specs.declared.lasting.Lasting.{Lasting}
use Rattle.xa_branch.specs.declared.lasting.Lasting.TheVariants as lasts
use Rattle.xa_branch.specs.declared.working.Working.{Working as Kept}
use Rattle.xa_branch.specs.Branches.{BranchesStandFor, working_at, lasting_at, prepared_among, number_of}
use Rattle.xa_branch.specs.Calls.{begin_fault}
use Rattle.xa_branch.proofs.Looks.{fact_at, known_is}
use Rattle.xa_branch.proofs.Timed.{times_none}

named_by : (xid : Triple) (o : Option Triple) → is_with xid o ≡ true → is_some o ≡ true
named_by xid None is = absurd (cc is)
named_by xid (Some x) is = refl

pub named : (xid : Triple) (b : Branch) → is_known_as xid b ≡ true → is_some (name_of b.phase) ≡ true
named xid b is = named_by xid (name_of b.phase) is

unknown : (s : State) (xid : Triple) → known_in s ≡ 0 → known_of s.branches xid ≡ None
unknown s xid none =
    let fewer : count (is_known_as xid) s.branches ≤ known_count s.branches = count_less (is_known_as xid) (λ b. is_some (name_of b.phase)) (named xid) s.branches in
    let zero : count (is_known_as xid) s.branches ≡ 0 = omega arith in
    found_none (is_known_as xid) s.branches zero

prepared_by : (p : Phase) → is_in_doubt p ≡ true → is_some (name_of p) ≡ true
prepared_by (Working x work) e = absurd (cc e)
prepared_by (Prepared x) e = refl
prepared_by Committed e = absurd (cc e)

-- the prepared branches are known ones
pub prepared_known : (bs : List Branch) → prepared_among bs ≤ known_count bs
prepared_known bs = count_less (λ b. is_in_doubt b.phase) (λ b. is_some (name_of b.phase)) (λ b e. prepared_by b.phase e) bs

empty : (ds : List Decided) → length ds ≡ 0 → ds ≡ []
empty [] e = refl
empty (d ∷ ds) e = absurd (omega arith)

pub new_stands : (m : Branches) (s : State) → m.boot ≡ s.boot → m.given ≡ s.given → m.moment ≡ s.moment → m.working.entries ≡ [] → m.lasting.entries ≡ [] → m.times.keys ≡ [] → m.due.keys ≡ [] → m.prepared ≡ 0 → m.completed ≡ 0 → known_in s ≡ 0
    → BranchesStandFor m s
new_stands m s boot given moment none nor never undue prepared completed unknown_ = record {
  boot = boot;
  given = given;
  moment = moment;
  working = λ xid. rw (none, unknown s xid unknown_) refl;
  lasting = λ xid. let nothing : s.decided ≡ [] = empty s.decided (omega arith) in rw (none, nor, unknown s xid unknown_, nothing) refl;
  times = λ t. rw never (sym (times_none t s.branches (omega (arith, unknown_))));
  due = λ t xid. rw (undue, unknown s xid unknown_) refl;
  known = rw none (omega arith);
  prepared = omega (arith, prepared_known s.branches);
  completed = omega arith;
}

-- A branch begins

pub none_of : {A : Type 0} (o : Option A) → is_some o ≡ false → o ≡ None
none_of None e = refl
none_of (Some x) e = absurd (cc e)

-- whether anything is kept at an XID
abbrev pub taken_in : Branches → Triple → Bool
taken_in m xid = is_some (working_at m xid) || is_some (lasting_at m xid)

taken_at : (o : Option Kept) (l : Option Lasting) → is_taken (fact_at o l) ≡ (is_some o || is_some l)
taken_at None None = refl
taken_at None (Some (lasts.Prepared t)) = refl
taken_at None (Some (lasts.Completed direction)) = refl
taken_at (Some w) l = refl

pub fault_is : (m : Branches) (s : State) (xid : Triple) → BranchesStandFor m s → begin_fault (is_taken (known_as s xid)) (known_in s) s.given ≡ begin_fault (taken_in m xid) (number_of m) m.given
fault_is m s xid st =
    let taken : is_taken (known_as s xid) ≡ taken_in m xid = ap is_taken (known_is m s xid (working_at m xid) (lasting_at m xid) st refl refl) ∙ taken_at (working_at m xid) (lasting_at m xid) in
    rw (taken, ← st.known, ← st.given) refl

reached : (most n : ℕ) → most ≤ n → nat_le most n ≡ true
reached most n most_n = grind (arith, nat_tests)

below : (most n : ℕ) → n < most → nat_le most n ≡ false
below most n n_most = grind (arith, nat_tests)

pub full : (taken : Bool) (known given : ℕ) → taken ≡ false → 4096 ≤ known → begin_fault taken known given ≡ Some Full
full taken known given e k = rw (e, reached 4096 known k) refl

pub spent : (taken : Bool) (known given : ℕ) → taken ≡ false → known < 4096 → 4294967295 ≤ given → begin_fault taken known given ≡ Some Spent
spent taken known given e k g = rw (e, below 4096 known k, reached 4294967295 given g) refl

pub let_in : (taken : Bool) (known given : ℕ) → taken ≡ false → known < 4096 → given < 4294967295 → begin_fault taken known given ≡ None
let_in taken known given e k g = rw (e, below 4096 known k, below 4294967295 given g) refl
