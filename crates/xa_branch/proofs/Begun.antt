-- Known branches that stand for a state, after a branch begins.
use Rattle.std.proofs.Common.{◌≡◌, ℕ, ◌+◌, ◌==◌, Bool, true, false, cond, Option, Some, None, List, ◌∷◌, refl, ap, sym, ◌∙◌, subst, arith}
use Rattle.std.specs.Prelude.{option_and_then, is_some}
use Rattle.std.specs.BTreeMap.{BTreeMap, get, btree_map_len}
use Rattle.std.specs.BTreeSet.{BTreeSet}
use Rattle.xa_xid.specs.Triple.{Triple, xid_eq, xid_cmp}
use Rattle.xa_xid.proofs.Same.{xid_same, xid_eq_itself}
use Rattle.xa_model.specs.State.{State, Branch, Phase, Working, Prepared, Committed, Association, Active, known_of, decided_of, holders_of, timestamp_of, new_work, new_branch, Work, limit_of}
use Rattle.xa_model.specs.Associations.{begun}
use Rattle.xa_model.specs.Invariants.LowWater.{is_known_at}
use Rattle.xa_model.specs.Invariants.Sound.{IsSound}
use Rattle.xa_model.proofs.Xids.{cmp_is_eq}
use Rattle.xa_branch.specs.declared.branches.Branches.{Branches}
use Rattle.xa_branch.specs.declared.kind.Kind.{Kind}
use Rattle.xa_branch.specs.declared.kind.Kind.TheVariants as kind
use Rattle.xa_branch.specs.declared.lasting.Lasting.{Lasting}
use Rattle.xa_branch.specs.declared.working.Working.{Working as Kept}
use Rattle.xa_branch.specs.Kinds.{held_as}
use Rattle.xa_branch.proofs.Rooms.{begun_look as hidden_look}
use Rattle.xa_branch.specs.Branches.{unless_working, BranchesStandFor, kept_of, working_at, working_by, working_in, lasting_at, lasting_among, kept_with}
use Rattle.xa_branch.specs.Changes.{Sets, Keeps, new_kept}
use Rattle.xa_branch.specs.Due.{due_among}
use Rattle.xa_branch.proofs.Counting.{gained_here, gained_other, joined_gains, holders_by_kind}
use Rattle.xa_branch.proofs.Dues.{more_due, unworking_due}
use Rattle.xa_branch.proofs.Looks.{idle_at}
use Rattle.xa_branch.proofs.Setting.{none_at}
use Rattle.xa_branch.proofs.Timed.{begun_time}

-- where the counts are the same, so is what is kept

pub kept_same : (t : ℕ) (work : Work) (a u l a' u' l' : ℕ) → a ≡ a' → u ≡ u' → l ≡ l'
    → ◌≡◌ {A = Kept} (kept_with t work a u l) (kept_with t work a' u' l')
kept_same t work a u l a' u' l' e f g = rw (e, f, g) refl

same_by : (held after : List Association) (q : Triple) (t : ℕ) (p : Phase) → ((j : Kind) → held_as j after q ≡ held_as j held q) → working_by held q t p ≡ working_by after q t p
same_by held after q t (Working x work) same =
    ap Some
    (kept_same t work (held_as kind.Active held q) (held_as kind.Suspended held q) (held_as kind.Loose held q) (held_as kind.Active after q) (held_as kind.Suspended after q) (held_as kind.Loose after q)
    (sym (same kind.Active)) (sym (same kind.Suspended)) (sym (same kind.Loose)))
same_by held after q t (Prepared x) same = refl
same_by held after q t Committed same = refl

pub same_in : (held after : List Association) (q : Triple) (o : Option Branch) → ((j : Kind) → held_as j after q ≡ held_as j held q)
    → option_and_then (working_in held q) o ≡ option_and_then (working_in after q) o
same_in held after q None same = refl
same_in held after q (Some b) same = same_by held after q b.timestamp b.phase same

-- A branch begins

none_held : (held : List Association) (xid : Triple) → holders_of held xid ≡ 0 → (j : Kind) → held_as j held xid ≡ 0
none_held held xid zero kind.Active = omega (arith, holders_by_kind held xid)
none_held held xid zero kind.Suspended = omega (arith, holders_by_kind held xid)
none_held held xid zero kind.Loose = omega (arith, holders_by_kind held xid)

begun_here : (n : ℕ) (xid q : Triple) (held : List Association) (t start limit : ℕ) → xid_eq xid q ≡ true → holders_of held q ≡ 0
    → new_kept t start limit ≡ kept_of (record { xid = xid; holder = Active n } ∷ held) q t (new_work start limit)
begun_here n xid q held t start limit e zero =
    let after : List Association = record { xid = xid; holder = Active n } ∷ held in
    let gains = joined_gains n xid held in
    let active : held_as kind.Active after q ≡ 1 = gained_here kind.Active xid held after gains kind.Active q e ∙ omega (arith, none_held held q zero kind.Active) in
    let suspended : held_as kind.Suspended after q ≡ 0 = gained_here kind.Active xid held after gains kind.Suspended q e ∙ omega (arith, none_held held q zero kind.Suspended) in
    let loose : held_as kind.Loose after q ≡ 0 = gained_here kind.Active xid held after gains kind.Loose q e ∙ omega (arith, none_held held q zero kind.Loose) in
    kept_same t (new_work start limit) 1 0 0 (held_as kind.Active after q) (held_as kind.Suspended after q) (held_as kind.Loose after q) (sym active) (sym suspended) (sym loose)

begun_look : (m : Branches) (s : State) (n : ℕ) (xid q : Triple) (b : Branch) (start limit : ℕ) (c : Bool) → xid_eq xid q ≡ c → BranchesStandFor m s → holders_of s.associations xid ≡ 0 → b.phase ≡ Working xid (new_work start limit)
    → cond c (Some (new_kept b.timestamp start limit)) (working_at m q) ≡ option_and_then (working_in (record { xid = xid; holder = Active n } ∷ s.associations) q) (cond c (Some b) (known_of s.branches q))
begun_look m s n xid q b start limit true e st zero is =
    let free : holders_of s.associations q ≡ 0 = subst (λ (x : Triple). holders_of s.associations x ≡ 0) (xid_same xid q e) zero in
    rw is (ap Some (begun_here n xid q s.associations b.timestamp start limit e free))
begun_look m s n xid q b start limit false e st zero is =
    let after : List Association = record { xid = xid; holder = Active n } ∷ s.associations in
    st.working q ∙ same_in s.associations after q (known_of s.branches q) (λ j. gained_other kind.Active xid s.associations after (joined_gains n xid s.associations) j q e)

-- what lasts of others
begun_lasting : (m : Branches) (s : State) (xid q : Triple) (b : Branch) (work : Work) (c : Bool) → xid_eq xid q ≡ c → BranchesStandFor m s → lasting_at m xid ≡ None → b.phase ≡ Working xid work
    → lasting_at m q ≡ lasting_among (cond c (Some b) (known_of s.branches q)) (decided_of s.decided q)
begun_lasting m s xid q b work true e st none is = rw is (subst (λ (x : Triple). lasting_at m x ≡ None) (xid_same xid q e) none)
begun_lasting m s xid q b work false e st none is = st.lasting q

-- what is kept beside is what was kept

pub begun_stands : (m k : Branches) (s : State) (n : ℕ) (xid : Triple) → IsSound s → BranchesStandFor m s → working_at m xid ≡ None → lasting_at m xid ≡ None
    → Keeps m xid (new_kept (timestamp_of s.boot (s.given + 1)) s.moment (limit_of s n)) k → BranchesStandFor (record k { given = k.given + 1 }) (begun s n xid).after
begun_stands m k s n xid h st free nor keeps = record {
  boot = keeps.boot ∙ st.boot;
  given = ap (λ (i : ℕ). i + 1) (keeps.given ∙ st.given);
  moment = keeps.moment ∙ st.moment;
  working = λ q.
      let b : Branch = new_branch (timestamp_of s.boot (s.given + 1)) xid (new_work s.moment (limit_of s n)) in
      let zero : holders_of s.associations xid ≡ 0 = h.bound xid (idle_at m s xid st free) in
      keeps.working.at q ∙ rw (cmp_is_eq xid q) (begun_look m s n xid q b s.moment (limit_of s n) (xid_eq xid q) refl st zero refl);
  lasting = λ q.
      let b : Branch = new_branch (timestamp_of s.boot (s.given + 1)) xid (new_work s.moment (limit_of s n)) in
      ap (λ (l : BTreeMap Triple Lasting). unless_working (get xid_cmp k.working q) (get xid_cmp l q)) keeps.lasting
      ∙ hidden_look m k.working xid (new_kept (timestamp_of s.boot (s.given + 1)) s.moment (limit_of s n)) nor keeps.working q
      ∙ begun_lasting m s xid q b (new_work s.moment (limit_of s n)) (xid_eq xid q) refl st nor refl;
  times = λ t.
      let new : ℕ = timestamp_of s.boot (s.given + 1) in keeps.times t ∙ ap (cond (new == t) true) (st.times t) ∙ sym (begun_time new t (is_known_at t s.branches));
  due = λ t q.
      let b : Branch = new_branch (timestamp_of s.boot (s.given + 1)) xid (new_work s.moment (limit_of s n)) in
      more_due m.due k.due s.branches xid q b t (xid_eq xid q) refl st.due (unworking_due m s xid (st.working xid) free) keeps.due;
  known =
      let one : btree_map_len k.working ≡ btree_map_len m.working + 1 = let more = rw free at keeps.working.number in omega (arith, more) in
      omega (arith, one, keeps.prepared, keeps.completed, st.known);
  prepared = omega (arith, keeps.prepared, st.prepared);
  completed = keeps.completed ∙ st.completed;
}

-- Where there is no memory, the look-ups stay

pub alike_stands : (m : Branches) (working : BTreeMap Triple Kept) (ts : BTreeSet ℕ) (due : BTreeSet (ℕ × Triple)) (s : State) → BranchesStandFor m s → ((q : Triple) → get xid_cmp working q ≡ working_at m q)
    → btree_map_len working ≡ btree_map_len m.working → ts.keys ≡ m.times.keys → ((t : ℕ) (q : Triple) → due_among due t q ≡ due_among m.due t q)
    → BranchesStandFor (record m { working = working; times = ts; due = due }) s
alike_stands m working ts due s st looks number same alike = record {
  boot = st.boot;
  given = st.given;
  moment = st.moment;
  working = λ q. looks q ∙ st.working q;
  lasting = λ q. ap (λ (w : Option Kept). unless_working w (get xid_cmp m.lasting q)) (looks q) ∙ st.lasting q;
  times = λ t. rw same (st.times t);
  due = λ t q. alike t q ∙ st.due t q;
  known = omega (arith, number, st.known);
  prepared = st.prepared;
  completed = st.completed;
}

-- a branch is kept and taken away again

taken_by : (m : Branches) (xid q : Triple) (w : Kept) (c : Bool) → xid_eq xid q ≡ c → working_at m xid ≡ None → cond c None (cond c (Some w) (working_at m q)) ≡ working_at m q
taken_by m xid q w true e none = sym (none_at (working_at m) xid q true e none)
taken_by m xid q w false e none = refl

pub taken_looks : (m : Branches) (kept after : BTreeMap Triple Kept) (xid : Triple) (w : Kept) → working_at m xid ≡ None → Sets m.working xid (Some w) kept → Sets kept xid None after
    → (q : Triple) → get xid_cmp after q ≡ working_at m q
taken_looks m kept after xid w free sets takes q = takes.at q ∙ rw (sets.at q, cmp_is_eq xid q) (taken_by m xid q w (xid_eq xid q) refl free)

pub taken_number : (m : Branches) (kept after : BTreeMap Triple Kept) (xid : Triple) (w : Kept) → working_at m xid ≡ None → Sets m.working xid (Some w) kept → Sets kept xid None after
    → btree_map_len after ≡ btree_map_len m.working
taken_number m kept after xid w free sets takes =
    let there : is_some (get xid_cmp kept xid) ≡ true = rw (sets.at xid, cmp_is_eq xid xid, xid_eq_itself xid) refl in
    let more = rw free at sets.number in
    let less = rw there at takes.number in
    omega (arith, more, less)
