-- Known branches that stand for a state, after a branch is marked.
use Rattle.std.proofs.Common.{◌≡◌, ℕ, ℤ, ◌+◌, Bool, true, false, cond, Option, Some, None, List, length, refl, ap, sym, ◌∙◌, subst, arith}
use Rattle.std.specs.Prelude.{is_some, option_map, option_and_then}
use Rattle.std.specs.BTreeMap.{BTreeMap, btree_map_len}
use Rattle.std.specs.BTreeSet.{BTreeSet}
use Rattle.xa_xid.specs.Triple.{Triple, xid_eq}
use Rattle.xa_xid.proofs.Same.{xid_same}
use Rattle.xa_model.specs.State.{State, Branch, Phase, Working, Prepared, Committed, Association, name_of, is_with, is_known_as, known_of, known_count, decided_of, change}
use Rattle.xa_model.specs.Logging.{is_in_doubt}
use Rattle.xa_model.specs.Associations.{or_mark, marked_phase, with_mark}
use Rattle.xa_model.proofs.Xids.{cmp_is_eq}
use Rattle.xa_model.proofs.Counts.{count_same}
use Rattle.xa_model.proofs.Lists.{find_change_same, find_change_other}
use Rattle.xa_model.proofs.Names.{called_apart}
use Rattle.xa_branch.specs.declared.branches.Branches.{Branches}
use Rattle.xa_branch.specs.declared.working.Working.{Working as Kept}
use Rattle.xa_branch.proofs.Rooms.{mapped_look}
use Rattle.xa_branch.specs.Branches.{BranchesStandFor, working_at, working_by, working_in, lasting_by}
use Rattle.xa_branch.specs.Calls.{marked_with}
use Rattle.xa_branch.specs.Changes.{Sets, marked}
use Rattle.xa_branch.specs.Due.{due_phase, due_in, due_named, LosesDue}
use Rattle.xa_branch.proofs.Dues.{lost_stands}
use Rattle.xa_branch.proofs.Lastings.{KeepsLasting, lasting_change, prepared_change, timed_change}

-- a change that finds something leaves as many as it found
pub same_number : (f : Kept → Kept) (o : Option Kept) (n k : ℕ) → n + cond (is_some o) 1 0 ≡ k + cond (is_some (option_map f o)) 1 0 → n ≡ k
same_number f None n k e = omega arith
same_number f (Some w) n k e = omega arith

-- A mark

pub marked_name : (code : ℤ) (p : Phase) → name_of (marked_phase code p) ≡ name_of p
marked_name code (Working x work) = refl
marked_name code (Prepared x) = refl
marked_name code Committed = refl

marked_known : (code : ℤ) (xid : Triple) (b : Branch) → is_known_as xid (with_mark code b) ≡ is_known_as xid b
marked_known code xid b = ap (λ (o : Option Triple). is_with xid o) (marked_name code b.phase)

marked_plain : (code : ℤ) (p : Phase) → is_in_doubt (marked_phase code p) ≡ is_in_doubt p
marked_plain code (Working x work) = refl
marked_plain code (Prepared x) = refl
marked_plain code Committed = refl

marked_lasts : (code : ℤ) (t : ℕ) (p : Phase) → lasting_by t (marked_phase code p) ≡ lasting_by t p
marked_lasts code t (Working x work) = refl
marked_lasts code t (Prepared x) = refl
marked_lasts code t Committed = refl

pub marked_keeps : (code : ℤ) → KeepsLasting (with_mark code)
marked_keeps code = record { name = λ b. marked_name code b.phase; lasts = λ b. marked_lasts code b.timestamp b.phase; plain = λ b. marked_plain code b.phase; time = λ b. refl }

marked_by : (code : ℤ) (held : List Association) (q : Triple) (t : ℕ) (p : Phase) → option_map (marked code) (working_by held q t p) ≡ working_by held q t (marked_phase code p)
marked_by code held q t (Working x work) = refl
marked_by code held q t (Prepared x) = refl
marked_by code held q t Committed = refl

marked_in : (code : ℤ) (held : List Association) (q : Triple) (o : Option Branch)
    → option_map (marked code) (option_and_then (working_in held q) o) ≡ option_and_then (working_in held q) (option_map (with_mark code) o)
marked_in code held q None = refl
marked_in code held q (Some b) = marked_by code held q b.timestamp b.phase

marked_here : (m : Branches) (s : State) (xid : Triple) (code : ℤ) → BranchesStandFor m s
    → option_map (marked code) (working_at m xid) ≡ option_and_then (working_in s.associations xid) (known_of (change (is_known_as xid) (with_mark code) s.branches) xid)
marked_here m s xid code st =
    let found : known_of (change (is_known_as xid) (with_mark code) s.branches) xid ≡ option_map (with_mark code) (known_of s.branches xid) =
    find_change_same (is_known_as xid) (with_mark code) (λ b is. marked_known code xid b ∙ is) s.branches in
    ap (option_map (marked code)) (st.working xid) ∙ marked_in code s.associations xid (known_of s.branches xid) ∙ sym (ap (option_and_then (working_in s.associations xid)) found)

marked_look : (m : Branches) (s : State) (xid q : Triple) (code : ℤ) (c : Bool) → xid_eq xid q ≡ c → BranchesStandFor m s
    → cond c (option_map (marked code) (working_at m xid)) (working_at m q) ≡ option_and_then (working_in s.associations q) (known_of (change (is_known_as xid) (with_mark code) s.branches) q)
marked_look m s xid q code true e st =
    subst
    (λ (x : Triple). option_map (marked code) (working_at m xid) ≡ option_and_then (working_in s.associations x) (known_of (change (is_known_as xid) (with_mark code) s.branches) x))
    (xid_same xid q e) (marked_here m s xid code st)
marked_look m s xid q code false e st =
    let other : known_of (change (is_known_as xid) (with_mark code) s.branches) q ≡ known_of s.branches q =
    find_change_other (is_known_as xid) (is_known_as q) (with_mark code) (λ b is. (called_apart xid q b e is, marked_known code q b ∙ called_apart xid q b e is)) s.branches in
    st.working q ∙ sym (ap (option_and_then (working_in s.associations q)) other)

-- one that is marked doesn't run out of time

some_mark : (o : Option ℤ) (code : ℤ) → is_some (or_mark o code) ≡ true
some_mark None code = refl
some_mark (Some other) code = refl

pub marked_due : (code : ℤ) (p : Phase) → due_phase (marked_phase code p) ≡ None
marked_due code (Working x work) = rw (some_mark work.mark code) refl
marked_due code (Prepared x) = refl
marked_due code Committed = refl

due_here : (code : ℤ) (o : Option Branch) → option_and_then due_in (option_map (with_mark code) o) ≡ None
due_here code None = refl
due_here code (Some b) = marked_due code b.phase

marked_named : (code : ℤ) (xid q : Triple) (bs : List Branch) (c : Bool) → xid_eq xid q ≡ c → due_named (change (is_known_as xid) (with_mark code) bs) q ≡ cond c None (due_named bs q)
marked_named code xid q bs true e =
    let found : known_of (change (is_known_as xid) (with_mark code) bs) xid ≡ option_map (with_mark code) (known_of bs xid) =
    find_change_same (is_known_as xid) (with_mark code) (λ b is. marked_known code xid b ∙ is) bs in
    subst (λ (x : Triple). due_named (change (is_known_as xid) (with_mark code) bs) x ≡ None) (xid_same xid q e) (ap (option_and_then due_in) found ∙ due_here code (known_of bs xid))
marked_named code xid q bs false e =
    ap (option_and_then due_in)
    (find_change_other (is_known_as xid) (is_known_as q) (with_mark code) (λ b is. (called_apart xid q b e is, marked_known code q b ∙ called_apart xid q b e is)) bs)

pub marked_stands : (m : Branches) (after : BTreeMap Triple Kept) (due : BTreeSet (ℕ × Triple)) (s : State) (xid : Triple) (code : ℤ) → BranchesStandFor m s → Sets m.working xid (option_map (marked code) (working_at m xid)) after
    → LosesDue m.due xid (due_named s.branches xid) due → BranchesStandFor (record m { working = after; due = due }) (marked_with code s xid)
marked_stands m after due s xid code st sets loses = record {
  boot = st.boot;
  given = st.given;
  moment = st.moment;
  working = λ q. sets.at q ∙ rw (cmp_is_eq xid q) (marked_look m s xid q code (xid_eq xid q) refl st);
  known =
      let same : btree_map_len after ≡ btree_map_len m.working = same_number (marked code) (working_at m xid) (btree_map_len after) (btree_map_len m.working) sets.number in
      let names : known_count (change (is_known_as xid) (with_mark code) s.branches) ≡ known_count s.branches =
      count_same (is_known_as xid) (with_mark code) (λ b. is_some (name_of b.phase)) (λ b. ap (λ (o : Option Triple). is_some o) (marked_name code b.phase)) s.branches in
      ap (λ (n : ℕ). n + (m.prepared + m.completed)) same ∙ st.known ∙ ap (λ (n : ℕ). n + length s.decided) (sym names);
  lasting = λ q. mapped_look (marked code) m after xid sets q ∙ st.lasting q ∙ sym (lasting_change (is_known_as xid) (with_mark code) (marked_keeps code) q (decided_of s.decided q) s.branches);
  times = λ t. st.times t ∙ sym (timed_change (is_known_as xid) (with_mark code) (marked_keeps code) t s.branches);
  due = lost_stands m.due due s.branches (change (is_known_as xid) (with_mark code) s.branches) xid (due_named s.branches xid) st.due refl loses (λ q. marked_named code xid q s.branches (xid_eq xid q) refl);
  prepared = st.prepared ∙ sym (prepared_change (is_known_as xid) (with_mark code) (marked_keeps code) s.branches);
  completed = st.completed;
}
