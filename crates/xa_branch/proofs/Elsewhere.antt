-- Known branches stand for a state also after changes of what they say nothing of.
use Rattle.std.proofs.Common.{◌≡◌, ℕ, ◌+◌, Bool, true, false, Option, Some, None, List, length, refl, ap, sym, ◌∙◌, subst}
use Rattle.std.specs.Prelude.{is_some, option_map, option_and_then}
use Rattle.xa_xid.specs.Triple.{Triple, xid_eq}
use Rattle.xa_xid.proofs.Same.{xid_same}
use Rattle.xa_model.specs.State.{State, Branch, Association, Operation, name_of, is_known_as, known_of, known_count, decided_of}
use Rattle.xa_model.specs.Data.{having_done, did}
use Rattle.xa_model.proofs.Counts.{count_same}
use Rattle.xa_model.proofs.Lists.{find_change_same, find_change_other}
use Rattle.xa_model.proofs.Names.{called_apart}
use Rattle.xa_branch.specs.declared.branches.Branches.{Branches}
use Rattle.xa_branch.specs.Branches.{BranchesStandFor, working_in}
use Rattle.xa_branch.specs.Due.{is_then}
use Rattle.xa_branch.proofs.Dues.{due_change}
use Rattle.xa_branch.proofs.Lastings.{KeepsLasting, lasting_change, prepared_change, timed_change}

-- a state with the same parts: sessions, reads and the rest may be others
pub stands_elsewhere : (m : Branches) (s t : State) → t.boot ≡ s.boot → t.given ≡ s.given → t.moment ≡ s.moment → t.associations ≡ s.associations → t.branches ≡ s.branches → t.decided ≡ s.decided → BranchesStandFor m s
    → BranchesStandFor m t
stands_elsewhere m s t boot given moment associations branches decided st = record {
  boot = st.boot ∙ sym boot;
  given = st.given ∙ sym given;
  moment = st.moment ∙ sym moment;
  working = λ xid. rw (associations, branches) (st.working xid);
  lasting = λ xid. rw (branches, decided) (st.lasting xid);
  times = λ u. rw branches (st.times u);
  due = λ u xid. rw branches (st.due u xid);
  known = rw (branches, decided) st.known;
  prepared = rw branches st.prepared;
  completed = rw decided st.completed;
}

-- what a branch does changes neither its timestamp nor its phase

done_in : (op : Operation) (held : List Association) (q : Triple) (o : Option Branch) → option_and_then (working_in held q) (option_map (having_done op) o) ≡ option_and_then (working_in held q) o
done_in op held q None = refl
done_in op held q (Some b) = refl

done_look : (op : Operation) (s : State) (xid q : Triple) (c : Bool) → xid_eq xid q ≡ c
    → option_and_then (working_in s.associations q) (known_of (did xid op s.branches) q) ≡ option_and_then (working_in s.associations q) (known_of s.branches q)
done_look op s xid q true e =
    let here : known_of (did xid op s.branches) xid ≡ option_map (having_done op) (known_of s.branches xid) = find_change_same (is_known_as xid) (having_done op) (λ b is. is) s.branches in
    let there : known_of (did xid op s.branches) q ≡ option_map (having_done op) (known_of s.branches q) =
    subst (λ (x : Triple). known_of (did xid op s.branches) x ≡ option_map (having_done op) (known_of s.branches x)) (xid_same xid q e) here in
    ap (option_and_then (working_in s.associations q)) there ∙ done_in op s.associations q (known_of s.branches q)
done_look op s xid q false e =
    ap (option_and_then (working_in s.associations q))
    (find_change_other (is_known_as xid) (is_known_as q) (having_done op) (λ b is. (called_apart xid q b e is, called_apart xid q b e is)) s.branches)

done_keeps : (op : Operation) → KeepsLasting (having_done op)
done_keeps op = record { name = λ b. refl; lasts = λ b. refl; plain = λ b. refl; time = λ b. refl }

pub done_stands : (m : Branches) (s : State) (xid : Triple) (op : Operation) → BranchesStandFor m s → BranchesStandFor m (record s { branches = did xid op s.branches })
done_stands m s xid op st = record {
  boot = st.boot;
  given = st.given;
  moment = st.moment;
  working = λ q. st.working q ∙ sym (done_look op s xid q (xid_eq xid q) refl);
  known =
      let names : known_count (did xid op s.branches) ≡ known_count s.branches = count_same (is_known_as xid) (having_done op) (λ b. is_some (name_of b.phase)) (λ b. refl) s.branches in
      st.known ∙ ap (λ (n : ℕ). n + length s.decided) (sym names);
  lasting = λ q. st.lasting q ∙ sym (lasting_change (is_known_as xid) (having_done op) (done_keeps op) q (decided_of s.decided q) s.branches);
  times = λ t. st.times t ∙ sym (timed_change (is_known_as xid) (having_done op) (done_keeps op) t s.branches);
  due = λ t q. st.due t q ∙ ap (λ (o : Option ℕ). is_then o t) (sym (due_change (is_known_as xid) (having_done op) (λ b. refl) (λ b. refl) q s.branches));
  prepared = st.prepared ∙ sym (prepared_change (is_known_as xid) (having_done op) (done_keeps op) s.branches);
  completed = st.completed;
}
