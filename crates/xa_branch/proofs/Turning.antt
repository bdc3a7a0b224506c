-- Known branches that stand for a state, after associations of one branch change.
use Rattle.std.proofs.Common.{◌≡◌, ℕ, ◌+◌, ◌-◌, ◌^◌, ◌≤◌, Bool, true, false, cond, min, Option, Some, None, List, refl, ap, ◌∙◌, arith}
use Rattle.std.specs.Prelude.{option_map, option_and_then}
use Rattle.std.specs.BTreeMap.{BTreeMap, btree_map_len}
use Rattle.xa_xid.specs.Triple.{Triple, xid_eq}
use Rattle.xa_xid.proofs.Same.{xid_same}
use Rattle.xa_model.specs.State.{State, Branch, Phase, Working, Prepared, Committed, Association, known_of, Work}
use Rattle.xa_model.proofs.Xids.{cmp_is_eq}
use Rattle.xa_branch.specs.declared.branches.Branches.{Branches}
use Rattle.xa_branch.specs.declared.kind.Kind.{Kind}
use Rattle.xa_branch.specs.declared.kind.Kind.TheVariants as kind
use Rattle.xa_branch.specs.declared.working.Working.{Working as Kept}
use Rattle.xa_branch.specs.Kinds.{same_kind, held_as}
use Rattle.xa_branch.proofs.Rooms.{mapped_look}
use Rattle.xa_branch.specs.Branches.{BranchesStandFor, kept_of, working_at, working_by, working_in, kept_with}
use Rattle.xa_branch.specs.Changes.{Sets, with_one, less_one}
use Rattle.xa_branch.proofs.Counting.{Gains, Loses, gained_here, gained_other, lost_here, lost_other}
use Rattle.xa_branch.proofs.Marking.{same_number}
use Rattle.xa_branch.proofs.Begun.{kept_same, same_in}

-- What becomes of what is kept of the branch with the XID, where the associations become others; nothing becomes of the
-- other branches.
pub record Turns (xid : Triple) (held after : List Association) (f : Kept → Kept) : Type 0 where
  pub here : (q : Triple) → xid_eq xid q ≡ true → (t : ℕ) (work : Work) → f (kept_of held q t work) ≡ kept_of after q t work
  pub others : (q : Triple) → xid_eq xid q ≡ false → (j : Kind) → held_as j after q ≡ held_as j held q

pub turns_then : (xid : Triple) (held between after : List Association) (f g : Kept → Kept) → Turns xid held between f → Turns xid between after g → Turns xid held after (λ w. g (f w))
turns_then xid held between after f g x y = record {
  here = λ q e t work. ap g (x.here q e t work) ∙ y.here q e t work;
  others = λ q e j. y.others q e j ∙ x.others q e j;
}

pub less : (k : Kind) (t : ℕ) (work : Work) (a u l a' u' l' : ℕ)
    → a' + cond (same_kind k kind.Active) 1 0 ≡ a → u' + cond (same_kind k kind.Suspended) 1 0 ≡ u → l' + cond (same_kind k kind.Loose) 1 0 ≡ l
    → less_one k (kept_with t work a u l) ≡ kept_with t work a' u' l'
less kind.Active t work a u l a' u' l' e f g = kept_same t work (a - 1) u l a' u' l' (omega arith) (omega arith) (omega arith)
less kind.Suspended t work a u l a' u' l' e f g = kept_same t work a (u - 1) l a' u' l' (omega arith) (omega arith) (omega arith)
less kind.Loose t work a u l a' u' l' e f g = kept_same t work a u (l - 1) a' u' l' (omega arith) (omega arith) (omega arith)

pub lost_turns : (k : Kind) (xid : Triple) (held after : List Association) → Loses k xid held after → Turns xid held after (less_one k)
lost_turns k xid held after loses = record {
  here = λ q e t work.
      less k t work (held_as kind.Active held q) (held_as kind.Suspended held q) (held_as kind.Loose held q) (held_as kind.Active after q) (held_as kind.Suspended after q) (held_as kind.Loose after q)
      (lost_here k xid held after loses kind.Active q e) (lost_here k xid held after loses kind.Suspended q e) (lost_here k xid held after loses kind.Loose q e);
  others = λ q e j. lost_other k xid held after loses j q e;
}

more : (k : Kind) (t : ℕ) (work : Work) (a u l a' u' l' : ℕ)
    → a' ≡ a + cond (same_kind k kind.Active) 1 0 → u' ≡ u + cond (same_kind k kind.Suspended) 1 0 → l' ≡ l + cond (same_kind k kind.Loose) 1 0 → a ≤ 1024 → u ≤ 1024 → l ≤ 1024
    → with_one k (kept_with t work a u l) ≡ kept_with t work a' u' l'
more kind.Active t work a u l a' u' l' e f g x y z = kept_same t work (min (a + 1) (2 ^ 64 - 1)) u l a' u' l' (omega arith) (omega arith) (omega arith)
more kind.Suspended t work a u l a' u' l' e f g x y z = kept_same t work a (min (u + 1) (2 ^ 64 - 1)) l a' u' l' (omega arith) (omega arith) (omega arith)
more kind.Loose t work a u l a' u' l' e f g x y z = kept_same t work a u (min (l + 1) (2 ^ 64 - 1)) a' u' l' (omega arith) (omega arith) (omega arith)

pub gained_turns : (k : Kind) (xid : Triple) (held after : List Association) → Gains k xid held after → ((j : Kind) (q : Triple) → held_as j held q ≤ 1024) → Turns xid held after (with_one k)
gained_turns k xid held after gains few = record {
  here = λ q e t work.
      more k t work (held_as kind.Active held q) (held_as kind.Suspended held q) (held_as kind.Loose held q) (held_as kind.Active after q) (held_as kind.Suspended after q) (held_as kind.Loose after q)
      (gained_here k xid held after gains kind.Active q e) (gained_here k xid held after gains kind.Suspended q e) (gained_here k xid held after gains kind.Loose q e)
      (few kind.Active q) (few kind.Suspended q) (few kind.Loose q);
  others = λ q e j. gained_other k xid held after gains j q e;
}

turned_by : (xid q : Triple) (held after : List Association) (f : Kept → Kept) (t : ℕ) (p : Phase) → Turns xid held after f → xid_eq xid q ≡ true
    → option_map f (working_by held q t p) ≡ working_by after q t p
turned_by xid q held after f t (Working x work) turns e = ap Some (turns.here q e t work)
turned_by xid q held after f t (Prepared x) turns e = refl
turned_by xid q held after f t Committed turns e = refl

turned_in : (xid q : Triple) (held after : List Association) (f : Kept → Kept) (o : Option Branch) → Turns xid held after f → xid_eq xid q ≡ true
    → option_map f (option_and_then (working_in held q) o) ≡ option_and_then (working_in after q) o
turned_in xid q held after f None turns e = refl
turned_in xid q held after f (Some b) turns e = turned_by xid q held after f b.timestamp b.phase turns e

turned_look : (m : Branches) (s : State) (xid q : Triple) (after : List Association) (f : Kept → Kept) (c : Bool) → xid_eq xid q ≡ c → BranchesStandFor m s → Turns xid s.associations after f
    → cond c (option_map f (working_at m xid)) (working_at m q) ≡ option_and_then (working_in after q) (known_of s.branches q)
turned_look m s xid q after f true e st turns =
    let same : working_at m xid ≡ working_at m q = ap (λ (x : Triple). working_at m x) (xid_same xid q e) in
    ap (option_map f) (same ∙ st.working q) ∙ turned_in xid q s.associations after f (known_of s.branches q) turns e
turned_look m s xid q after f false e st turns = st.working q ∙ same_in s.associations after q (known_of s.branches q) (turns.others q e)

pub turned_stands : (m : Branches) (kept : BTreeMap Triple Kept) (s : State) (xid : Triple) (after : List Association) (f : Kept → Kept) → BranchesStandFor m s → Turns xid s.associations after f
    → Sets m.working xid (option_map f (working_at m xid)) kept → BranchesStandFor (record m { working = kept }) (record s { associations = after })
turned_stands m kept s xid after f st turns sets = record {
  boot = st.boot;
  given = st.given;
  moment = st.moment;
  working = λ q. sets.at q ∙ rw (cmp_is_eq xid q) (turned_look m s xid q after f (xid_eq xid q) refl st turns);
  lasting = λ q. mapped_look f m kept xid sets q ∙ st.lasting q;
  times = st.times;
  due = st.due;
  known = ap (λ (k : ℕ). k + (m.prepared + m.completed)) (same_number f (working_at m xid) (btree_map_len kept) (btree_map_len m.working) sets.number) ∙ st.known;
  prepared = st.prepared;
  completed = st.completed;
}
