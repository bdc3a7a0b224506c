-- Known branches that stand for a state, after a session joins, resumes, suspends or ends its work for a branch.
use Rattle.std.proofs.Common.{◌≡◌, ℕ, ◌≤◌, Bool, true, false, ◌&&◌, cond, Some, None, List, ◌∷◌, refl, subst, arith}
use Rattle.std.specs.Prelude.{option_map}
use Rattle.std.specs.BTreeMap.{BTreeMap}
use Rattle.std.specs.List.{list_any}
use Rattle.xa_xid.specs.Triple.{Triple, xid_eq}
use Rattle.xa_model.specs.State.{State, Association, Holder, Active, Suspended, Loose, count, without, change, is_active, is_own, is_loose, is_suspended, owns, works_in, suspends, is_loose_with}
use Rattle.xa_model.specs.Associations.{held_by, joined, resumable, resumed, not_resumed, suspended, not_suspended, without_one, ended}
use Rattle.xa_model.specs.Invariants.Sound.{IsSound}
use Rattle.xa_model.proofs.Xids.{both_true}
use Rattle.xa_branch.specs.declared.branches.Branches.{Branches}
use Rattle.xa_branch.specs.declared.kind.Kind.{Kind}
use Rattle.xa_branch.specs.declared.kind.Kind.TheVariants as kind
use Rattle.xa_branch.specs.declared.working.Working.{Working as Kept}
use Rattle.xa_branch.specs.Kinds.{kind_of, held_as, ended_kind, resumed_kind}
use Rattle.xa_branch.specs.Branches.{BranchesStandFor, working_at}
use Rattle.xa_branch.specs.Changes.{Sets, with_one, less_one}
use Rattle.xa_branch.proofs.Counting.{Picks, Loses, joined_gains, left_loses, turned_gains}
use Rattle.xa_model.proofs.Leaving.{more_any, neither_any, without_same}
use Rattle.xa_branch.proofs.Owners.{few}
use Rattle.xa_branch.proofs.Turning.{Turns, turns_then, lost_turns, gained_turns, turned_stands}

-- who passes which test

active_kind : (n : ℕ) (h : Holder) → is_active n h ≡ true → kind_of h ≡ kind.Active
active_kind n (Active m) e = refl
active_kind n (Suspended m) e = absurd (cc e)
active_kind n Loose e = absurd (cc e)

suspended_kind : (n : ℕ) (h : Holder) → is_suspended n h ≡ true → kind_of h ≡ kind.Suspended
suspended_kind n (Active m) e = absurd (cc e)
suspended_kind n (Suspended m) e = refl
suspended_kind n Loose e = absurd (cc e)

loose_kind : (h : Holder) → is_loose h ≡ true → kind_of h ≡ kind.Loose
loose_kind (Active m) e = absurd (cc e)
loose_kind (Suspended m) e = absurd (cc e)
loose_kind Loose e = refl

works_picks : (n : ℕ) (xid : Triple) → Picks kind.Active xid (works_in n xid)
works_picks n xid = record {
  holder = λ a e. active_kind n a.holder (both_true (is_active n a.holder) (xid_eq a.xid xid) e).0;
  named = λ a e. (both_true (is_active n a.holder) (xid_eq a.xid xid) e).1;
}

suspends_picks : (n : ℕ) (xid : Triple) → Picks kind.Suspended xid (suspends n xid)
suspends_picks n xid = record {
  holder = λ a e. suspended_kind n a.holder (both_true (is_suspended n a.holder) (xid_eq a.xid xid) e).0;
  named = λ a e. (both_true (is_suspended n a.holder) (xid_eq a.xid xid) e).1;
}

loose_picks : (xid : Triple) → Picks kind.Loose xid (is_loose_with xid)
loose_picks xid = record {
  holder = λ a e. loose_kind a.holder (both_true (is_loose a.holder) (xid_eq a.xid xid) e).0;
  named = λ a e. (both_true (is_loose a.holder) (xid_eq a.xid xid) e).1;
}

works_own : (n : ℕ) (h : Holder) (b : Bool) → (is_active n h && b) ≡ true → (is_own n h && b) ≡ true
works_own n (Active m) b e = e
works_own n (Suspended m) b e = absurd (cc e)
works_own n Loose b e = absurd (cc e)

suspends_own : (n : ℕ) (h : Holder) (b : Bool) → (is_suspended n h && b) ≡ true → (is_own n h && b) ≡ true
suspends_own n (Active m) b e = absurd (cc e)
suspends_own n (Suspended m) b e = e
suspends_own n Loose b e = absurd (cc e)

own_either : (n : ℕ) (h : Holder) (b : Bool) → (is_own n h && b) ≡ true → (is_active n h && b) ≡ false → (is_suspended n h && b) ≡ true
own_either n (Active m) b e f = absurd (cc (e, f))
own_either n (Suspended m) b e f = e
own_either n Loose b e f = absurd (cc e)

-- A session joins

pub joined_stands : (m : Branches) (kept : BTreeMap Triple Kept) (s : State) (n : ℕ) (xid : Triple) → IsSound s → BranchesStandFor m s → Sets m.working xid (option_map (with_one kind.Active) (working_at m xid)) kept
    → BranchesStandFor (record m { working = kept }) (joined s n xid).after
joined_stands m kept s n xid h st sets =
    turned_stands m kept s xid (record { xid = xid; holder = Active n } ∷ s.associations) (with_one kind.Active) st
    (gained_turns kind.Active xid s.associations (record { xid = xid; holder = Active n } ∷ s.associations) (joined_gains n xid s.associations) (few s h)) sets

-- An association ends

works_ended : (n : ℕ) (xid : Triple) (held : List Association) → count (owns n xid) held ≤ 1 → list_any (works_in n xid) held ≡ true → without_one held n xid ≡ without (works_in n xid) held
works_ended n xid held one any =
    let own : list_any (owns n xid) held ≡ true = more_any (works_in n xid) (owns n xid) (λ a e. works_own n a.holder (xid_eq a.xid xid) e) held any in
    rw own (without_same (owns n xid) (works_in n xid) (λ a e. works_own n a.holder (xid_eq a.xid xid) e) held one any)

suspends_ended : (n : ℕ) (xid : Triple) (held : List Association) → count (owns n xid) held ≤ 1 → list_any (suspends n xid) held ≡ true → without_one held n xid ≡ without (suspends n xid) held
suspends_ended n xid held one any =
    let own : list_any (owns n xid) held ≡ true = more_any (suspends n xid) (owns n xid) (λ a e. suspends_own n a.holder (xid_eq a.xid xid) e) held any in
    rw own (without_same (owns n xid) (suspends n xid) (λ a e. suspends_own n a.holder (xid_eq a.xid xid) e) held one any)

loose_ended : (n : ℕ) (xid : Triple) (held : List Association) → list_any (works_in n xid) held ≡ false → list_any (suspends n xid) held ≡ false → without_one held n xid ≡ without (is_loose_with xid) held
loose_ended n xid held none nor =
    let own : list_any (owns n xid) held ≡ false = neither_any (works_in n xid) (suspends n xid) (owns n xid) (λ a e f. own_either n a.holder (xid_eq a.xid xid) e f) held none nor in
    rw own refl

ended_loses : (n : ℕ) (xid : Triple) (held : List Association) (k : Kind) (c d e : Bool) → list_any (works_in n xid) held ≡ c → list_any (suspends n xid) held ≡ d → list_any (is_loose_with xid) held ≡ e
    → count (owns n xid) held ≤ 1 → cond c (Some kind.Active) (cond d (Some kind.Suspended) (cond e (Some kind.Loose) None)) ≡ Some k → Loses k xid held (without_one held n xid)
ended_loses n xid held k true d e is_c is_d is_e one same =
    let here : kind.Active ≡ k = cc same in
    rw (works_ended n xid held one is_c) (subst (λ (j : Kind). Loses j xid held (without (works_in n xid) held)) here (left_loses kind.Active xid (works_in n xid) held (works_picks n xid) is_c))
ended_loses n xid held k false true e is_c is_d is_e one same =
    let here : kind.Suspended ≡ k = cc same in
    rw (suspends_ended n xid held one is_d) (subst (λ (j : Kind). Loses j xid held (without (suspends n xid) held)) here (left_loses kind.Suspended xid (suspends n xid) held (suspends_picks n xid) is_d))
ended_loses n xid held k false false true is_c is_d is_e one same =
    let here : kind.Loose ≡ k = cc same in
    rw (loose_ended n xid held is_c is_d) (subst (λ (j : Kind). Loses j xid held (without (is_loose_with xid) held)) here (left_loses kind.Loose xid (is_loose_with xid) held (loose_picks xid) is_e))
ended_loses n xid held k false false false is_c is_d is_e one same = absurd (cc same)

pub ended_stands : (m : Branches) (kept : BTreeMap Triple Kept) (s : State) (n : ℕ) (xid : Triple) (k : Kind) → IsSound s → BranchesStandFor m s → ended_kind s.associations n xid ≡ Some k
    → Sets m.working xid (option_map (less_one k) (working_at m xid)) kept → BranchesStandFor (record m { working = kept }) (ended s n xid)
ended_stands m kept s n xid k h st is sets =
    turned_stands m kept s xid (without_one s.associations n xid) (less_one k) st
    (lost_turns k xid s.associations (without_one s.associations n xid)
    (ended_loses n xid s.associations k (list_any (works_in n xid) s.associations) (list_any (suspends n xid) s.associations) (list_any (is_loose_with xid) s.associations) refl refl refl (h.own n xid) is))
    sets

pub not_suspended_stands : (m : Branches) (kept : BTreeMap Triple Kept) (s : State) (n : ℕ) (xid : Triple) → BranchesStandFor m s → list_any (works_in n xid) s.associations ≡ true
    → Sets m.working xid (option_map (less_one kind.Active) (working_at m xid)) kept → BranchesStandFor (record m { working = kept }) (not_suspended s n xid)
not_suspended_stands m kept s n xid st any sets =
    turned_stands m kept s xid (without (works_in n xid) s.associations) (less_one kind.Active) st
    (lost_turns kind.Active xid s.associations (without (works_in n xid) s.associations) (left_loses kind.Active xid (works_in n xid) s.associations (works_picks n xid) any)) sets

-- What is resumed

-- the association that is resumed is of this kind, and there
record Resumes (k : Kind) (n : ℕ) (xid : Triple) (held : List Association) : Type 0 where
  picks : Picks k xid (resumable held n xid)
  any : list_any (resumable held n xid) held ≡ true

own_resumes : (n : ℕ) (xid : Triple) (held : List Association) → list_any (suspends n xid) held ≡ true → Resumes kind.Suspended n xid held
own_resumes n xid held any = record {
  picks = record {
    holder = λ a e. let own : suspends n xid a ≡ true = simp any at e in (suspends_picks n xid).holder a own;
    named = λ a e. let own : suspends n xid a ≡ true = simp any at e in (suspends_picks n xid).named a own;
  };
  any = more_any (suspends n xid) (resumable held n xid) (λ a e. simp any e) held any;
}

loose_resumes : (n : ℕ) (xid : Triple) (held : List Association) → list_any (suspends n xid) held ≡ false → list_any (is_loose_with xid) held ≡ true → Resumes kind.Loose n xid held
loose_resumes n xid held none any = record {
  picks = record {
    holder = λ a e. let free : is_loose_with xid a ≡ true = simp none at e in (loose_picks xid).holder a free;
    named = λ a e. let free : is_loose_with xid a ≡ true = simp none at e in (loose_picks xid).named a free;
  };
  any = more_any (is_loose_with xid) (resumable held n xid) (λ a e. simp none e) held any;
}

resumes_by : (k : Kind) (n : ℕ) (xid : Triple) (held : List Association) (c d : Bool) → list_any (suspends n xid) held ≡ c → list_any (is_loose_with xid) held ≡ d
    → cond c (Some kind.Suspended) (cond d (Some kind.Loose) None) ≡ Some k → Resumes k n xid held
resumes_by k n xid held true d is_c is_d same = let here : kind.Suspended ≡ k = cc same in subst (λ (j : Kind). Resumes j n xid held) here (own_resumes n xid held is_c)
resumes_by k n xid held false true is_c is_d same = let here : kind.Loose ≡ k = cc same in subst (λ (j : Kind). Resumes j n xid held) here (loose_resumes n xid held is_c is_d)
resumes_by k n xid held false false is_c is_d same = absurd (cc same)

resumes : (k : Kind) (n : ℕ) (xid : Triple) (held : List Association) → resumed_kind held n xid ≡ Some k → Resumes k n xid held
resumes k n xid held is = resumes_by k n xid held (list_any (suspends n xid) held) (list_any (is_loose_with xid) held) refl refl is

pub not_resumed_stands : (m : Branches) (kept : BTreeMap Triple Kept) (s : State) (n : ℕ) (xid : Triple) (k : Kind) → BranchesStandFor m s → resumed_kind s.associations n xid ≡ Some k
    → Sets m.working xid (option_map (less_one k) (working_at m xid)) kept → BranchesStandFor (record m { working = kept }) (not_resumed s n xid)
not_resumed_stands m kept s n xid k st is sets =
    let r = resumes k n xid s.associations is in
    turned_stands m kept s xid (without (resumable s.associations n xid) s.associations) (less_one k) st
    (lost_turns k xid s.associations (without (resumable s.associations n xid) s.associations) (left_loses k xid (resumable s.associations n xid) s.associations r.picks r.any)) sets

-- an association that changes its holder

fewer_held : (k : Kind) (xid : Triple) (held after : List Association) → Loses k xid held after → ((j : Kind) (q : Triple) → held_as j held q ≤ 1024) → (j : Kind) (q : Triple) → held_as j after q ≤ 1024
fewer_held k xid held after loses most j q = omega (arith, loses.fewer j q, most j q)

shifted : (from to : Kind) (xid : Triple) (h : Holder) (p : Association → Bool) (held : List Association) → Picks from xid p → kind_of h ≡ to → list_any p held ≡ true → ((j : Kind) (q : Triple) → held_as j held q ≤ 1024)
    → Turns xid held (change p (held_by h) held) (λ w. with_one to (less_one from w))
shifted from to xid h p held picks is any most =
    let loses = left_loses from xid p held picks any in
    turns_then xid held (without p held) (change p (held_by h) held) (less_one from) (with_one to) (lost_turns from xid held (without p held) loses)
    (gained_turns to xid (without p held) (change p (held_by h) held) (turned_gains to xid h p held picks.named is any) (fewer_held from xid held (without p held) loses most))

pub resumed_stands : (m : Branches) (kept : BTreeMap Triple Kept) (s : State) (n : ℕ) (xid : Triple) (k : Kind) → IsSound s → BranchesStandFor m s → resumed_kind s.associations n xid ≡ Some k
    → Sets m.working xid (option_map (λ w. with_one kind.Active (less_one k w)) (working_at m xid)) kept → BranchesStandFor (record m { working = kept }) (resumed s n xid).after
resumed_stands m kept s n xid k h st is sets =
    let r = resumes k n xid s.associations is in
    turned_stands m kept s xid (change (resumable s.associations n xid) (held_by (Active n)) s.associations) (λ w. with_one kind.Active (less_one k w)) st
    (shifted k kind.Active xid (Active n) (resumable s.associations n xid) s.associations r.picks refl r.any (few s h)) sets

resting : (n : ℕ) (migrates : Bool) → kind_of (cond migrates Loose (Suspended n)) ≡ cond migrates kind.Loose kind.Suspended
resting n true = refl
resting n false = refl

pub suspended_stands : (m : Branches) (kept : BTreeMap Triple Kept) (s : State) (n : ℕ) (migrates : Bool) (xid : Triple) → IsSound s → BranchesStandFor m s → list_any (works_in n xid) s.associations ≡ true
    → Sets m.working xid (option_map (λ w. with_one (cond migrates kind.Loose kind.Suspended) (less_one kind.Active w)) (working_at m xid)) kept
    → BranchesStandFor (record m { working = kept }) (suspended s n migrates xid)
suspended_stands m kept s n migrates xid h st any sets =
    turned_stands m kept s xid (change (works_in n xid) (held_by (cond migrates Loose (Suspended n))) s.associations) (λ w. with_one (cond migrates kind.Loose kind.Suspended) (less_one kind.Active w)) st
    (shifted kind.Active (cond migrates kind.Loose kind.Suspended) xid (cond migrates Loose (Suspended n)) (works_in n xid) s.associations (works_picks n xid) (resting n migrates) any (few s h)) sets
