-- The model's changes of the associations, as changes of whom each session works for and of what it owns.
use Rattle.std.proofs.Common.{◌≡◌, ℕ, ◌≤◌, ◌==◌, Bool, true, false, ◌&&◌, ◌||◌, cond, List, ◌∷◌, Option, Some, None, refl, ap, sym, ◌∙◌, subst, arith}
use Rattle.std.specs.Prelude.{find, option_map}
use Rattle.std.specs.List.{list_any}
use Rattle.std.proofs.lemmas.Bool.Decides.{nat_tests}
use Rattle.xa_xid.specs.Triple.{Triple, xid_eq}
use Rattle.xa_xid.proofs.Same.{xid_same}
use Rattle.xa_model.proofs.Xids.{both_true}
use Rattle.xa_model.proofs.Counts.{found_none}
use Rattle.xa_model.proofs.Lists.{find_change_other}
use Rattle.xa_model.specs.State.{Association, Holder, Active, Suspended, count, change, is_with, is_active, owns, works_in, suspends, is_loose_with, active_of}
use Rattle.xa_model.specs.Associations.{held_by}
use Rattle.xa_assoc.specs.Changes.{SitsDown, StandsUp}
use Rattle.xa_assoc.proofs.Anys.{any_change, any_same, count_changed_away, newly_found}
use Rattle.xa_assoc.proofs.Held.{owned_is, works_own, suspends_own, working_is, suspended_idle, loose_idle, loose_nobodys, works_somewhere}

-- what is seen of a list of associations
abbrev pub owned : List Association → ℕ → Triple → Bool
owned held n xid = list_any (owns n xid) held

abbrev pub AreSeen : ((ℕ → Option Triple) → (ℕ → Triple → Bool) → (ℕ → Option Triple) → (ℕ → Triple → Bool) → Type 0) → List Association → List Association → Type 0
AreSeen P held held' = P (active_of held) (owned held) (active_of held') (owned held')

-- what every sound state has of a session and an XID
pub record IsOnce (n : ℕ) (xid : Triple) (held : List Association) : Type 0 where
  pub active : count (λ a. is_active n a.holder) held ≤ 1
  pub own : count (owns n xid) held ≤ 1

-- a new association

begun_by : (n k : ℕ) (xid : Triple) (held : List Association) (c : Bool) → option_map (λ a. a.xid) (cond c (Some (record { xid = xid; holder = Active n })) (find (λ a. is_active k a.holder) held)) ≡ cond c (Some xid) (active_of held k)
begun_by n k xid held true = refl
begun_by n k xid held false = refl

or_swap : (a b : Bool) → (a || b) ≡ (b || a)
or_swap true true = refl
or_swap true false = refl
or_swap false true = refl
or_swap false false = refl

pub begun_sits : (n : ℕ) (xid : Triple) (held : List Association) → AreSeen (λ a o a' o'. SitsDown a o a' o' n xid) held (record { xid = xid; holder = Active n } ∷ held)
begun_sits n xid held = record {
  active = λ k. begun_by n k xid held (n == k);
  own = λ k q. or_swap (n == k && xid_eq xid q) (list_any (owns k q) held);
}

-- a session that isn't at work resumes what passes p: its own, or a loose one

pub record Resumes (n : ℕ) (xid : Triple) (p : Association → Bool) : Type 0 where
  pub with_xid : (a : Association) → p a ≡ true → xid_eq a.xid xid ≡ true
  pub idle : (k : ℕ) (a : Association) → p a ≡ true → is_active k a.holder ≡ false
  pub own : (k : ℕ) (q : Triple) (a : Association) → p a ≡ true → (n == k && xid_eq a.xid q) ≡ (owns k q a || (n == k && xid_eq xid q))

pub same_number : (n k : ℕ) → (n == k) ≡ true → n ≡ k
same_number n k e = grind (arith, nat_tests)

sat_by : (n k : ℕ) (xid : Triple) (p : Association → Bool) (held : List Association) (c : Bool) → (n == k) ≡ c → Resumes n xid p → find (λ a. is_active n a.holder) held ≡ None → list_any p held ≡ true
    → active_of (change p (held_by (Active n)) held) k ≡ cond c (Some xid) (active_of held k)
sat_by n k xid p held true e r none any =
    let here : (n == n) ≡ true = grind (arith, nat_tests) in
    let found = newly_found (λ (a : Association). is_active n a.holder) p (held_by (Active n)) (λ (a : Association). a.xid) xid (λ a is. (here, xid_same a.xid xid (r.with_xid a is))) held none any in
    let seen : active_of (change p (held_by (Active n)) held) n ≡ Some xid = ap (option_map (λ (a : Association). a.xid)) found.1 ∙ ap Some found.2 in
    subst (λ (i : ℕ). active_of (change p (held_by (Active n)) held) i ≡ Some xid) (same_number n k e) seen
sat_by n k xid p held false e r none any =
    ap (option_map (λ (a : Association). a.xid)) (find_change_other p (λ (a : Association). is_active k a.holder) (held_by (Active n)) (λ a is. (r.idle k a is, e)) held)

pub resumed_sits : (n : ℕ) (xid : Triple) (p : Association → Bool) (held : List Association) → Resumes n xid p → find (λ a. is_active n a.holder) held ≡ None → list_any p held ≡ true
    → AreSeen (λ a o a' o'. SitsDown a o a' o' n xid) held (change p (held_by (Active n)) held)
resumed_sits n xid p held r none any = record {
  active = λ k. sat_by n k xid p held (n == k) refl r none any;
  own = λ k q. any_change (owns k q) p (held_by (Active n)) (n == k && xid_eq xid q) (r.own k q) held ∙ ap (λ (b : Bool). list_any (owns k q) held || (b && (n == k && xid_eq xid q))) any;
}

or_same : (b : Bool) → b ≡ (b || b)
or_same true = refl
or_same false = refl

named_same : (n k : ℕ) (xid q x : Triple) → xid_eq x xid ≡ true → (n == k && xid_eq x q) ≡ (n == k && xid_eq xid q)
named_same n k xid q x e = ap (λ (y : Triple). n == k && xid_eq y q) (xid_same x xid e)

pub suspended_resumes : (n : ℕ) (xid : Triple) → Resumes n xid (suspends n xid)
suspended_resumes n xid = record {
  with_xid = λ a is. (both_true _ (xid_eq a.xid xid) is).1;
  idle = λ k a is. suspended_idle n k xid a is;
  own = λ k q a is. named_same n k xid q a.xid ((both_true _ (xid_eq a.xid xid) is).1) ∙ or_same (n == k && xid_eq xid q) ∙ ap (λ (b : Bool). b || (n == k && xid_eq xid q)) (sym (owned_is n k xid q a (suspends_own n xid a is)));
}

pub loose_resumes : (n : ℕ) (xid : Triple) → Resumes n xid (is_loose_with xid)
loose_resumes n xid = record {
  with_xid = λ a is. (both_true _ (xid_eq a.xid xid) is).1;
  idle = λ k a is. loose_idle k xid a is;
  own = λ k q a is. named_same n k xid q a.xid ((both_true _ (xid_eq a.xid xid) is).1) ∙ ap (λ (b : Bool). b || (n == k && xid_eq xid q)) (sym (loose_nobodys k xid q a is));
}

-- a session suspends what it works in

pub none_at : (n : ℕ) (held : List Association) → count (λ a. is_active n a.holder) held ≡ 0 → active_of held n ≡ None
none_at n held e = ap (option_map (λ (a : Association). a.xid)) (found_none (λ (a : Association). is_active n a.holder) held e)

-- whatever it becomes instead
pub stood_by : (n k : ℕ) (xid : Triple) (h : Holder) (held : List Association) (c : Bool) → (n == k) ≡ c → ((i : ℕ) → is_active i h ≡ false) → count (λ a. is_active n a.holder) held ≤ 1 → list_any (works_in n xid) held ≡ true
    → active_of (change (works_in n xid) (held_by h) held) k ≡ cond c None (active_of held k)
stood_by n k xid h held true e idle one any =
    let here : (n == n) ≡ true = grind (arith, nat_tests) in
    let fewer = count_changed_away (λ (a : Association). is_active n a.holder) (works_in n xid) (held_by h) (λ a is. (working_is n n xid a is ∙ here, idle n)) held any in
    let none : count (λ a. is_active n a.holder) (change (works_in n xid) (held_by h) held) ≡ 0 = omega (arith, fewer) in
    subst (λ (i : ℕ). active_of (change (works_in n xid) (held_by h) held) i ≡ None) (same_number n k e) (none_at n (change (works_in n xid) (held_by h) held) none)
stood_by n k xid h held false e idle one any =
    ap (option_map (λ (a : Association). a.xid)) (find_change_other (works_in n xid) (λ (a : Association). is_active k a.holder) (held_by h) (λ a is. (working_is n k xid a is ∙ e, idle k)) held)

own_still : (n k : ℕ) (xid q : Triple) (a : Association) → works_in n xid a ≡ true → owns k q (held_by (Suspended n) a) ≡ owns k q a
own_still n k xid q a is = named_same n k xid q a.xid ((both_true _ (xid_eq a.xid xid) is).1) ∙ sym (owned_is n k xid q a (works_own n xid a is))

pub suspended_stands : (n : ℕ) (xid : Triple) (held : List Association) → IsOnce n xid held → is_with xid (active_of held n) ≡ true
    → AreSeen (λ a o a' o'. StandsUp a o a' o' n) held (change (works_in n xid) (held_by (Suspended n)) held)
suspended_stands n xid held once is = record {
  active = λ k. stood_by n k xid (Suspended n) held (n == k) refl (λ i. refl) once.active (works_somewhere n xid held is);
  own = λ k q. any_same (owns k q) (works_in n xid) (held_by (Suspended n)) (own_still n k xid q) held;
}
