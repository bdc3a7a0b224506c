-- How the model's changes of the associations are seen, session by session.
use Rattle.std.proofs.Common.{◌≡◌, ℕ, ◌+◌, ◌≤◌, ◌==◌, Bool, true, false, not, ◌&&◌, ◌||◌, cond, List, [], ◌∷◌, Option, Some, None, refl, ap, sym, ◌∙◌, arith}
use Rattle.std.specs.Prelude.{find, option_map}
use Rattle.std.specs.List.{list_any}
use Rattle.std.proofs.lemmas.Bool.Decides.{nat_tests}
use Rattle.xa_xid.specs.Triple.{Triple, xid_eq}
use Rattle.xa_xid.proofs.Same.{xid_same}
use Rattle.xa_model.proofs.Xids.{both_true}
use Rattle.xa_model.proofs.Counts.{count_less}
use Rattle.xa_model.specs.State.{Association, Holder, Active, Suspended, Loose, count, is_with, is_active, is_own, is_loose, is_suspended, owns, works_in, suspends, is_loose_with, active_of}
use Rattle.xa_assoc.proofs.Anys.{any_agrees, found_any}
use Rattle.xa_model.proofs.Leaving.{none_counted, any_counts}
use Rattle.xa_assoc.proofs.Reseats.{or_false}

-- of one association

pub own_number : (n k : ℕ) (h : Holder) → is_own n h ≡ true → is_own k h ≡ (n == k)
own_number n k (Active m) is = let same : m ≡ n = grind (arith, nat_tests) in rw same refl
own_number n k (Suspended m) is = let same : m ≡ n = grind (arith, nat_tests) in rw same refl
own_number n k Loose is = absurd (cc is)

-- whose it is, and with which XID
pub owned_is : (n k : ℕ) (xid q : Triple) (a : Association) → owns n xid a ≡ true → owns k q a ≡ (n == k && xid_eq xid q)
owned_is n k xid q a is =
    let both = both_true (is_own n a.holder) (xid_eq a.xid xid) is in
    ap (λ (b : Bool). b && xid_eq a.xid q) (own_number n k a.holder both.0) ∙ ap (λ (x : Triple). n == k && xid_eq x q) (xid_same a.xid xid both.1)

pub active_own : (n : ℕ) (h : Holder) → is_active n h ≡ true → is_own n h ≡ true
active_own n (Active m) is = is
active_own n (Suspended m) is = absurd (cc is)
active_own n Loose is = absurd (cc is)

-- an own association is active, or suspended
own_either : (n : ℕ) (h : Holder) (c : Bool) → (is_own n h && c) ≡ ((is_active n h && c) || (is_suspended n h && c))
own_either n (Active m) c = sym (or_false (m == n && c))
own_either n (Suspended m) c = refl
own_either n Loose c = refl

or_true : (b : Bool) → (b || true) ≡ true
or_true true = refl
or_true false = refl

pub works_own : (n : ℕ) (xid : Triple) (a : Association) → works_in n xid a ≡ true → owns n xid a ≡ true
works_own n xid a is = own_either n a.holder (xid_eq a.xid xid) ∙ ap (λ (b : Bool). b || suspends n xid a) is

pub suspends_own : (n : ℕ) (xid : Triple) (a : Association) → suspends n xid a ≡ true → owns n xid a ≡ true
suspends_own n xid a is = own_either n a.holder (xid_eq a.xid xid) ∙ ap (λ (b : Bool). works_in n xid a || b) is ∙ or_true (works_in n xid a)

active_number : (n k : ℕ) (h : Holder) → is_active n h ≡ true → is_active k h ≡ (n == k)
active_number n k (Active m) is = let same : m ≡ n = grind (arith, nat_tests) in rw same refl
active_number n k (Suspended m) is = absurd (cc is)
active_number n k Loose is = absurd (cc is)

pub working_is : (n k : ℕ) (xid : Triple) (a : Association) → works_in n xid a ≡ true → is_active k a.holder ≡ (n == k)
working_is n k xid a is = active_number n k a.holder (both_true (is_active n a.holder) (xid_eq a.xid xid) is).0

idle_holder : (n k : ℕ) (h : Holder) → is_suspended n h ≡ true → is_active k h ≡ false
idle_holder n k (Active m) is = absurd (cc is)
idle_holder n k (Suspended m) is = refl
idle_holder n k Loose is = absurd (cc is)

pub suspended_idle : (n k : ℕ) (xid : Triple) (a : Association) → suspends n xid a ≡ true → is_active k a.holder ≡ false
suspended_idle n k xid a is = idle_holder n k a.holder (both_true (is_suspended n a.holder) (xid_eq a.xid xid) is).0

loose_holder : (k : ℕ) (h : Holder) → is_loose h ≡ true → (is_active k h ≡ false) × (is_own k h ≡ false)
loose_holder k (Active m) is = absurd (cc is)
loose_holder k (Suspended m) is = absurd (cc is)
loose_holder k Loose is = (refl, refl)

pub loose_idle : (k : ℕ) (xid : Triple) (a : Association) → is_loose_with xid a ≡ true → is_active k a.holder ≡ false
loose_idle k xid a is = (loose_holder k a.holder (both_true (is_loose a.holder) (xid_eq a.xid xid) is).0).0

pub loose_nobodys : (k : ℕ) (xid q : Triple) (a : Association) → is_loose_with xid a ≡ true → owns k q a ≡ false
loose_nobodys k xid q a is = rw ((loose_holder k a.holder (both_true (is_loose a.holder) (xid_eq a.xid xid) is).0).1) refl

-- and counted as either

split_holder : (n : ℕ) (h : Holder) (c : Bool) → cond (is_own n h && c) 1 0 ≡ cond (is_active n h && c) 1 0 + cond (is_suspended n h && c) 1 0
split_holder n (Active m) true = grind arith
split_holder n (Active m) false = grind arith
split_holder n (Suspended m) true = grind arith
split_holder n (Suspended m) false = grind arith
split_holder n Loose c = refl

pub own_split : (n : ℕ) (xid : Triple) (held : List Association) → count (owns n xid) held ≡ count (works_in n xid) held + count (suspends n xid) held
own_split n xid [] = refl
own_split n xid (a ∷ held) =
    let rest : count (owns n xid) held ≡ count (works_in n xid) held + count (suspends n xid) held = own_split n xid held in
    let here : cond (owns n xid a) 1 0 ≡ cond (works_in n xid a) 1 0 + cond (suspends n xid a) 1 0 = split_holder n a.holder (xid_eq a.xid xid) in
    omega arith

pub own_suspended : (n : ℕ) (xid : Triple) (a : Association) → works_in n xid a ≡ false → owns n xid a ≡ suspends n xid a
own_suspended n xid a e = own_either n a.holder (xid_eq a.xid xid) ∙ ap (λ (b : Bool). b || suspends n xid a) e

pub own_active : (n : ℕ) (xid : Triple) (a : Association) → suspends n xid a ≡ false → owns n xid a ≡ works_in n xid a
own_active n xid a e = own_either n a.holder (xid_eq a.xid xid) ∙ ap (λ (b : Bool). works_in n xid a || b) e ∙ or_false (works_in n xid a)

-- who is at work for the XID, and who isn't

both_are : (a b : Bool) → a ≡ true → b ≡ true → (a && b) ≡ true
both_are a b e h = rw (e, h) refl

works_by : (n : ℕ) (xid : Triple) (held : List Association) (o : Option Association) → find (λ a. is_active n a.holder) held ≡ o → is_with xid (option_map (λ a. a.xid) o) ≡ true → list_any (works_in n xid) held ≡ true
works_by n xid held None e is = absurd (cc is)
works_by n xid held (Some a) e is =
    found_any (λ (b : Association). is_active n b.holder) (works_in n xid) a held (λ active. both_are (is_active n a.holder) (xid_eq a.xid xid) active is) e

pub works_somewhere : (n : ℕ) (xid : Triple) (held : List Association) → is_with xid (active_of held n) ≡ true → list_any (works_in n xid) held ≡ true
works_somewhere n xid held is = works_by n xid held (find (λ a. is_active n a.holder) held) refl is

idle_by : (n : ℕ) (xid : Triple) (a : Association) (held : List Association) (c : Bool) → is_active n a.holder ≡ c → is_with xid (option_map (λ b. b.xid) (cond c (Some a) (find (λ b. is_active n b.holder) held))) ≡ false
    → cond c 1 0 + count (λ b. is_active n b.holder) held ≤ 1
    → (is_with xid (option_map (λ b. b.xid) (find (λ b. is_active n b.holder) held)) ≡ false → list_any (works_in n xid) held ≡ false) → ((c && xid_eq a.xid xid) || list_any (works_in n xid) held) ≡ false
idle_by n xid a held true e other one rest =
    let none : count (λ b. is_active n b.holder) held ≡ 0 = omega arith in
    let fewer : count (works_in n xid) held ≤ count (λ b. is_active n b.holder) held = count_less (works_in n xid) (λ b. is_active n b.holder) (λ b is. (both_true (is_active n b.holder) (xid_eq b.xid xid) is).0) held in
    let zero_ : count (works_in n xid) held ≡ 0 = omega arith in
    rw (other, none_counted (works_in n xid) held zero_) refl
idle_by n xid a held false e other one rest = rest other

pub works_nowhere : (n : ℕ) (xid : Triple) (held : List Association) → is_with xid (active_of held n) ≡ false → count (λ a. is_active n a.holder) held ≤ 1 → list_any (works_in n xid) held ≡ false
works_nowhere n xid [] other one = refl
works_nowhere n xid (a ∷ held) other one =
    let fewer : count (λ b. is_active n b.holder) held ≤ 1 = omega arith in
    idle_by n xid a held (is_active n a.holder) refl other one (λ e. works_nowhere n xid held e fewer)

-- so at most one way
suspended_by : (n : ℕ) (xid : Triple) (held : List Association) (c : Bool) → is_with xid (active_of held n) ≡ c → count (λ a. is_active n a.holder) held ≤ 1 → count (owns n xid) held ≤ 1
    → list_any (suspends n xid) held ≡ (list_any (owns n xid) held && not c)
suspended_by n xid held true e one own =
    let working : 1 ≤ count (works_in n xid) held = any_counts (works_in n xid) held (works_somewhere n xid held e) in
    let none : count (suspends n xid) held ≡ 0 = omega (arith, own_split n xid held) in
    rw (none_counted (suspends n xid) held none) (sym (and_none (list_any (owns n xid) held)))
  where
    and_none : (b : Bool) → (b && false) ≡ false
    and_none true = refl
    and_none false = refl
suspended_by n xid held false e one own =
    sym (any_agrees (owns n xid) (suspends n xid) (works_in n xid) (own_suspended n xid) held (works_nowhere n xid held e one)) ∙ sym (and_all (list_any (owns n xid) held))
  where
    and_all : (b : Bool) → (b && true) ≡ b
    and_all true = refl
    and_all false = refl

pub suspended_is : (n : ℕ) (xid : Triple) (held : List Association) → count (λ a. is_active n a.holder) held ≤ 1 → count (owns n xid) held ≤ 1
    → list_any (suspends n xid) held ≡ (list_any (owns n xid) held && not (is_with xid (active_of held n)))
suspended_is n xid held one own = suspended_by n xid held (is_with xid (active_of held n)) refl one own
