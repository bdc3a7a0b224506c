-- The model's changes of the associations by which a session has none of its own left with an XID.
use Rattle.std.proofs.Common.{◌≡◌, ℕ, ◌≤◌, ◌==◌, Bool, true, false, not, ◌&&◌, cond, List, Option, None, refl, ap, sym, ◌∙◌, subst, arith}
use Rattle.std.specs.Prelude.{option_map}
use Rattle.std.specs.List.{list_any}
use Rattle.std.proofs.lemmas.Bool.Decides.{nat_tests}
use Rattle.xa_xid.specs.Triple.{Triple, xid_eq}
use Rattle.xa_xid.proofs.Same.{xid_same}
use Rattle.xa_model.proofs.Xids.{both_true}
use Rattle.xa_model.proofs.Counts.{count_nowhere}
use Rattle.xa_model.proofs.Finds.{find_without}
use Rattle.xa_model.specs.State.{Association, Loose, count, without, change, is_with, is_active, owns, works_in, suspends, is_loose_with, active_of}
use Rattle.xa_model.specs.Associations.{held_by, resumable, without_one}
use Rattle.xa_assoc.specs.Changes.{Leaves}
use Rattle.xa_assoc.proofs.Anys.{any_same, any_without, count_changed_away, count_gone, any_agrees, without_agrees}
use Rattle.xa_assoc.proofs.Held.{owned_is, works_own, suspends_own, working_is, suspended_idle, loose_idle, loose_nobodys, own_suspended, own_active, own_split, works_somewhere, works_nowhere, suspended_is}
use Rattle.xa_assoc.proofs.Moves.{AreSeen, IsOnce, none_at, same_number, stood_by}
use Rattle.xa_model.proofs.Leaving.{none_counted, any_counts}

here_number : (n : ℕ) → (n == n) ≡ true
here_number n = grind (arith, nat_tests)

both_at : (n k : ℕ) (xid q : Triple) → (n == k && xid_eq xid q) ≡ true → (n ≡ k) × (xid ≡ q)
both_at n k xid q e = let both = both_true (n == k) (xid_eq xid q) e in (same_number n k both.0, xid_same xid q both.1)

and_true : (b : Bool) → b ≡ (b && true)
and_true true = refl
and_true false = refl

and_false : (b : Bool) → false ≡ (b && false)
and_false true = refl
and_false false = refl

-- the one association that passes p, of the session's own with the XID, leaves
own_gone_by : (n k : ℕ) (xid q : Triple) (p : Association → Bool) (held : List Association) (c : Bool) → (n == k && xid_eq xid q) ≡ c → ((a : Association) → p a ≡ true → owns n xid a ≡ true)
    → count (owns n xid) held ≤ 1 → list_any p held ≡ true → list_any (owns k q) (without p held) ≡ (list_any (owns k q) held && not c)
own_gone_by n k xid q p held true e own one any =
    let fewer = count_gone (owns n xid) p own held any in
    let none : count (owns n xid) (without p held) ≡ 0 = omega (arith, fewer) in
    let both = both_at n k xid q e in
    let gone : list_any (owns k q) (without p held) ≡ false = subst (λ (x : Triple). list_any (owns k x) (without p held) ≡ false) both.1 (subst (λ (i : ℕ). list_any (owns i xid) (without p held) ≡ false) both.0 (none_counted (owns n xid) (without p held) none)) in
    gone ∙ and_false (list_any (owns k q) held)
own_gone_by n k xid q p held false e own one any =
    any_without (owns k q) p (λ a is. owned_is n k xid q a (own a is) ∙ e) held ∙ and_true (list_any (owns k q) held)

pub own_gone : (n k : ℕ) (xid q : Triple) (p : Association → Bool) (held : List Association) → ((a : Association) → p a ≡ true → owns n xid a ≡ true)
    → count (owns n xid) held ≤ 1 → list_any p held ≡ true → list_any (owns k q) (without p held) ≡ (list_any (owns k q) held && not (n == k && xid_eq xid q))
own_gone n k xid q p held own one any = own_gone_by n k xid q p held (n == k && xid_eq xid q) refl own one any

-- or becomes loose
own_loosed_by : (n k : ℕ) (xid q : Triple) (held : List Association) (c : Bool) → (n == k && xid_eq xid q) ≡ c
    → count (owns n xid) held ≤ 1 → list_any (works_in n xid) held ≡ true → list_any (owns k q) (change (works_in n xid) (held_by Loose) held) ≡ (list_any (owns k q) held && not c)
own_loosed_by n k xid q held true e one any =
    let fewer = count_changed_away (owns n xid) (works_in n xid) (held_by Loose) (λ a is. (works_own n xid a is, refl)) held any in
    let none : count (owns n xid) (change (works_in n xid) (held_by Loose) held) ≡ 0 = omega (arith, fewer) in
    let both = both_at n k xid q e in
    let gone : list_any (owns k q) (change (works_in n xid) (held_by Loose) held) ≡ false
    = subst (λ (x : Triple). list_any (owns k x) (change (works_in n xid) (held_by Loose) held) ≡ false) both.1
    (subst (λ (i : ℕ). list_any (owns i xid) (change (works_in n xid) (held_by Loose) held) ≡ false) both.0 (none_counted (owns n xid) (change (works_in n xid) (held_by Loose) held) none)) in
    gone ∙ and_false (list_any (owns k q) held)
own_loosed_by n k xid q held false e one any =
    any_same (owns k q) (works_in n xid) (held_by Loose) (λ a is. sym (owned_is n k xid q a (works_own n xid a is) ∙ e)) held ∙ and_true (list_any (owns k q) held)

-- whom sessions work for, where the session is at work for the XID

cond_at : (n k : ℕ) (xid : Triple) (held : List Association) (o : Option Triple) (c : Bool) → (n == k) ≡ c → is_with xid (active_of held n) ≡ true → o ≡ cond c None (active_of held k)
    → o ≡ cond (c && is_with xid (active_of held k)) None (active_of held k)
cond_at n k xid held o true e is h =
    let there : is_with xid (active_of held k) ≡ true = subst (λ (i : ℕ). is_with xid (active_of held i) ≡ true) (same_number n k e) is in rw there h
cond_at n k xid held o false e is h = h

pub migrated_leaves : (n : ℕ) (xid : Triple) (held : List Association) → IsOnce n xid held → is_with xid (active_of held n) ≡ true
    → AreSeen (λ a o a' o'. Leaves a o a' o' n xid) held (change (works_in n xid) (held_by Loose) held)
migrated_leaves n xid held once is =
    let any = works_somewhere n xid held is in
    record {
      active = λ k. cond_at n k xid held (active_of (change (works_in n xid) (held_by Loose) held) k) (n == k) refl is (stood_by n k xid Loose held (n == k) refl (λ i. refl) once.active any);
      own = λ k q. own_loosed_by n k xid q held (n == k && xid_eq xid q) refl once.own any;
    }

ended_by : (n k : ℕ) (xid : Triple) (held : List Association) (c : Bool) → (n == k) ≡ c → count (λ a. is_active n a.holder) held ≤ 1 → list_any (works_in n xid) held ≡ true
    → active_of (without (works_in n xid) held) k ≡ cond c None (active_of held k)
ended_by n k xid held true e one any =
    let fewer = count_gone (λ (a : Association). is_active n a.holder) (works_in n xid) (λ a is. working_is n n xid a is ∙ here_number n) held any in
    let none : count (λ a. is_active n a.holder) (without (works_in n xid) held) ≡ 0 = omega (arith, fewer) in
    subst (λ (i : ℕ). active_of (without (works_in n xid) held) i ≡ None) (same_number n k e) (none_at n (without (works_in n xid) held) none)
ended_by n k xid held false e one any =
    ap (option_map (λ (a : Association). a.xid)) (find_without (works_in n xid) (λ (a : Association). is_active k a.holder) (λ a is. working_is n k xid a is ∙ e) held)

pub working_leaves : (n : ℕ) (xid : Triple) (held : List Association) → IsOnce n xid held → is_with xid (active_of held n) ≡ true
    → AreSeen (λ a o a' o'. Leaves a o a' o' n xid) held (without (works_in n xid) held)
working_leaves n xid held once is =
    let any = works_somewhere n xid held is in
    record {
      active = λ k. cond_at n k xid held (active_of (without (works_in n xid) held) k) (n == k) refl is (ended_by n k xid held (n == k) refl once.active any);
      own = λ k q. own_gone n k xid q (works_in n xid) held (works_own n xid) once.own any;
    }

-- where it isn't at work for the XID

idle_at : (n k : ℕ) (xid : Triple) (held : List Association) (c : Bool) → (n == k) ≡ c → is_with xid (active_of held n) ≡ false → active_of held k ≡ cond (c && is_with xid (active_of held k)) None (active_of held k)
idle_at n k xid held true e is =
    let there : is_with xid (active_of held k) ≡ false = subst (λ (i : ℕ). is_with xid (active_of held i) ≡ false) (same_number n k e) is in rw there refl
idle_at n k xid held false e is = refl

pub suspended_leaves : (n : ℕ) (xid : Triple) (held : List Association) → IsOnce n xid held → is_with xid (active_of held n) ≡ false → list_any (suspends n xid) held ≡ true
    → AreSeen (λ a o a' o'. Leaves a o a' o' n xid) held (without (suspends n xid) held)
suspended_leaves n xid held once is any = record {
  active = λ k. ap (option_map (λ (a : Association). a.xid)) (find_without (suspends n xid) (λ (a : Association). is_active k a.holder) (suspended_idle n k xid) held) ∙ idle_at n k xid held (n == k) refl is;
  own = λ k q. own_gone n k xid q (suspends n xid) held (suspends_own n xid) once.own any;
}

-- and has none of its own: a loose one leaves

none_own : (n k : ℕ) (xid q : Triple) (held : List Association) (c : Bool) → (n == k && xid_eq xid q) ≡ c → list_any (owns n xid) held ≡ false → list_any (owns k q) held ≡ (list_any (owns k q) held && not c)
none_own n k xid q held true e none =
    let both = both_at n k xid q e in
    let there : list_any (owns k q) held ≡ false = subst (λ (x : Triple). list_any (owns k x) held ≡ false) both.1 (subst (λ (i : ℕ). list_any (owns i xid) held ≡ false) both.0 none) in rw there refl
none_own n k xid q held false e none = and_true (list_any (owns k q) held)

pub loose_leaves : (n : ℕ) (xid : Triple) (held : List Association) → is_with xid (active_of held n) ≡ false → list_any (owns n xid) held ≡ false
    → AreSeen (λ a o a' o'. Leaves a o a' o' n xid) held (without (is_loose_with xid) held)
loose_leaves n xid held is none = record {
  active = λ k. ap (option_map (λ (a : Association). a.xid)) (find_without (is_loose_with xid) (λ (a : Association). is_active k a.holder) (λ a loose. loose_idle k xid a loose) held) ∙ idle_at n k xid held (n == k) refl is;
  own = λ k q. any_without (owns k q) (is_loose_with xid) (λ a loose. loose_nobodys k xid q a loose) held ∙ none_own n k xid q held (n == k && xid_eq xid q) refl none;
}

-- its own one leaves, or else a loose one

resumed_by : (n : ℕ) (xid : Triple) (held : List Association) (c : Bool) → list_any (suspends n xid) held ≡ c → IsOnce n xid held → is_with xid (active_of held n) ≡ false
    → AreSeen (λ a o a' o'. Leaves a o a' o' n xid) held (without (λ a. cond c (suspends n xid a) (is_loose_with xid a)) held)
resumed_by n xid held true e once is = suspended_leaves n xid held once is e
resumed_by n xid held false e once is =
    let same = any_agrees (owns n xid) (suspends n xid) (works_in n xid) (own_suspended n xid) held (works_nowhere n xid held is once.active) in
    loose_leaves n xid held is (same ∙ e)

-- what would be resumed leaves
pub not_resumed_leaves : (n : ℕ) (xid : Triple) (held : List Association) → IsOnce n xid held → is_with xid (active_of held n) ≡ false
    → AreSeen (λ a o a' o'. Leaves a o a' o' n xid) held (without (resumable held n xid) held)
not_resumed_leaves n xid held once is = resumed_by n xid held (list_any (suspends n xid) held) refl once is

seen_as : (n : ℕ) (xid : Triple) (held ys zs : List Association) → ys ≡ zs → AreSeen (λ a o a' o'. Leaves a o a' o' n xid) held ys → AreSeen (λ a o a' o'. Leaves a o a' o' n xid) held zs
seen_as n xid held ys zs e h = subst (λ (xs : List Association). AreSeen (λ a o a' o'. Leaves a o a' o' n xid) held xs) e h

own_ended : (n : ℕ) (xid : Triple) (held : List Association) (d : Bool) → is_with xid (active_of held n) ≡ d → IsOnce n xid held → list_any (owns n xid) held ≡ true
    → AreSeen (λ a o a' o'. Leaves a o a' o' n xid) held (without (owns n xid) held)
own_ended n xid held true is once own =
    let none : list_any (suspends n xid) held ≡ false = suspended_is n xid held once.active once.own ∙ ap (λ (b : Bool). list_any (owns n xid) held && not b) is ∙ sym (and_false (list_any (owns n xid) held)) in
    seen_as n xid held (without (works_in n xid) held) (without (owns n xid) held) (sym (without_agrees (owns n xid) (works_in n xid) (suspends n xid) (own_active n xid) held none)) (working_leaves n xid held once is)
own_ended n xid held false is once own =
    let nobody = works_nowhere n xid held is once.active in
    let any : list_any (suspends n xid) held ≡ true = sym (any_agrees (owns n xid) (suspends n xid) (works_in n xid) (own_suspended n xid) held nobody) ∙ own in
    seen_as n xid held (without (suspends n xid) held) (without (owns n xid) held) (sym (without_agrees (owns n xid) (suspends n xid) (works_in n xid) (own_suspended n xid) held nobody)) (suspended_leaves n xid held once is any)

-- who is at work for the XID owns it
not_at_work : (n : ℕ) (xid : Triple) (held : List Association) (d : Bool) → is_with xid (active_of held n) ≡ d → list_any (owns n xid) held ≡ false → d ≡ false
not_at_work n xid held true is none =
    let any : 1 ≤ count (works_in n xid) held = any_counts (works_in n xid) held (works_somewhere n xid held is) in
    let owned_none : count (owns n xid) held ≡ 0 = count_nowhere (owns n xid) held none in
    absurd (omega (arith, own_split n xid held))
not_at_work n xid held false is none = refl

ended_one_by : (n : ℕ) (xid : Triple) (held : List Association) (c : Bool) → list_any (owns n xid) held ≡ c → IsOnce n xid held
    → AreSeen (λ a o a' o'. Leaves a o a' o' n xid) held (cond c (without (owns n xid) held) (without (is_loose_with xid) held))
ended_one_by n xid held true e once = own_ended n xid held (is_with xid (active_of held n)) refl once e
ended_one_by n xid held false e once = loose_leaves n xid held (not_at_work n xid held (is_with xid (active_of held n)) refl e) e

pub ended_leaves : (n : ℕ) (xid : Triple) (held : List Association) → IsOnce n xid held → AreSeen (λ a o a' o'. Leaves a o a' o' n xid) held (without_one held n xid)
ended_leaves n xid held once = ended_one_by n xid held (list_any (owns n xid) held) refl once
