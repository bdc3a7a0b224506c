-- A state stays sound where an association gets another holder: it is resumed or suspended.
use Rattle.std.proofs.Common.{◌≡◌, ℕ, ◌<◌, ◌≤◌, ◌==◌, Bool, true, false, ◌&&◌, cond, List, Option, None, refl, arith, sym, subst, ap}
use Rattle.std.specs.Prelude.{is_some}
use Rattle.std.specs.List.{list_any}
use Rattle.std.proofs.lemmas.Bool.Decides.{nat_tests}
use Rattle.xa_xid.specs.Triple.{Triple, xid_eq}
use Rattle.xa_xid.proofs.Same.{xid_same}
use Rattle.xa_model.specs.State.{State, Association, Holder, Active, Suspended, Loose, count, change, is_active, is_own, is_suspended, is_loose, owns, works_in, suspends, is_loose_with, session_of, holders_of, loose_of}
use Rattle.xa_model.specs.Associations.{is_of_session, held_by}
use Rattle.xa_model.specs.Invariants.Sound.{IsSound}
use Rattle.xa_model.proofs.Counts.{count_changed, count_change, count_same, count_either, count_nowhere}
use Rattle.xa_model.proofs.Held.{AreHeld}
use Rattle.xa_model.proofs.Xids.{both_true}

active_own : (n : ℕ) (h : Holder) → is_active n h ≡ true → is_own n h ≡ true
active_own n (Active m) e = e
active_own n (Suspended m) e = absurd (cc e)
active_own n Loose e = absurd (cc e)

suspended_own : (n : ℕ) (h : Holder) → is_suspended n h ≡ true → is_own n h ≡ true
suspended_own n (Active m) e = absurd (cc e)
suspended_own n (Suspended m) e = e
suspended_own n Loose e = absurd (cc e)

own_suspended : (n : ℕ) (h : Holder) → is_own n h ≡ true → is_active n h ≡ false → is_suspended n h ≡ true
own_suspended n (Active m) e idle = absurd (cc (e, idle))
own_suspended n (Suspended m) e idle = e
own_suspended n Loose e idle = absurd (cc e)

both : (a b : Bool) → a ≡ true → b ≡ true → (a && b) ≡ true
both true b e h = h
both false b e h = absurd (cc e)

-- who is at work in none and has suspended none with the XID has none of its own with it
pub none_own : (n : ℕ) (xid : Triple) (held : List Association) → count (λ a. is_active n a.holder) held ≡ 0 → list_any (suspends n xid) held ≡ false → count (owns n xid) held ≡ 0
none_own n xid held idle none =
    let split = count_either (owns n xid) (λ a. is_active n a.holder) (suspends n xid)
    (λ a own idle_.
    let parts = both_true (is_own n a.holder) (xid_eq a.xid xid) own in
    both (is_suspended n a.holder) (xid_eq a.xid xid) (own_suspended n a.holder parts.0 idle_) parts.1)
    held in
    let zero_ : count (suspends n xid) held ≡ 0 = count_nowhere (suspends n xid) held none in omega (arith, split, idle, zero_)

-- a change of the holder leaves how many hold
holders_same : (s : State) (p : Association → Bool) (holder : Holder) (xid : Triple) → holders_of (change p (held_by holder) s.associations) xid ≡ holders_of s.associations xid
holders_same s p holder xid = count_same p (held_by holder) (λ a. xid_eq a.xid xid) (λ a. refl) s.associations

-- the session isn't one that isn't connected
apart : (s : State) (n m : ℕ) → is_some (session_of s.sessions n) ≡ true → session_of s.sessions m ≡ None → (c : Bool) → (n == m) ≡ c → c ≡ false
apart s n m seated none true e =
    let same : n ≡ m = grind (arith, nat_tests) in
    let here : is_some (session_of s.sessions m) ≡ true = subst (λ (j : ℕ). is_some (session_of s.sessions j) ≡ true) same seated in
    absurd (cc (here, ap (λ (o : Option _). is_some o) none))
apart s n m seated none false e = refl

-- Resumed: an own suspended one becomes the active one

active_changed : (p : Association → Bool) (n m : ℕ) (held : List Association) (c : Bool) → (n == m) ≡ c → count (λ a. is_active n a.holder) held ≡ 0 → count (λ a. is_active m a.holder) held ≤ 1
    → count (λ a. is_active m a.holder) (change p (held_by (Active n)) held) ≤ 1
active_changed p n m held true e idle most =
    let same : n ≡ m = grind (arith, nat_tests) in
    let none : count (λ a. is_active m a.holder) held ≡ 0 = subst (λ (k : ℕ). count (λ a. is_active k a.holder) held ≡ 0) same idle in
    omega (arith, count_change p (held_by (Active n)) (λ a. is_active m a.holder) held)
active_changed p n m held false e idle most = omega (arith, count_changed p (held_by (Active n)) (λ a. is_active m a.holder) (λ a is now. absurd (cc (now, e))) held)

seated_changed : (s : State) (p : Association → Bool) (n m : ℕ) → is_some (session_of s.sessions n) ≡ true → session_of s.sessions m ≡ None → count (is_of_session m) s.associations ≡ 0
    → count (is_of_session m) (change p (held_by (Active n)) s.associations) ≡ 0
seated_changed s p n m seated none zero_ =
    let other : (n == m) ≡ false = apart s n m seated none (n == m) refl in
    omega (arith, count_changed p (held_by (Active n)) (is_of_session m) (λ a is now. absurd (cc (now, other))) s.associations)

own_kept : (n m : ℕ) (y : Triple) (a : Association) → is_own n a.holder ≡ true → ((n == m) && xid_eq a.xid y) ≡ true → owns m y a ≡ true
own_kept n m y a own now =
    let parts = both_true (n == m) (xid_eq a.xid y) now in
    let same : n ≡ m = grind (arith, nat_tests, parts.0) in
    both (is_own m a.holder) (xid_eq a.xid y) (subst (λ (k : ℕ). is_own k a.holder ≡ true) same own) parts.1

other_xid : (xid y : Triple) (a : Association) → xid_eq a.xid xid ≡ true → xid_eq xid y ≡ false → xid_eq a.xid y ≡ false
other_xid xid y a is differs = subst (λ (z : Triple). xid_eq z y ≡ false) (sym (xid_same a.xid xid is)) differs

own_taken : (n m : ℕ) (xid y : Triple) (held : List Association) (c d : Bool) → (n == m) ≡ c → xid_eq xid y ≡ d → count (owns n xid) held ≡ 0 → count (owns m y) held ≤ 1
    → count (owns m y) (change (is_loose_with xid) (held_by (Active n)) held) ≤ 1
own_taken n m xid y held true true e h free most =
    let same : n ≡ m = grind (arith, nat_tests) in
    let none : count (owns m y) held ≡ 0 = subst (λ (z : Triple). count (owns m z) held ≡ 0) (xid_same xid y h) (subst (λ (k : ℕ). count (owns k xid) held ≡ 0) same free) in
    omega (arith, count_change (is_loose_with xid) (held_by (Active n)) (owns m y) held)
own_taken n m xid y held true false e h free most =
    omega (
      arith,
      count_changed (is_loose_with xid) (held_by (Active n)) (owns m y)
          (λ a is now. absurd (cc ((both_true (n == m) (xid_eq a.xid y) now).1, other_xid xid y a (both_true (is_loose a.holder) (xid_eq a.xid xid) is).1 h))) held,
    )
own_taken n m xid y held false d e h free most =
    omega (arith, count_changed (is_loose_with xid) (held_by (Active n)) (owns m y) (λ a is now. absurd (cc ((both_true (n == m) (xid_eq a.xid y) now).0, e))) held)

pub resumed_held : (s : State) (n : ℕ) (xid : Triple) (c : Bool) → list_any (suspends n xid) s.associations ≡ c → IsSound s → is_some (session_of s.sessions n) ≡ true
    → count (λ a. is_active n a.holder) s.associations ≡ 0
    → AreHeld s (change (λ a. cond c (suspends n xid a) (is_loose_with xid a)) (held_by (Active n)) s.associations)
resumed_held s n xid true e h seated idle = record {
  active = λ m. active_changed (suspends n xid) n m s.associations (n == m) refl idle (h.active m);
  own = λ m y. omega (
    arith,
    h.own m y,
    count_changed (suspends n xid) (held_by (Active n)) (owns m y)
        (λ a is now. own_kept n m y a (suspended_own n a.holder (both_true (is_suspended n a.holder) (xid_eq a.xid xid) is).0) now) s.associations,
  );
  connected = λ m none. seated_changed s (suspends n xid) n m seated none (h.connected m none);
  bound = λ y none. omega (arith, h.bound y none, holders_same s (suspends n xid) (Active n) y);
  loose = λ y. omega (arith, h.loose y, count_changed (suspends n xid) (held_by (Active n)) (is_loose_with y) (λ a is now. absurd (cc now)) s.associations);
}
resumed_held s n xid false e h seated idle = record {
  active = λ m. active_changed (is_loose_with xid) n m s.associations (n == m) refl idle (h.active m);
  own = λ m y. own_taken n m xid y s.associations (n == m) (xid_eq xid y) refl refl (none_own n xid s.associations idle e) (h.own m y);
  connected = λ m none. seated_changed s (is_loose_with xid) n m seated none (h.connected m none);
  bound = λ y none. omega (arith, h.bound y none, holders_same s (is_loose_with xid) (Active n) y);
  loose = λ y. omega (arith, h.loose y, count_changed (is_loose_with xid) (held_by (Active n)) (is_loose_with y) (λ a is now. absurd (cc now)) s.associations);
}

-- Suspended: the active one is the session's own still, or nobody's

works_own : (n : ℕ) (xid : Triple) (a : Association) → works_in n xid a ≡ true → is_own n a.holder ≡ true
works_own n xid a is = active_own n a.holder (both_true (is_active n a.holder) (xid_eq a.xid xid) is).0

seated_own : (n m : ℕ) (a : Association) → is_own n a.holder ≡ true → (n == m) ≡ true → is_own m a.holder ≡ true
seated_own n m a own e = let same : n ≡ m = grind (arith, nat_tests) in subst (λ (k : ℕ). is_own k a.holder ≡ true) same own

loosened : (xid y : Triple) (n : ℕ) (held : List Association) (d : Bool) → xid_eq xid y ≡ d → loose_of held xid < 64 → loose_of held y ≤ 64 → loose_of (change (works_in n xid) (held_by Loose) held) y ≤ 64
loosened xid y n held true e room most =
    let here : loose_of held y < 64 = subst (λ (z : Triple). loose_of held z < 64) (xid_same xid y e) room in
    omega (arith, count_change (works_in n xid) (held_by Loose) (is_loose_with y) held)
loosened xid y n held false e room most =
    omega (
      arith,
      count_changed (works_in n xid) (held_by Loose) (is_loose_with y)
          (λ a is now. absurd (cc (now, other_xid xid y a (both_true (is_active n a.holder) (xid_eq a.xid xid) is).1 e))) held,
    )

pub suspended_held : (s : State) (n : ℕ) (xid : Triple) (migrates : Bool) → IsSound s → (migrates ≡ true → loose_of s.associations xid < 64)
    → AreHeld s (change (works_in n xid) (held_by (cond migrates Loose (Suspended n))) s.associations)
suspended_held s n xid true h room = record {
  active = λ m. omega (arith, h.active m, count_changed (works_in n xid) (held_by Loose) (λ a. is_active m a.holder) (λ a is now. absurd (cc now)) s.associations);
  own = λ m y. omega (arith, h.own m y, count_changed (works_in n xid) (held_by Loose) (owns m y) (λ a is now. absurd (cc now)) s.associations);
  connected = λ m none. omega (arith, h.connected m none, count_changed (works_in n xid) (held_by Loose) (is_of_session m) (λ a is now. absurd (cc now)) s.associations);
  bound = λ y none. omega (arith, h.bound y none, holders_same s (works_in n xid) Loose y);
  loose = λ y. loosened xid y n s.associations (xid_eq xid y) refl (room refl) (h.loose y);
}
suspended_held s n xid false h room = record {
  active = λ m. omega (arith, h.active m, count_changed (works_in n xid) (held_by (Suspended n)) (λ a. is_active m a.holder) (λ a is now. absurd (cc now)) s.associations);
  own = λ m y. omega (arith, h.own m y, count_changed (works_in n xid) (held_by (Suspended n)) (owns m y) (λ a is now. own_kept n m y a (works_own n xid a is) now) s.associations);
  connected = λ m none. omega (arith, h.connected m none, count_changed (works_in n xid) (held_by (Suspended n)) (is_of_session m) (λ a is now. seated_own n m a (works_own n xid a is) now) s.associations);
  bound = λ y none. omega (arith, h.bound y none, holders_same s (works_in n xid) (Suspended n) y);
  loose = λ y. omega (arith, h.loose y, count_changed (works_in n xid) (held_by (Suspended n)) (is_loose_with y) (λ a is now. absurd (cc now)) s.associations);
}
