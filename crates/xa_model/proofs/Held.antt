-- A state stays sound where an association is added, ends, or is held by another.
use Rattle.std.proofs.Common.{◌≡◌, ℕ, ◌+◌, ◌≤◌, ◌==◌, Bool, true, false, ◌&&◌, cond, List, ◌∷◌, Option, None, refl, arith, subst, ap}
use Rattle.std.specs.Prelude.{is_some}
use Rattle.std.proofs.lemmas.Bool.Decides.{nat_tests}
use Rattle.xa_xid.specs.Triple.{Triple, xid_eq}
use Rattle.xa_xid.proofs.Same.{xid_same}
use Rattle.xa_model.specs.State.{State, Association, Active, count, is_active, owns, known_of, session_of, holders_of, loose_of, is_at_work}
use Rattle.xa_model.specs.Associations.{is_of_session}
use Rattle.xa_model.specs.Invariants.Sound.{IsSound}

-- what soundness asks of the associations
pub record AreHeld (s : State) (held : List Association) : Type 0 where
  pub active : (n : ℕ) → count (λ a. is_active n a.holder) held ≤ 1
  pub own : (n : ℕ) (xid : Triple) → count (owns n xid) held ≤ 1
  pub connected : (n : ℕ) → session_of s.sessions n ≡ None → count (is_of_session n) held ≡ 0
  pub bound : (xid : Triple) → is_at_work (known_of s.branches xid) ≡ false → holders_of held xid ≡ 0
  pub loose : (xid : Triple) → loose_of held xid ≤ 64

pub with_held : (s : State) (held : List Association) → IsSound s → AreHeld s held → IsSound (record s { associations = held })
with_held s held h k = record {
  descends = h.descends;
  distinct = h.distinct;
  numbered = h.numbered;
  active = k.active;
  own = k.own;
  connected = k.connected;
  bound = k.bound;
  sessions = h.sessions;
  known = h.known;
  given = h.given;
  loose = k.loose;
}

-- one more, that a session is at work in

one_or_none : (n m : ℕ) (c : Bool) (k : ℕ) → (n == m) ≡ c → (n ≡ m → k ≡ 0) → k ≤ 1 → cond c 1 0 + k ≤ 1
one_or_none n m true k e none most = let same : n ≡ m = grind (arith, nat_tests) in let zero_ : k ≡ 0 = none same in omega arith
one_or_none n m false k e none most = omega arith

pub active_more : (held : List Association) (n m : ℕ) → count (λ a. is_active n a.holder) held ≡ 0 → count (λ a. is_active m a.holder) held ≤ 1 → cond (n == m) 1 0 + count (λ a. is_active m a.holder) held ≤ 1
active_more held n m free most =
    one_or_none n m (n == m) (count (λ a. is_active m a.holder) held) refl (λ e. subst (λ (k : ℕ). count (λ a. is_active k a.holder) held ≡ 0) e free) most

own_more_by : (held : List Association) (n m : ℕ) (x y : Triple) (c d : Bool) → (n == m) ≡ c → xid_eq x y ≡ d → count (owns n x) held ≡ 0 → count (owns m y) held ≤ 1 → cond (c && d) 1 0 + count (owns m y) held ≤ 1
own_more_by held n m x y true true e h free most =
    let same : n ≡ m = grind (arith, nat_tests) in
    let none : count (owns m y) held ≡ 0 = subst (λ (z : Triple). count (owns m z) held ≡ 0) (xid_same x y h) (subst (λ (k : ℕ). count (owns k x) held ≡ 0) same free) in omega arith
own_more_by held n m x y true false e h free most = omega arith
own_more_by held n m x y false d e h free most = omega arith

seated_more_by : (s : State) (n m : ℕ) (c : Bool) → (n == m) ≡ c → is_some (session_of s.sessions n) ≡ true → session_of s.sessions m ≡ None → (k : ℕ) → k ≡ 0 → cond c 1 0 + k ≡ 0
seated_more_by s n m true e seated none k z =
    let same : n ≡ m = grind (arith, nat_tests) in
    let here : is_some (session_of s.sessions m) ≡ true = subst (λ (j : ℕ). is_some (session_of s.sessions j) ≡ true) same seated in
    absurd (cc (here, ap (λ (o : Option _). is_some o) none))
seated_more_by s n m false e seated none k z = omega arith

bound_more_by : (s : State) (x y : Triple) (c : Bool) → xid_eq x y ≡ c → is_at_work (known_of s.branches x) ≡ true → is_at_work (known_of s.branches y) ≡ false → (k : ℕ) → k ≡ 0 → cond c 1 0 + k ≡ 0
bound_more_by s x y true e works none k z =
    let here : is_at_work (known_of s.branches y) ≡ true = subst (λ (q : Triple). is_at_work (known_of s.branches q) ≡ true) (xid_same x y e) works in absurd (cc (here, none))
bound_more_by s x y false e works none k z = omega arith

pub one_more_sound : (s : State) (n : ℕ) (xid : Triple) → IsSound s → is_some (session_of s.sessions n) ≡ true → is_at_work (known_of s.branches xid) ≡ true
    → count (λ a. is_active n a.holder) s.associations ≡ 0 → count (owns n xid) s.associations ≡ 0
    → IsSound (record s { associations = record { xid = xid; holder = Active n } ∷ s.associations })
one_more_sound s n xid h seated works idle free = with_held s (record { xid = xid; holder = Active n } ∷ s.associations) h (record {
  active = λ m. active_more s.associations n m idle (h.active m);
  own = λ m y. own_more_by s.associations n m xid y (n == m) (xid_eq xid y) refl refl free (h.own m y);
  connected = λ m none. seated_more_by s n m (n == m) refl seated none (count (is_of_session m) s.associations) (h.connected m none);
  bound = λ y none. bound_more_by s xid y (xid_eq xid y) refl works none (holders_of s.associations y) (h.bound y none);
  loose = λ y. omega (arith, h.loose y);
})
