-- What look-ups see where one seat is another.
use Rattle.std.proofs.Common.{◌≡◌, ℕ, ◌==◌, Bool, true, false, not, ◌&&◌, ◌||◌, cond, length, Option, Some, None, refl, ap, sym, ◌∙◌, arith, rules}
use Rattle.std.specs.Prelude.{option_map, option_and_then}
use Rattle.std.specs.Cmp.Rules.{comparing}
use Rattle.std.specs.Ordering.{nat_cmp, is_eq}
use Rattle.std.specs.BTreeSet.{contains}
use Rattle.std.proofs.lemmas.Bool.Decides.{nat_tests}
use Rattle.xa_xid.specs.Triple.{Triple, xid_cmp, xid_eq}
use Rattle.xa_model.specs.State.{is_with}
use Rattle.xa_model.proofs.Xids.{cmp_is_eq}
use Rattle.xa_assoc.specs.declared.seat.Seat.{Seat}
use Rattle.xa_assoc.specs.declared.sessions.Sessions.{Sessions}
use Rattle.xa_assoc.specs.Own.{SetsOne}
use Rattle.xa_assoc.specs.Seats.{seat_at, opened_at, active_at, owns_at, scan_at, limit_at, limit_in, holds}
use Rattle.xa_assoc.specs.Changes.{ComesToWork, ComesToRest, LosesOwn, IsSameRoom}

pub number_is : (n k : ℕ) → is_eq (nat_cmp n k) ≡ (n == k)
number_is n k = search (comparing, rules) depth 9

-- the seat of a session is another
pub record Reseats (m m' : Sessions) (n : ℕ) (x x' : Seat) : Type 0 where
  pub was : seat_at m n ≡ Some x
  pub at : (k : ℕ) → seat_at m' k ≡ cond (is_eq (nat_cmp n k)) (Some x') (seat_at m k)
  pub opened : x'.opened ≡ x.opened
  pub scan : x'.scan ≡ x.scan
  pub limit : x'.limit ≡ x.limit
  pub connected : length m'.seats.entries ≡ length m.seats.entries
  pub free : m'.free ≡ m.free

pushed : {A : Type 0} (g : Option Seat → A) (b : Bool) (o p : Option Seat) → g (cond b o p) ≡ cond b (g o) (g p)
pushed g true o p = refl
pushed g false o p = refl

-- whatever is looked up of a seat
seen : {A : Type 0} (g : Option Seat → A) (m m' : Sessions) (n : ℕ) (x x' : Seat) → Reseats m m' n x x' → (k : ℕ) → g (seat_at m' k) ≡ cond (n == k) (g (Some x')) (g (seat_at m k))
seen g m m' n x x' r k = ap g (r.at k) ∙ pushed g (is_eq (nat_cmp n k)) (Some x') (seat_at m k) ∙ ap (λ (b : Bool). cond b (g (Some x')) (g (seat_at m k))) (number_is n k)

-- where it is told of the old seat as well
here_by : {A : Type 0} (g : ℕ → A) (n k : ℕ) (v w : A) (c : Bool) → (n == k) ≡ c → g n ≡ v → (c ≡ true → w ≡ v) → cond c w (g k) ≡ g k
here_by g n k v w true e at same = let is : n ≡ k = grind (arith, nat_tests) in same refl ∙ sym at ∙ ap g is
here_by g n k v w false e at same = refl

pub same_room : (m m' : Sessions) (n : ℕ) (x x' : Seat) → Reseats m m' n x x' → IsSameRoom m m'
same_room m m' n x x' r = record {
  opened = λ k. seen (λ o. option_map (λ y. y.opened) o) m m' n x x' r k
      ∙ here_by (opened_at m) n k (Some x.opened) (Some x'.opened) (n == k) refl (ap (λ (o : Option Seat). option_map (λ y. y.opened) o) r.was) (λ h. ap Some r.opened);
  scan = λ k. seen (λ o. option_and_then (λ y. y.scan) o) m m' n x x' r k
      ∙ here_by (scan_at m) n k x.scan x'.scan (n == k) refl (ap (λ (o : Option Seat). option_and_then (λ y. y.scan) o) r.was) (λ h. r.scan);
  limit = λ k. seen limit_in m m' n x x' r k ∙ here_by (limit_at m) n k x.limit x'.limit (n == k) refl (ap limit_in r.was) (λ h. r.limit);
  connected = r.connected;
  free = r.free;
}

-- a session sits down

-- a fact of both sides at the session, and of one elsewhere
at_number : {A : Type 0} (g : ℕ → A) (f : Bool → A → A) (n k : ℕ) (w : A) (c : Bool) → (n == k) ≡ c → w ≡ f true (g n) → ((a : A) → f false a ≡ a) → cond c w (g k) ≡ f c (g k)
at_number g f n k w true e is other = let same : n ≡ k = grind (arith, nat_tests) in is ∙ ap (λ (i : ℕ). f true (g i)) same
at_number g f n k w false e is other = sym (other (g k))

or_true : (b c : Bool) → cond c true b ≡ (b || c)
or_true true true = refl
or_true true false = refl
or_true false true = refl
or_true false false = refl

pub or_false : (b : Bool) → (b || false) ≡ b
or_false true = refl
or_false false = refl

pub sat : (m m' : Sessions) (n : ℕ) (xid : Triple) (x x' : Seat) → Reseats m m' n x x' → x'.active ≡ Some xid
    → SetsOne x.own xid true x'.own → ComesToWork m n xid m'
sat m m' n xid x x' r active own = record {
  active = λ k. seen (λ o. option_and_then (λ y. y.active) o) m m' n x x' r k ∙ ap (λ (o : Option Triple). cond (n == k) o (active_at m k)) active;
  own = λ k q. seen (holds q) m m' n x x' r k
      ∙ at_number (λ (i : ℕ). owns_at m i q) (λ (c b : Bool). b || (c && xid_eq xid q)) n k (contains xid_cmp x'.own q) (n == k) refl
      (own q ∙ ap (λ (c : Bool). cond c true (contains xid_cmp x.own q)) (cmp_is_eq xid q) ∙ or_true (contains xid_cmp x.own q) (xid_eq xid q) ∙ ap (λ (o : Option Seat). holds q o || xid_eq xid q) (sym r.was))
      or_false;
}

-- a session stands up

pub stood : (m m' : Sessions) (n : ℕ) (x x' : Seat) → Reseats m m' n x x' → x'.active ≡ None → x'.own ≡ x.own → ComesToRest m n m'
stood m m' n x x' r active own = record {
  active = λ k. seen (λ o. option_and_then (λ y. y.active) o) m m' n x x' r k ∙ ap (λ (o : Option Triple). cond (n == k) o (active_at m k)) active;
  own = λ k q. seen (holds q) m m' n x x' r k
      ∙ here_by (λ (i : ℕ). owns_at m i q) n k (contains xid_cmp x.own q) (contains xid_cmp x'.own q) (n == k) refl (ap (holds q) r.was) (λ h. rw own refl);
}

-- a session leaves

and_not : (b c : Bool) → cond c false b ≡ (b && not c)
and_not true true = refl
and_not true false = refl
and_not false true = refl
and_not false false = refl

and_true : (b : Bool) → (b && true) ≡ b
and_true true = refl
and_true false = refl

pub left : (m m' : Sessions) (n : ℕ) (xid : Triple) (x x' : Seat) → Reseats m m' n x x' → x'.active ≡ cond (is_with xid x.active) None x.active
    → SetsOne x.own xid false x'.own → LosesOwn m n xid m'
left m m' n xid x x' r active own = record {
  active = λ k. seen (λ o. option_and_then (λ y. y.active) o) m m' n x x' r k
      ∙ at_number (active_at m) (λ (c : Bool) (o : Option Triple). cond (c && is_with xid o) None o) n k x'.active (n == k) refl
      (active ∙ ap (λ (o : Option Seat). cond (is_with xid (option_and_then (λ y. y.active) o)) None (option_and_then (λ y. y.active) o)) (sym r.was))
      (λ o. refl);
  own = λ k q. seen (holds q) m m' n x x' r k
      ∙ at_number (λ (i : ℕ). owns_at m i q) (λ (c b : Bool). b && not (c && xid_eq xid q)) n k (contains xid_cmp x'.own q) (n == k) refl
      (own q ∙ ap (λ (c : Bool). cond c false (contains xid_cmp x.own q)) (cmp_is_eq xid q) ∙ and_not (contains xid_cmp x.own q) (xid_eq xid q) ∙ ap (λ (o : Option Seat). holds q o && not (xid_eq xid q)) (sym r.was))
      and_true;
}
