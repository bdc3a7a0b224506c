-- A table of sessions where a session opens, closes, connects or hangs up.
use Rattle.std.proofs.Common.{◌≡◌, ℕ, zero, suc, ◌+◌, ◌-◌, ◌<◌, ◌≤◌, ◌==◌, nat_lt, Bool, true, false, not, cond, List, [], ◌∷◌, length, Option, Some, None, refl, ap, sym, ◌∙◌, subst, arith}
use Rattle.std.specs.Prelude.{option_map, option_and_then, is_some}
use Rattle.std.proofs.lemmas.Bool.Decides.{nat_tests}
use Rattle.xa_model.specs.State.{State, Session, session_of, free_from, free_number, change, limit_by}
use Rattle.xa_model.specs.Associations.{as_opened, as_closed, open_by}
use Rattle.xa_model.specs.Recovering.{with_scan, scanning}
use Rattle.xa_model.specs.TimeLimits.{with_limit, timeout_by}
use Rattle.xa_xid.specs.Triple.{Triple}
use Rattle.xa_model.proofs.Lists.{find_change_same, find_change_other, length-change}
use Rattle.xa_model.proofs.Numbers.{free_number_free}
use Rattle.xa_assoc.specs.declared.sessions.Sessions.{Sessions}
use Rattle.xa_assoc.specs.Free.{is_free}
use Rattle.xa_assoc.specs.Seats.{opened_at, scan_at, limit_at}
use Rattle.xa_assoc.specs.Changes.{Sets}
use Rattle.xa_assoc.specs.Sessions.{SessionsStandFor, Follows}
use Rattle.xa_assoc.proofs.Moves.{same_number}

-- Open and close

pub apart_numbers : (n k a : ℕ) → (n == k) ≡ false → (a == n) ≡ true → (a == k) ≡ false
apart_numbers n k a apart is = grind (arith, nat_tests)

-- what a change of sessions makes of one
pub record Makes (opens : Bool → Bool) (scans : Option (Option Triple) → Option (Option Triple)) (limits : ℕ → ℕ) (f : Session → Session) : Type 0 where
  pub number : (x : Session) → (f x).number ≡ x.number
  pub opened : (x : Session) → (f x).opened ≡ opens x.opened
  pub scan : (x : Session) → (f x).scan ≡ scans x.scan
  pub limit : (x : Session) → (f x).limit ≡ limits x.limit

-- whatever is looked up of a session
changed_by : {A : Type 0} (g : Option Session → A) (n k : ℕ) (f : Session → Session) (xs : List Session) (c : Bool) → (n == k) ≡ c → ((x : Session) → (f x).number ≡ x.number)
    → g (session_of (change (λ x. x.number == n) f xs) k) ≡ cond c (g (option_map f (session_of xs k))) (g (session_of xs k))
changed_by g n k f xs true e keeps =
    let here : g (session_of (change (λ x. x.number == n) f xs) n) ≡ g (option_map f (session_of xs n)) = ap g (find_change_same (λ (x : Session). x.number == n) f (λ x h. rw (keeps x) h) xs) in
    subst (λ (i : ℕ). g (session_of (change (λ x. x.number == n) f xs) i) ≡ g (option_map f (session_of xs i))) (same_number n k e) here
changed_by g n k f xs false e keeps =
    ap g (find_change_other (λ (x : Session). x.number == n) (λ (x : Session). x.number == k) f (λ x h. (apart_numbers n k x.number e h, rw (keeps x) (apart_numbers n k x.number e h))) xs)

set_opened : (opens : Bool → Bool) (f : Session → Session) (o : Option Session) → ((x : Session) → (f x).opened ≡ opens x.opened)
    → option_map opens (option_map (λ x. x.opened) o) ≡ option_map (λ x. x.opened) (option_map f o)
set_opened opens f None h = refl
set_opened opens f (Some x) h = ap Some (sym (h x))

set_scan : (scans : Option (Option Triple) → Option (Option Triple)) (f : Session → Session) (o : Option Session) → ((x : Session) → (f x).scan ≡ scans x.scan)
    → option_and_then (λ (_ : Bool). scans (option_and_then (λ x. x.scan) o)) (option_map (λ x. x.opened) o) ≡ option_and_then (λ x. x.scan) (option_map f o)
set_scan scans f None h = refl
set_scan scans f (Some x) h = sym (h x)

set_limit : (limits : ℕ → ℕ) (f : Session → Session) (o : Option Session) → ((x : Session) → (f x).limit ≡ limits x.limit)
    → cond (is_some (option_map (λ x. x.opened) o)) (limits (limit_by o)) 0 ≡ limit_by (option_map f o)
set_limit limits f None h = refl
set_limit limits f (Some x) h = sym (h x)

sets_follow : (m m' : Sessions) (n : ℕ) (opens : Bool → Bool) (scans : Option (Option Triple) → Option (Option Triple)) (limits : ℕ → ℕ) (f : Session → Session) (s : State)
    → Sets m n opens scans limits m' → Makes opens scans limits f
    → SessionsStandFor m s → SessionsStandFor m' (record s { sessions = change (λ x. x.number == n) f s.sessions })
sets_follow m m' n opens scans limits f s d makes st = record {
  opened = λ k. d.opened k ∙ ap (λ (o : Option Bool). cond (n == k) (option_map opens o) o) (st.opened k)
      ∙ ap (λ (o : Option Bool). cond (n == k) o (option_map (λ (x : Session). x.opened) (session_of s.sessions k))) (set_opened opens f (session_of s.sessions k) makes.opened)
      ∙ sym (changed_by (option_map (λ (x : Session). x.opened)) n k f s.sessions (n == k) refl makes.number);
  active = λ k. d.active k ∙ st.active k;
  own = λ k q. d.own k q ∙ st.own k q;
  scan = λ k. d.scan k
      ∙ ap (λ (o : Option Bool). cond (n == k) (option_and_then (λ (_ : Bool). scans (scan_at m k)) o) (scan_at m k)) (st.opened k)
      ∙ ap (λ (o : Option (Option Triple)). cond (n == k) (option_and_then (λ (_ : Bool). scans o) (option_map (λ (x : Session). x.opened) (session_of s.sessions k))) o) (st.scan k)
      ∙ ap (λ (o : Option (Option Triple)). cond (n == k) o (option_and_then (λ (x : Session). x.scan) (session_of s.sessions k))) (set_scan scans f (session_of s.sessions k) makes.scan)
      ∙ sym (changed_by (option_and_then (λ (x : Session). x.scan)) n k f s.sessions (n == k) refl makes.number);
  limit = λ k. d.limit k
      ∙ ap (λ (o : Option Bool). cond (n == k) (cond (is_some o) (limits (limit_at m k)) 0) (limit_at m k)) (st.opened k)
      ∙ ap (λ (l : ℕ). cond (n == k) (cond (is_some (option_map (λ (x : Session). x.opened) (session_of s.sessions k))) (limits l) 0) l) (st.limit k)
      ∙ ap (λ (l : ℕ). cond (n == k) l (limit_by (session_of s.sessions k))) (set_limit limits f (session_of s.sessions k) makes.limit)
      ∙ sym (changed_by limit_by n k f s.sessions (n == k) refl makes.number);
  connected = d.connected ∙ st.connected ∙ sym (length-change (λ (x : Session). x.number == n) f s.sessions);
  free = λ k below. ap (λ (words : List ℕ). is_free words k) d.free ∙ st.free k below
      ∙ ap not (still (n == k + 1) (opened_at m (k + 1))) ∙ ap (λ (o : Option Bool). not (is_some o)) (sym (d.opened (k + 1)));
}
  where
    still : (c : Bool) (o : Option Bool) → is_some o ≡ is_some (cond c (option_map opens o) o)
    still true None = refl
    still true (Some a) = refl
    still false o = refl

pub open_follows : (m m' : Sessions) (n : ℕ) → Sets m n (λ _. true) (λ scan. scan) (λ limit. limit) m' → Follows m (λ s. (open_by s n).after) m'
open_follows m m' n d = λ s sound st. sets_follow m m' n (λ _. true) (λ scan. scan) (λ limit. limit) as_opened s d (record { number = λ x. refl; opened = λ x. refl; scan = λ x. refl; limit = λ x. refl }) st

pub closed_follows : (m m' : Sessions) (n : ℕ) (s : State) → Sets m n (λ _. false) (λ _. None) (λ limit. limit) m' → SessionsStandFor m s → SessionsStandFor m' (record s { sessions = change (λ x. x.number == n) as_closed s.sessions })
closed_follows m m' n s d st = sets_follow m m' n (λ _. false) (λ _. None) (λ limit. limit) as_closed s d (record { number = λ x. refl; opened = λ x. refl; scan = λ x. refl; limit = λ x. refl }) st

pub scan_follows : (m m' : Sessions) (n : ℕ) (scan : Option (Option Triple)) (s : State) → Sets m n (λ opened. opened) (λ _. scan) (λ limit. limit) m' → SessionsStandFor m s → SessionsStandFor m' (scanning s n scan)
scan_follows m m' n scan s d st = sets_follow m m' n (λ opened. opened) (λ _. scan) (λ limit. limit) (with_scan scan) s d (record { number = λ x. refl; opened = λ x. refl; scan = λ x. refl; limit = λ x. refl }) st

pub limit_follows : (m m' : Sessions) (n limit : ℕ) (s : State) → Sets m n (λ opened. opened) (λ scan. scan) (λ _. limit) m' → SessionsStandFor m s → SessionsStandFor m' (timeout_by s n limit).after
limit_follows m m' n limit s d st = sets_follow m m' n (λ opened. opened) (λ scan. scan) (λ _. limit) (with_limit limit) s d (record { number = λ x. refl; opened = λ x. refl; scan = λ x. refl; limit = λ x. refl }) st

-- where it isn't connected nothing changes
nobody_by : (n : ℕ) (f : Session → Session) (x : Session) (xs ys : List Session) (c : Bool) → cond c (Some x) (session_of xs n) ≡ None → (session_of xs n ≡ None → ys ≡ xs)
    → cond c (f x ∷ xs) (x ∷ ys) ≡ x ∷ xs
nobody_by n f x xs ys true none rest = absurd (cc none)
nobody_by n f x xs ys false none rest = ap (λ (zs : List Session). x ∷ zs) (rest none)

nobody : (n : ℕ) (f : Session → Session) (xs : List Session) → session_of xs n ≡ None → change (λ x. x.number == n) f xs ≡ xs
nobody n f [] none = refl
nobody n f (x ∷ xs) none = nobody_by n f x xs (change (λ y. y.number == n) f xs) (x.number == n) none (nobody n f xs)

unopened : (o : Option Session) → option_map (λ (x : Session). x.opened) o ≡ None → o ≡ None
unopened None e = refl
unopened (Some x) e = absurd (cc e)

pub limit_stays : (m : Sessions) (n limit : ℕ) (s : State) → opened_at m n ≡ None → SessionsStandFor m s → SessionsStandFor m (timeout_by s n limit).after
limit_stays m n limit s none st =
    let absent : session_of s.sessions n ≡ None = unopened (session_of s.sessions n) (sym (st.opened n) ∙ none) in
    subst (λ (xs : List Session). SessionsStandFor m (record s { sessions = xs })) (sym (nobody n (with_limit limit) s.sessions absent)) st

-- The number of a session that connects

lower : (xs : List Session) (tries n : ℕ) → n ≤ free_from xs tries n
lower xs zero n = omega arith
lower xs (suc tries) n = lower_by (is_some (session_of xs n)) (lower xs tries (n + 1))
  where
    lower_by : (c : Bool) → n + 1 ≤ free_from xs tries (n + 1) → n ≤ cond c (free_from xs tries (n + 1)) n
    lower_by true h = omega arith
    lower_by false h = omega arith

upper : (xs : List Session) (tries n : ℕ) → free_from xs tries n ≤ n + tries
upper xs zero n = omega arith
upper xs (suc tries) n = upper_by (is_some (session_of xs n)) (upper xs tries (n + 1))
  where
    upper_by : (c : Bool) → free_from xs tries (n + 1) ≤ n + 1 + tries → cond c (free_from xs tries (n + 1)) n ≤ n + suc tries
    upper_by true h = omega arith
    upper_by false h = omega arith

-- all below it are taken
taken_below : (xs : List Session) (tries n k : ℕ) → n ≤ k → k < free_from xs tries n → is_some (session_of xs k) ≡ true
taken_below xs zero n k low high = absurd (omega arith)
taken_below xs (suc tries) n k low high = by_side (is_some (session_of xs n)) (k == n) refl refl (λ above h. taken_below xs tries (n + 1) k above h) high
  where
    by_side : (c d : Bool) → is_some (session_of xs n) ≡ c → (k == n) ≡ d → (n + 1 ≤ k → k < free_from xs tries (n + 1) → is_some (session_of xs k) ≡ true) → k < cond c (free_from xs tries (n + 1)) n → is_some (session_of xs k) ≡ true
    by_side true true e is rest h = subst (λ (i : ℕ). is_some (session_of xs i) ≡ true) (sym (same_number k n is)) e
    by_side true false e is rest h = let above : n + 1 ≤ k = grind (arith, nat_tests) in rest above h
    by_side false d e is rest h = absurd (omega arith)

is_nothing : (o : Option Session) → is_some o ≡ false → o ≡ None
is_nothing None e = refl
is_nothing (Some x) e = absurd (cc e)

-- the least number that isn't taken
pub least_number : (xs : List Session) (t : ℕ) → is_some (session_of xs (t + 1)) ≡ false → ((j : ℕ) → j < t → is_some (session_of xs (j + 1)) ≡ true) → free_number xs ≡ t + 1
least_number xs t free taken = by_order (nat_lt (free_number xs) (t + 1)) (nat_lt (t + 1) (free_number xs)) refl refl
  where
    at_free : is_some (session_of xs (free_number xs)) ≡ false
    at_free = rw (free_number_free xs) refl

    by_order : (c d : Bool) → nat_lt (free_number xs) (t + 1) ≡ c → nat_lt (t + 1) (free_number xs) ≡ d → free_number xs ≡ t + 1
    by_order true d e h =
        let low = lower xs (length xs) 1 in
        let below : free_number xs < t + 1 = grind (arith, nat_tests) in
        let index : (free_number xs - 1) + 1 ≡ free_number xs = omega (arith, low) in
        let there : is_some (session_of xs (free_number xs)) ≡ true = subst (λ (i : ℕ). is_some (session_of xs i) ≡ true) index (taken (free_number xs - 1) (omega (arith, low))) in
        absurd (cc (at_free, there))
    by_order false true e h =
        let above : t + 1 < free_number xs = grind (arith, nat_tests) in
        let there = taken_below xs (length xs) 1 (t + 1) (omega arith) above in
        absurd (cc (free, there))
    by_order false false e h = grind (arith, nat_tests)

-- not all of this many numbers are taken by fewer sessions
pub never_full : (xs : List Session) (limit : ℕ) → length xs < limit → ((j : ℕ) → j < limit → is_some (session_of xs (j + 1)) ≡ true) → ⊥
never_full xs limit fewer taken =
    let low = lower xs (length xs) 1 in
    let high = upper xs (length xs) 1 in
    let index : (free_number xs - 1) + 1 ≡ free_number xs = omega (arith, low) in
    let there : is_some (session_of xs (free_number xs)) ≡ true = subst (λ (i : ℕ). is_some (session_of xs i) ≡ true) index (taken (free_number xs - 1) (omega (arith, low, high))) in
    let here : is_some (session_of xs (free_number xs)) ≡ false = rw (free_number_free xs) refl in
    absurd (cc (here, there))
