-- A table of sessions whose associations and scans are gone, as a restart leaves it.
use Rattle.std.proofs.Common.{◌≡◌, ℕ, suc, ◌+◌, ◌==◌, Bool, true, false, not, cond, List, [], ◌∷◌, length, Option, Some, None, refl, ap, sym, ◌∙◌}
use Rattle.std.specs.Prelude.{map, option_map, option_and_then, is_some}
use Rattle.std.specs.BTreeMap.{is_at}
use Rattle.std.specs.Map.{lookup}
use Rattle.std.specs.Map.Calls.{RetainsPairs}
use Rattle.std.specs.List.{list_any}
use Rattle.std.specs.Ordering.{nat_cmp}
use Rattle.xa_xid.specs.Triple.{Triple, xid_cmp}
use Rattle.xa_model.specs.State.{State, Session, Association, session_of, active_of, owns, limit_by}
use Rattle.xa_model.specs.Recovering.{scan_of}
use Rattle.xa_model.specs.Restarting.{without_scan}
use Rattle.xa_assoc.specs.declared.seat.Seat.{Seat}
use Rattle.xa_assoc.specs.declared.sessions.Sessions.{Sessions}
use Rattle.xa_assoc.specs.Free.{is_free}
use Rattle.xa_assoc.specs.Seats.{holds, limit_in}
use Rattle.xa_assoc.specs.Changes.{Clears}
use Rattle.xa_assoc.specs.Sessions.{SessionsStandFor}

-- The table

pub record IsCleared (x x' : Seat) : Type 0 where
  pub opened : x'.opened ≡ x.opened
  pub active : x'.active ≡ None
  pub own : x'.own.keys ≡ []
  pub scan : x'.scan ≡ None
  pub limit : x'.limit ≡ x.limit

-- what look-ups see of a seat, and of it when it is cleared
pub record AreSeenCleared (o o' : Option Seat) : Type 0 where
  pub opened : option_map (λ x. x.opened) o' ≡ option_map (λ x. x.opened) o
  pub active : option_and_then (λ x. x.active) o' ≡ None
  pub own : (q : Triple) → holds q o' ≡ false
  pub scan : option_and_then (λ x. x.scan) o' ≡ None
  pub limit : limit_in o' ≡ limit_in o

none_seen : AreSeenCleared None None
none_seen = record { opened = refl; active = refl; own = λ q. refl; scan = refl; limit = refl }

some_seen : (x x' : Seat) → IsCleared x x' → AreSeenCleared (Some x) (Some x')
some_seen x x' h = record {
  opened = ap Some h.opened;
  active = h.active;
  own = λ q. ap (λ (keys : List Triple). list_any (is_at (xid_cmp q)) keys) h.own;
  scan = h.scan;
  limit = h.limit;
}

seen_by : (x x' : Seat) (o o' : Option Seat) (c : Bool) → IsCleared x x' → AreSeenCleared o o' → AreSeenCleared (cond c (Some x) o) (cond c (Some x') o')
seen_by x x' o o' true h rest = some_seen x x' h
seen_by x x' o o' false h rest = rest

-- each entry is kept, with its seat cleared
pub record AreCleared (es kept : List (ℕ × Seat)) : Type 0 where
  pub seen : (test : ℕ → Bool) → AreSeenCleared (lookup test es) (lookup test kept)
  pub length : length kept ≡ length es

kept_by : (k : ℕ) (x x' : Seat) (es rest kept : List (ℕ × Seat)) (b : Bool) → b ≡ true → IsCleared x x' → AreCleared es rest → kept ≡ cond b ((k, x') ∷ rest) rest → AreCleared ((k, x) ∷ es) kept
kept_by k x x' es rest kept false keeps h all is = absurd (cc keeps)
kept_by k x x' es rest kept true keeps h all is = rw is (record {
  seen = λ test. seen_by x x' (lookup test es) (lookup test rest) (test k) h (all.seen test);
  length = ap (λ n. suc n) all.length;
})

pub all_cleared : {F : Type 0} (T : F → ℕ → Seat → Bool → Seat → F → Type 0) → ((f : F) (k : ℕ) (x : Seat) (b : Bool) (x' : Seat) (f' : F) → T f k x b x' f' → (b ≡ true) × IsCleared x x')
    → (f : F) (es kept : List (ℕ × Seat)) → RetainsPairs T f es kept → AreCleared es kept
all_cleared T h f [] kept r = rw r (record { seen = λ test. none_seen; length = refl })
all_cleared T h f (e ∷ es) kept r =
    let here = h f e.0 e.1 r.0 r.1 r.2 r.4 in
    kept_by e.0 e.1 r.1 es r.3 kept r.0 here.0 here.1 (all_cleared T h r.2 es r.3 r.5) r.6

pub clears : (m m' : Sessions) → AreCleared m.seats.entries m'.seats.entries → m'.free ≡ m.free → Clears m m'
clears m m' all free = record {
  opened = λ k. (all.seen (is_at (nat_cmp k))).opened;
  active = λ k. (all.seen (is_at (nat_cmp k))).active;
  own = λ k q. (all.seen (is_at (nat_cmp k))).own q;
  scan = λ k. (all.seen (is_at (nat_cmp k))).scan;
  limit = λ k. (all.seen (is_at (nat_cmp k))).limit;
  connected = all.length;
  free = free;
}

-- The state

opened_by : (n : ℕ) (x : Session) (xs : List Session) (c : Bool) → option_map (λ (y : Session). y.opened) (session_of (map without_scan xs) n) ≡ option_map (λ (y : Session). y.opened) (session_of xs n)
    → option_map (λ (y : Session). y.opened) (cond c (Some (without_scan x)) (session_of (map without_scan xs) n)) ≡ option_map (λ (y : Session). y.opened) (cond c (Some x) (session_of xs n))
opened_by n x xs true rest = refl
opened_by n x xs false rest = rest

still_opened : (n : ℕ) (xs : List Session) → option_map (λ (y : Session). y.opened) (session_of (map without_scan xs) n) ≡ option_map (λ (y : Session). y.opened) (session_of xs n)
still_opened n [] = refl
still_opened n (x ∷ xs) = opened_by n x xs (x.number == n) (still_opened n xs)

scan_by : (n : ℕ) (x : Session) (xs : List Session) (c : Bool) → scan_of (map without_scan xs) n ≡ None
    → option_and_then (λ (y : Session). y.scan) (cond c (Some (without_scan x)) (session_of (map without_scan xs) n)) ≡ None
scan_by n x xs true rest = refl
scan_by n x xs false rest = rest

no_scan : (n : ℕ) (xs : List Session) → scan_of (map without_scan xs) n ≡ None
no_scan n [] = refl
no_scan n (x ∷ xs) = scan_by n x xs (x.number == n) (no_scan n xs)

limit_still : (n : ℕ) (x : Session) (xs : List Session) (c : Bool) → limit_by (session_of (map without_scan xs) n) ≡ limit_by (session_of xs n)
    → limit_by (cond c (Some (without_scan x)) (session_of (map without_scan xs) n)) ≡ limit_by (cond c (Some x) (session_of xs n))
limit_still n x xs true rest = refl
limit_still n x xs false rest = rest

still_limited : (n : ℕ) (xs : List Session) → limit_by (session_of (map without_scan xs) n) ≡ limit_by (session_of xs n)
still_limited n [] = refl
still_limited n (x ∷ xs) = limit_still n x xs (x.number == n) (still_limited n xs)

length-without_scan : (xs : List Session) → length (map without_scan xs) ≡ length xs
length-without_scan [] = refl
length-without_scan (x ∷ xs) = ap (λ n. suc n) (length-without_scan xs)

pub cleared_follows : (m m' : Sessions) (s t : State) → Clears m m' → t.sessions ≡ map without_scan s.sessions → t.associations ≡ [] → SessionsStandFor m s → SessionsStandFor m' t
cleared_follows m m' s t d sessions nobody st = record {
  opened = λ n. d.opened n ∙ st.opened n ∙ sym (still_opened n s.sessions) ∙ ap (λ (xs : List Session). option_map (λ (y : Session). y.opened) (session_of xs n)) (sym sessions);
  active = λ n. d.active n ∙ ap (λ (held : List Association). active_of held n) (sym nobody);
  own = λ n q. d.own n q ∙ ap (λ (held : List Association). list_any (owns n q) held) (sym nobody);
  scan = λ n. d.scan n ∙ sym (no_scan n s.sessions) ∙ ap (λ (xs : List Session). scan_of xs n) (sym sessions);
  limit = λ n. d.limit n ∙ st.limit n ∙ sym (still_limited n s.sessions) ∙ ap (λ (xs : List Session). limit_by (session_of xs n)) (sym sessions);
  connected = d.connected ∙ st.connected ∙ sym (length-without_scan s.sessions) ∙ ap (λ (xs : List Session). length xs) (sym sessions);
  free = λ k below. ap (λ (words : List ℕ). is_free words k) d.free ∙ st.free k below ∙ ap (λ (o : Option Bool). not (is_some o)) (sym (d.opened (k + 1)));
}
