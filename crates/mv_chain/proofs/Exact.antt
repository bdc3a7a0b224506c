-- A change at an index is the change of the list.
use Rattle.std.proofs.Common.{◌≡◌, ℕ, zero, suc, ◌<◌, Bool, true, false, not, ◌&&◌, List, [], ◌∷◌, map, length, get_or, set, Option, refl, sym, ap, ap₂, ◌∙◌, arith}
use Rattle.std.specs.Prelude.{if◌then◌else◌, nat_lt, ◌==◌, filter}
use Rattle.std.specs.List.{list_any, AllByRecursion as Each, insert, remove}
use Rattle.std.proofs.lemmas.Bool.Decides.{nat_tests}
use Rattle.mv_chain.specs.declared.fate.Fate.{Fate}
use Rattle.mv_chain.specs.declared.fate.Fate.TheVariants.{Committed, RolledBack}
use Rattle.mv_chain.specs.declared.version.Version.{Version}
use Rattle.mv_chain.specs.Chain.{IsBefore, IsChain, IsIndex, is_marked, shows, raised, marked, unread, with_version, installed, committing, settled}
use Rattle.mv_chain.proofs.Chains.{each_at, none_own, none_pending, index_within, index_after, shows_last}

pub set_itself : (i : ℕ) (vs : List Version) (w d : Version) → i < length vs → w ≡ get_or vs i d → set vs i w ≡ vs
set_itself i [] w d lt e = refl
set_itself zero (v ∷ vs) w d lt e = ap (λ x. x ∷ vs) e
set_itself (suc i) (v ∷ vs) w d lt e = ap (λ xs. v ∷ xs) (set_itself i vs w d (omega arith) e)

map_same : (f : Version → Version) (vs : List Version) → Each (λ v. f v ≡ v) vs → map f vs ≡ vs
map_same f [] h = refl
map_same f (v ∷ vs) h = ap₂ (λ (x : Version) (xs : List Version). x ∷ xs) h.0 (map_same f vs h.1)

-- the other versions have other timestamps
others_apart : (f : Version → Version) (v : Version) (vs : List Version) → Each (IsBefore v) vs → ((w : Version) → (w.timestamp ≡ v.timestamp → ⊥) → f w ≡ w) → Each (λ w. f w ≡ w) vs
others_apart f v [] h same = tt
others_apart f v (w ∷ ws) h same = (same w (λ e. omega (arith, h.0.0, e)), others_apart f v ws h.1 same)

pub map_set : (f : Version → Version) (i : ℕ) (vs : List Version) (w d : Version) → i < length vs → IsChain vs → w ≡ f (get_or vs i d) → ((v : Version) → (v.timestamp ≡ (get_or vs i d).timestamp → ⊥) → f v ≡ v) → set vs i w ≡ map f vs
map_set f i [] w d lt c e same = refl
map_set f zero (v ∷ vs) w d lt c e same = ap₂ (λ (x : Version) (xs : List Version). x ∷ xs) e (sym (map_same f vs (others_apart f v vs c.0 same)))
map_set f (suc i) (v ∷ vs) w d lt c e same =
    let above = each_at (IsBefore v) vs i d (omega arith) c.0 in
    ap₂ (λ (x : Version) (xs : List Version). x ∷ xs) (sym (same v (λ q. omega (arith, above.0, q)))) (map_set f i vs w d (omega arith) c.2 e same)

-- a read's mark
raised_other : (from reader : ℕ) (v : Version) → (v.timestamp ≡ from → ⊥) → raised from reader v ≡ v
raised_other from reader v ne = let q : (v.timestamp == from) ≡ false = grind (arith, nat_tests, ne) in rw q refl

pub marked_some : (from reader i : ℕ) (vs : List Version) (d : Version) → IsChain vs → IsIndex reader (suc i) vs → set vs i (raised from reader (get_or vs i d)) ≡ marked from reader vs
marked_some from reader i vs d c h = rw (shows_last reader i vs d c h) (at ((get_or vs i d).timestamp == from) refl)
  where
    at : (q : Bool) → ((get_or vs i d).timestamp == from) ≡ q → set vs i (raised from reader (get_or vs i d)) ≡ (if q then map (raised from reader) vs else vs)
    at true e = let own : (get_or vs i d).timestamp ≡ from = grind (arith, nat_tests, e) in map_set (raised from reader) i vs _ d (index_within reader i vs h) c refl (λ v ne. raised_other from reader v (λ q. ne (q ∙ sym own)))
    at false e = set_itself i vs _ d (index_within reader i vs h) (raised_other from reader (get_or vs i d) (λ q. grind (arith, nat_tests, e, q)))

pub marked_nothing : (from reader : ℕ) (vs : List Version) → IsIndex reader zero vs → (shows reader vs).from ≡ 0 → vs ≡ marked from reader vs
marked_nothing from reader vs h none = rw none (at (0 == from) refl)
  where
    at : (q : Bool) → (0 == from) ≡ q → vs ≡ (if q then map (raised from reader) vs else vs)
    at false e = refl
    at true e = sym (map_same (raised from reader) vs (each vs (index_after reader vs h)))
      where
        each : (xs : List Version) → Each (λ v. reader < v.timestamp) xs → Each (λ v. raised from reader v ≡ v) xs
        each [] a = tt
        each (x ∷ xs) a = (raised_other from reader x (λ q. grind (arith, nat_tests, e, q, a.0)), each xs a.1)

-- a write
no_committed : (ts i : ℕ) (vs : List Version) (d : Version) → i < length vs → IsChain vs → (get_or vs i d).timestamp ≡ ts → (get_or vs i d).pending ≡ true → list_any (λ v. (v.timestamp == ts) && not v.pending) vs ≡ false
no_committed ts i [] d lt c e p = refl
no_committed ts zero (v ∷ vs) d lt c e p = grind (arith, nat_tests, p, above vs c.0)
  where
    above : (xs : List Version) → Each (IsBefore v) xs → list_any (λ v. (v.timestamp == ts) && not v.pending) xs ≡ false
    above [] a = refl
    above (x ∷ xs) a = grind (arith, nat_tests, a.0.0, e, above xs a.1)
no_committed ts (suc i) (v ∷ vs) d lt c e p =
    let above = each_at (IsBefore v) vs i d (omega arith) c.0 in
    grind (arith, nat_tests, above.0, e, no_committed ts i vs d (omega arith) c.2 e p)

with_version_own : (ts i : ℕ) (value : Option (List ℕ)) (vs : List Version) (w d : Version) → i < length vs → IsChain vs → (get_or vs i d).timestamp ≡ ts → w ≡ record (get_or vs i d) { value = value } → set vs i w ≡ with_version ts value vs
with_version_own ts i value [] w d lt c e same = absurd (omega arith)
with_version_own ts zero value (v ∷ vs) w d lt c e same =
    let below : nat_lt ts v.timestamp ≡ false = grind (arith, nat_tests, e) in
    let own : (v.timestamp == ts) ≡ true = grind (arith, nat_tests, e) in
    rw (below, own, same) refl
with_version_own ts (suc i) value (v ∷ vs) w d lt c e same =
    let above = each_at (IsBefore v) vs i d (omega arith) c.0 in
    let below : nat_lt ts v.timestamp ≡ false = grind (arith, nat_tests, e, above.0) in
    let other : (v.timestamp == ts) ≡ false = grind (arith, nat_tests, e, above.0) in
    rw (below, other) (ap (λ xs. v ∷ xs) (with_version_own ts i value vs w d (omega arith) c.2 e same))

with_version_new : (ts i : ℕ) (value : Option (List ℕ)) (vs : List Version) → IsIndex ts i vs → Each (λ v. v.timestamp ≡ ts → ⊥) vs → insert vs i (unread ts value) ≡ with_version ts value vs
with_version_new ts zero value [] h none = refl
with_version_new ts (suc i) value [] h none = absurd h
with_version_new ts zero value (v ∷ vs) h none = let above : nat_lt ts v.timestamp ≡ true = grind (arith, nat_tests, h.0) in rw above refl
with_version_new ts (suc i) value (v ∷ vs) h none =
    let below : nat_lt ts v.timestamp ≡ false = grind (arith, nat_tests, h.0) in
    let other : (v.timestamp == ts) ≡ false = grind (arith, nat_tests, none.0) in
    rw (below, other) (ap (λ xs. v ∷ xs) (with_version_new ts i value vs h.1 none.1))

pub installed_own : (ts i : ℕ) (value : Option (List ℕ)) (vs : List Version) (w d : Version) → i < length vs → IsChain vs → is_marked ts vs ≡ false → (get_or vs i d).timestamp ≡ ts → (get_or vs i d).pending ≡ true → w ≡ record (get_or vs i d) { value = value } → set vs i w ≡ installed ts value vs
installed_own ts i value vs w d lt c m e p same = rw (m, no_committed ts i vs d lt c e p) (with_version_own ts i value vs w d lt c e same)

pub installed_new : (ts i : ℕ) (value : Option (List ℕ)) (vs : List Version) → is_marked ts vs ≡ false → IsIndex ts i vs → Each (λ v. v.timestamp ≡ ts → ⊥) vs → insert vs i (unread ts value) ≡ installed ts value vs
installed_new ts i value vs m h none = rw (m, free vs none) (with_version_new ts i value vs h none)
  where
    free : (xs : List Version) → Each (λ v. v.timestamp ≡ ts → ⊥) xs → list_any (λ v. (v.timestamp == ts) && not v.pending) xs ≡ false
    free [] a = refl
    free (x ∷ xs) a = grind (arith, nat_tests, a.0, free xs a.1)

-- a fate
committing_other : (ts : ℕ) (v : Version) → (v.timestamp ≡ ts → v.pending ≡ false) → committing ts v ≡ v
committing_other ts v ne = at (v.timestamp == ts) refl
  where
    or_not : (p : Bool) → (p && true) ≡ p
    or_not true = refl
    or_not false = refl

    at : (q : Bool) → (v.timestamp == ts) ≡ q → record v { pending = v.pending && not q } ≡ v
    at true e = let p : v.pending ≡ false = ne (grind (arith, nat_tests, e)) in ap (λ b. record v { pending = b }) (grind (arith, p))
    at false e = ap (λ b. record v { pending = b }) (or_not v.pending)

pub committed_own : (ts i : ℕ) (vs : List Version) (w d : Version) → i < length vs → IsChain vs → (get_or vs i d).timestamp ≡ ts → w ≡ record (get_or vs i d) { pending = false } → set vs i w ≡ settled ts Committed vs
committed_own ts i vs w d lt c e same =
    map_set (committing ts) i vs w d lt c (same ∙ ap (λ b. record (get_or vs i d) { pending = b }) own) (λ v ne. committing_other ts v (λ q. absurd (ne (q ∙ sym e))))
  where
    own : false ≡ ((get_or vs i d).pending && not ((get_or vs i d).timestamp == ts))
    own = grind (arith, nat_tests, e)

kept : (ts : ℕ) (vs : List Version) → Each (λ v. v.timestamp ≡ ts → v.pending ≡ false) vs → filter (λ v. not (v.pending && (v.timestamp == ts))) vs ≡ vs
kept ts [] h = refl
kept ts (v ∷ vs) h =
    let stays : not (v.pending && (v.timestamp == ts)) ≡ true = grind (arith, nat_tests, h.0) in
    rw stays (ap (λ xs. v ∷ xs) (kept ts vs h.1))

pub rolled_back_own : (ts i : ℕ) (vs : List Version) (d : Version) → i < length vs → IsChain vs → (get_or vs i d).timestamp ≡ ts → (get_or vs i d).pending ≡ true → remove vs i ≡ settled ts RolledBack vs
rolled_back_own ts i [] d lt c e p = absurd (omega arith)
rolled_back_own ts zero (v ∷ vs) d lt c e p =
    let goes : not (v.pending && (v.timestamp == ts)) ≡ false = grind (arith, nat_tests, e, p) in
    rw goes (sym (kept ts vs (none_pending ts vs (none_own v ts vs e c.0))))
rolled_back_own ts (suc i) (v ∷ vs) d lt c e p =
    let above = each_at (IsBefore v) vs i d (omega arith) c.0 in
    let stays : not (v.pending && (v.timestamp == ts)) ≡ true = grind (arith, nat_tests, above.0, e) in
    rw stays (ap (λ xs. v ∷ xs) (rolled_back_own ts i vs d (omega arith) c.2 e p))

pub settled_nothing : (ts : ℕ) (fate : Fate) (vs : List Version) → Each (λ v. v.timestamp ≡ ts → v.pending ≡ false) vs → vs ≡ settled ts fate vs
settled_nothing ts Committed vs h = sym (map_same (committing ts) vs (each vs h))
  where
    each : (xs : List Version) → Each (λ v. v.timestamp ≡ ts → v.pending ≡ false) xs → Each (λ v. committing ts v ≡ v) xs
    each [] a = tt
    each (x ∷ xs) a = (committing_other ts x a.0, each xs a.1)
settled_nothing ts RolledBack vs h = sym (kept ts vs h)
