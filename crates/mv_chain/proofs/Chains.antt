-- What a chain shows after a change.
use Rattle.std.proofs.Common.{◌≡◌, ℕ, zero, suc, ◌-◌, ◌<◌, ◌≤◌, Bool, true, false, ◌||◌, ◌&&◌, leb, List, [], ◌∷◌, map, length, get_or, set, None, refl, sym, ap, ap₂, ◌∙◌, max, arith}
use Rattle.std.specs.Prelude.{nat_lt, nat_le, ◌==◌}
use Rattle.std.specs.List.{AllByRecursion as Each, insert, remove}
use Rattle.std.proofs.lemmas.Bool.Decides.{nat_tests}
use Rattle.std.specs.List.Sorted.{IsPartitionPoint, IsNonDecreasingBy}
use Rattle.mv_chain.specs.declared.fate.Fate.{Fate}
use Rattle.mv_chain.specs.declared.fate.Fate.TheVariants.{Committed, RolledBack}
use Rattle.mv_chain.specs.declared.version.Version.{Version}
use Rattle.mv_chain.specs.Accesses.{Written, shown, newest, seen_of, stands, deciding, decided}
use Rattle.mv_chain.specs.Chain.{as_written, shows_without, shows, is_marked, IsBefore, IsChain, IsIndex}
use Rattle.mv_chain.specs.Look.{IsBelow}
use Rattle.mv_chain.proofs.Seen.{seen_behind, seen_swapped, and_gone, but_not, cleared, seen_rolled_back, seen_committed}

-- the index by indices
pub is_index : (t i : ℕ) (vs : List Version) → i ≤ length vs → ((k : ℕ) (d : Version) → k < i → (get_or vs k d).timestamp ≤ t) → ((k : ℕ) (d : Version) → i ≤ k → k < length vs → t < (get_or vs k d).timestamp) → IsIndex t i vs
is_index t zero [] le front back = tt
is_index t (suc i) [] le front back = absurd (omega arith)
is_index t zero (v ∷ vs) le front back = (back 0 v (omega arith) (omega arith), is_index t zero vs (omega arith) (λ k d h. absurd (omega arith)) (λ k d h lt. back (suc k) d (omega arith) (omega arith)))
is_index t (suc i) (v ∷ vs) le front back = (front 0 v (omega arith), is_index t i vs (omega arith) (λ k d h. front (suc k) d (omega arith)) (λ k d h lt. back (suc k) d (omega arith) (omega arith)))

pub each_at : {X : Type 0} (P : X → Type 0) (xs : List X) (i : ℕ) (d : X) → i < length xs → Each P xs → P (get_or xs i d)
each_at P [] i d lt h = absurd (omega arith)
each_at P (x ∷ xs) zero d lt h = h.0
each_at P (x ∷ xs) (suc i) d lt h = each_at P xs i d (omega arith) h.1

pub index_within : (t i : ℕ) (vs : List Version) → IsIndex t (suc i) vs → i < length vs
index_within t i [] h = absurd h
index_within t zero (v ∷ vs) h = omega arith
index_within t (suc i) (v ∷ vs) h = let rest = index_within t i vs h.1 in omega arith

pub index_at : (t i : ℕ) (vs : List Version) (d : Version) → IsIndex t (suc i) vs → (get_or vs i d).timestamp ≤ t
index_at t i [] d h = absurd h
index_at t zero (v ∷ vs) d h = h.0
index_at t (suc i) (v ∷ vs) d h = index_at t i vs d h.1

-- a version is shown pending where it is
pub pending_shown : (v : Version) → (shown (as_written v)).pending ≡ v.pending
pending_shown v = at v.pending
  where
    at : (b : Bool) → (shown (as_written (record v { pending = b }))).pending ≡ b
    at true = refl
    at false = refl

-- nothing is shown below the first version
pub shows_none : (t : ℕ) (vs : List Version) → IsIndex t zero vs → shows t vs ≡ record { from = 0; value = None; pending = false }
shows_none t [] h = refl
shows_none t (v ∷ vs) h = grind (arith, nat_tests, shows_none t vs h.1)

-- the last version up to t is shown
pub shows_last : (t i : ℕ) (vs : List Version) (d : Version) → IsChain vs → IsIndex t (suc i) vs → shows t vs ≡ shown (as_written (get_or vs i d))
shows_last t i [] d c h = absurd h
shows_last t zero (v ∷ vs) d c h = grind (arith, nat_tests, shows_none t vs h.1)
shows_last t (suc i) (v ∷ vs) d c h =
    let above = each_at (IsBefore v) vs i d (index_within t i vs h.1) c.0 in
    grind (arith, nat_tests, shows_last t i vs d c.2 h.1, above.0)

-- the mark of the last version below t decides
pub marked_none : (t : ℕ) (vs : List Version) → IsBelow t zero vs → is_marked t vs ≡ false
marked_none t [] h = refl
marked_none t (v ∷ vs) h = grind (arith, nat_tests, h.0, marked_none t vs h.1)

below_within : (t i : ℕ) (vs : List Version) → IsBelow t (suc i) vs → i < length vs
below_within t i [] h = absurd h
below_within t zero (v ∷ vs) h = omega arith
below_within t (suc i) (v ∷ vs) h = let rest = below_within t i vs h.1 in omega arith

below_at : (t i : ℕ) (vs : List Version) (d : Version) → IsBelow t (suc i) vs → (get_or vs i d).timestamp < t
below_at t i [] d h = absurd h
below_at t zero (v ∷ vs) d h = h.0
below_at t (suc i) (v ∷ vs) d h = below_at t i vs d h.1

pub marked_last : (t i : ℕ) (vs : List Version) (d : Version) → IsChain vs → IsBelow t (suc i) vs → is_marked t vs ≡ nat_lt t (get_or vs i d).mark
marked_last t i [] d c h = absurd h
marked_last t zero (v ∷ vs) d c h = grind (arith, nat_tests, h.0, marked_none t vs h.1)
marked_last t (suc i) (v ∷ vs) d c h =
    let above = each_at (IsBefore v) vs i d (below_within t i vs h.1) c.0 in
    let under = below_at t i vs d h.1 in
    grind (arith, nat_tests, marked_last t i vs d c.2 h.1, above.1)

-- below t are all that are at most t, but for the one at t
none_below : (t : ℕ) (vs : List Version) → IsIndex t zero vs → IsBelow t zero vs
none_below t [] h = tt
none_below t (v ∷ vs) h = (omega (arith, h.0), none_below t vs h.1)

pub below_own : (t i : ℕ) (vs : List Version) (d : Version) → IsChain vs → IsIndex t (suc i) vs → (get_or vs i d).timestamp ≡ t → IsBelow t i vs
below_own t i [] d c h own = absurd h
below_own t zero (v ∷ vs) d c h own = (omega (arith, own), none_below t vs h.1)
below_own t (suc i) (v ∷ vs) d c h own =
    let above = each_at (IsBefore v) vs i d (index_within t i vs h.1) c.0 in
    (omega (arith, above.0, own), below_own t i vs d c.2 h.1 own)

pub below_new : (t i : ℕ) (vs : List Version) → IsIndex t i vs → Each (λ v. v.timestamp ≡ t → ⊥) vs → IsBelow t i vs
below_new t zero vs h new = none_below t vs h
below_new t (suc i) [] h new = absurd h
below_new t (suc i) (v ∷ vs) h new = (strictly new.0, below_new t i vs h.1 new.1)
  where
    strictly : (v.timestamp ≡ t → ⊥) → v.timestamp < t
    strictly ne = grind (arith, h.0, ne)

-- a version put in among others of other timestamps
pub shows_inserted : (p : Written → Bool) (i : ℕ) (vs : List Version) (w : Version) → Each (λ v. v.timestamp ≡ w.timestamp → ⊥) vs → newest p (map as_written (insert vs i w)) ≡ newest p (as_written w ∷ map as_written vs)
shows_inserted p zero vs w h = refl
shows_inserted p (suc i) [] w h = refl
shows_inserted p (suc i) (v ∷ vs) w h =
    seen_behind p (as_written v) (map as_written (insert vs i w)) (as_written w ∷ map as_written vs) (shows_inserted p i vs w h.1) ∙ seen_swapped p (as_written v) (as_written w) (map as_written vs) h.0

pub marked_inserted : (t i : ℕ) (vs : List Version) (w : Version) → w.mark ≡ 0 → is_marked t (insert vs i w) ≡ is_marked t vs
marked_inserted t zero vs w h = grind (arith, nat_tests)
marked_inserted t (suc i) [] w h = grind (arith, nat_tests)
marked_inserted t (suc i) (v ∷ vs) w h = grind (arith, nat_tests, marked_inserted t i vs w h)

pub each_set : {X : Type 0} (P : X → Type 0) (xs : List X) (i : ℕ) (x : X) → P x → Each P xs → Each P (set xs i x)
each_set P [] i x p h = tt
each_set P (y ∷ ys) zero x p h = (p, h.1)
each_set P (y ∷ ys) (suc i) x p h = (h.0, each_set P ys i x p h.1)

pub each_insert : {X : Type 0} (P : X → Type 0) (xs : List X) (i : ℕ) (x : X) → P x → Each P xs → Each P (insert xs i x)
each_insert P xs zero x p h = (p, h)
each_insert P [] (suc i) x p h = (p, tt)
each_insert P (y ∷ ys) (suc i) x p h = (h.0, each_insert P ys i x p h.1)

pub each_remove : {X : Type 0} (P : X → Type 0) (xs : List X) (i : ℕ) → Each P xs → Each P (remove xs i)
each_remove P [] zero h = tt
each_remove P [] (suc i) h = tt
each_remove P (y ∷ ys) zero h = h.1
each_remove P (y ∷ ys) (suc i) h = (h.0, each_remove P ys i h.1)

pub index_after : (t : ℕ) (vs : List Version) → IsIndex t zero vs → Each (λ v. t < v.timestamp) vs
index_after t [] h = tt
index_after t (v ∷ vs) h = (h.0, index_after t vs h.1)

-- the same timestamp, and a mark that no later version contradicts
pub chain_set : (i r : ℕ) (vs : List Version) (w d : Version) → IsIndex r (suc i) vs → IsChain vs → w.timestamp ≡ (get_or vs i d).timestamp → w.mark ≤ max (get_or vs i d).mark r → (w.pending ≡ true → w.mark ≤ w.timestamp) → IsChain (set vs i w)
chain_set i r [] w d h c e m own = tt
chain_set zero r (v ∷ vs) w d h c e m own =
    (each_both vs c.0 (index_after r vs h.1), own, c.2)
  where
    each_both : (xs : List Version) → Each (IsBefore v) xs → Each (λ x. r < x.timestamp) xs → Each (IsBefore w) xs
    each_both [] a b = tt
    each_both (x ∷ xs) a b = ((omega arith, omega arith), each_both xs a.1 b.1)
chain_set (suc i) r (v ∷ vs) w d h c e m own =
    let above = each_at (IsBefore v) vs i d (index_within r i vs h.1) c.0 in
    (each_set (IsBefore v) vs i w (omega (arith, above.0), omega (arith, above.1)) c.0, c.1, chain_set i r vs w d h.1 c.2 e m own)

pub writes_set : (i : ℕ) (vs : List Version) (w d : Version) → i < length vs → as_written w ≡ as_written (get_or vs i d) → map as_written (set vs i w) ≡ map as_written vs
writes_set i [] w d lt e = refl
writes_set zero (v ∷ vs) w d lt e = ap (λ x. x ∷ map as_written vs) e
writes_set (suc i) (v ∷ vs) w d lt e = ap (λ xs. as_written v ∷ xs) (writes_set i vs w d (omega arith) e)

pub marked_set : (t i r : ℕ) (vs : List Version) (w d : Version) → i < length vs → w.timestamp ≡ (get_or vs i d).timestamp → w.mark ≡ max (get_or vs i d).mark r → is_marked t (set vs i w) ≡ ((nat_lt w.timestamp t && nat_lt t r) || is_marked t vs)
marked_set t i r [] w d lt e m = absurd (omega arith)
marked_set t zero r (v ∷ vs) w d lt e m = grind (arith, nat_tests)
marked_set t (suc i) r (v ∷ vs) w d lt e m = grind (arith, nat_tests, marked_set t i r vs w d (omega arith) e m)

pub marked_removed : (t i : ℕ) (vs : List Version) (d : Version) → i < length vs → (get_or vs i d).mark ≤ (get_or vs i d).timestamp → is_marked t (remove vs i) ≡ is_marked t vs
marked_removed t i [] d lt m = absurd (omega arith)
marked_removed t zero (v ∷ vs) d lt m = grind (arith, nat_tests)
marked_removed t (suc i) (v ∷ vs) d lt m = grind (arith, nat_tests, marked_removed t i vs d (omega arith) m)

pub chain_removed : (i : ℕ) (vs : List Version) → IsChain vs → IsChain (remove vs i)
chain_removed zero [] c = tt
chain_removed (suc i) [] c = tt
chain_removed zero (v ∷ vs) c = c.2
chain_removed (suc i) (v ∷ vs) c = (each_remove _ vs i c.0, c.1, chain_removed i vs c.2)

-- a timestamp that isn't the last up to it is no version's
pub index_new : (t i : ℕ) (vs : List Version) → IsChain vs → IsIndex t i vs → ((j : ℕ) (d : Version) → i ≡ suc j → (get_or vs j d).timestamp ≡ t → ⊥) → Each (λ v. v.timestamp ≡ t → ⊥) vs
index_new t zero vs c h new = each_above vs (index_after t vs h)
  where
    each_above : (xs : List Version) → Each (λ v. t < v.timestamp) xs → Each (λ v. v.timestamp ≡ t → ⊥) xs
    each_above [] a = tt
    each_above (x ∷ xs) a = ((λ e. omega (arith, a.0, e)), each_above xs a.1)
index_new t (suc i) [] c h new = tt
index_new t (suc zero) (v ∷ vs) c h new = (new 0 v refl, index_new t zero vs c.2 h.1 (λ j d e. absurd (omega arith)))
index_new t (suc (suc i)) (v ∷ vs) c h new =
    let above = each_at (IsBefore v) vs i v (index_within t i vs h.1) c.0 in
    let under = index_at t i vs v h.1 in
    ((λ e. omega (arith, above.0, e)), index_new t (suc i) vs c.2 h.1 (λ j d e. new (suc j) d (ap suc e)))

pub chain_inserted : (t i : ℕ) (vs : List Version) (w : Version) → w.timestamp ≡ t → w.mark ≡ 0 → IsChain vs → IsIndex t i vs → Each (λ v. v.timestamp ≡ t → ⊥) vs → is_marked t vs ≡ false → IsChain (insert vs i w)
chain_inserted t zero vs w e m c h new free = (each_above vs (index_after t vs h), λ p. omega arith, c)
  where
    each_above : (xs : List Version) → Each (λ v. t < v.timestamp) xs → Each (IsBefore w) xs
    each_above [] a = tt
    each_above (x ∷ xs) a = ((omega arith, omega arith), each_above xs a.1)
chain_inserted t (suc i) [] w e m c h new free = absurd h
chain_inserted t (suc i) (v ∷ vs) w e m c h new free =
    (each_insert _ vs i w (grind (arith, nat_tests, new.0), grind (arith, nat_tests, new.0)) c.0, c.1, chain_inserted t i vs w e m c.2 h.1 new.1 (grind (arith, nat_tests)))

-- only one version has the timestamp
pub none_own : (v : Version) (ts : ℕ) (vs : List Version) → v.timestamp ≡ ts → Each (IsBefore v) vs → Each (λ x. x.timestamp ≡ ts → ⊥) vs
none_own v ts [] e h = tt
none_own v ts (x ∷ xs) e h = ((λ same. omega (arith, h.0.0, e, same)), none_own v ts xs e h.1)

pub none_pending : (ts : ℕ) (vs : List Version) → Each (λ v. v.timestamp ≡ ts → ⊥) vs → Each (λ v. v.timestamp ≡ ts → v.pending ≡ false) vs
none_pending ts [] h = tt
none_pending ts (v ∷ vs) h = ((λ own. absurd (h.0 own)), none_pending ts vs h.1)

decided_other : (ts : ℕ) (f : Fate) (vs : List Version) → Each (λ v. v.timestamp ≡ ts → ⊥) vs → decided ts f (map as_written vs) ≡ map as_written vs
decided_other ts f [] h = refl
decided_other ts f (v ∷ vs) h = ap₂ (λ (x : Written) (xs : List Written). x ∷ xs) (kept v h.0) (decided_other ts f vs h.1)
  where
    kept : (v : Version) → (v.timestamp ≡ ts → ⊥) → deciding ts f (as_written v) ≡ as_written v
    kept v ne = grind (arith, nat_tests, ne)

pub is_undecided_at : (ts i : ℕ) (vs : List Version) (d : Version) → i < length vs → IsChain vs → (get_or vs i d).timestamp ≡ ts → (get_or vs i d).pending ≡ true → Each (λ w. w.timestamp ≡ ts → w.fate ≡ None) (map as_written vs)
is_undecided_at ts i [] d lt c e p = tt
is_undecided_at ts zero (v ∷ vs) d lt c e p = ((λ own. grind (arith, p)), others vs (none_own v ts vs e c.0))
  where
    others : (xs : List Version) → Each (λ x. x.timestamp ≡ ts → ⊥) xs → Each (λ w. w.timestamp ≡ ts → w.fate ≡ None) (map as_written xs)
    others [] h = tt
    others (x ∷ xs) h = ((λ own. absurd (h.0 own)), others xs h.1)
is_undecided_at ts (suc i) (v ∷ vs) d lt c e p =
    let above = each_at (IsBefore v) vs i d (omega arith) c.0 in
    ((λ own. absurd (omega (arith, above.0, e, own))), is_undecided_at ts i vs d (omega arith) c.2 e p)

-- a version that is removed was rolled back
removed_is : (gone : ℕ → Bool) (t ts i : ℕ) (vs : List Version) (d : Version) → i < length vs → IsChain vs → (get_or vs i d).timestamp ≡ ts → shows_without gone t (remove vs i) ≡ seen_of (λ k. true) gone t (decided ts RolledBack (map as_written vs))
removed_is gone t ts i [] d lt c e = absurd (omega arith)
removed_is gone t ts zero (v ∷ vs) d lt c e =
    let rest = decided_other ts RolledBack vs (none_own v ts vs e c.0) in
    let own : (v.timestamp == ts) ≡ true = grind (arith, nat_tests) in
    rw (own, rest) refl
removed_is gone t ts (suc i) (v ∷ vs) d lt c e =
    let above = each_at (IsBefore v) vs i d (omega arith) c.0 in
    let other : (v.timestamp == ts) ≡ false = grind (arith, nat_tests, above.0) in
    rw other (seen_behind (λ w. stands gone w.timestamp w.fate && nat_le w.timestamp t) (as_written v) (map as_written (remove vs i)) (decided ts RolledBack (map as_written vs)) (removed_is gone t ts i vs d (omega arith) c.2 e))

committed_is : (ts i : ℕ) (vs : List Version) (w d : Version) → i < length vs → IsChain vs → (get_or vs i d).timestamp ≡ ts → as_written w ≡ deciding ts Committed (as_written (get_or vs i d)) → map as_written (set vs i w) ≡ decided ts Committed (map as_written vs)
committed_is ts i [] w d lt c e same = absurd (omega arith)
committed_is ts zero (v ∷ vs) w d lt c e same = ap₂ (λ (x : Written) (xs : List Written). x ∷ xs) same (sym (decided_other ts Committed vs (none_own v ts vs e c.0)))
committed_is ts (suc i) (v ∷ vs) w d lt c e same =
    let above = each_at (IsBefore v) vs i d (omega arith) c.0 in
    let other : as_written v ≡ deciding ts Committed (as_written v) = grind (arith, nat_tests, above.0) in
    ap₂ (λ (x : Written) (xs : List Written). x ∷ xs) other (committed_is ts i vs w d (omega arith) c.2 e same)

pub shows_removed : (gone : ℕ → Bool) (t ts i : ℕ) (vs : List Version) (d : Version) → i < length vs → IsChain vs → (get_or vs i d).timestamp ≡ ts → (get_or vs i d).pending ≡ true → shows_without gone t (remove vs i) ≡ shows_without (and_gone ts gone) t vs
shows_removed gone t ts i vs d lt c e p = removed_is gone t ts i vs d lt c e ∙ seen_rolled_back (λ k. true) gone t ts (map as_written vs) (is_undecided_at ts i vs d lt c e p)

pub shows_committed : (gone : ℕ → Bool) (t ts i : ℕ) (vs : List Version) (w d : Version) → i < length vs → IsChain vs → (get_or vs i d).timestamp ≡ ts → (get_or vs i d).pending ≡ true → as_written w ≡ deciding ts Committed (as_written (get_or vs i d)) → shows_without gone t (set vs i w) ≡ cleared ts (shows_without (but_not ts gone) t vs)
shows_committed gone t ts i vs w d lt c e p same = ap (λ xs. seen_of (λ k. true) gone t xs) (committed_is ts i vs w d lt c e same) ∙ seen_committed (λ k. true) gone t ts (map as_written vs) (is_undecided_at ts i vs d lt c e p)

-- a version that is written again
shows_twice : (p : Written → Bool) (a b : Written) (ws : List Written) → a.timestamp ≡ b.timestamp → p a ≡ p b → newest p (a ∷ b ∷ ws) ≡ newest p (a ∷ ws)
shows_twice p a b ws e same = grind (arith, nat_tests)

pub shows_replaced : (gone : ℕ → Bool) (t i : ℕ) (vs : List Version) (w d : Version) → i < length vs → IsChain vs → (get_or vs i d).timestamp ≡ w.timestamp → (get_or vs i d).pending ≡ true → w.pending ≡ true → shows_without gone t (set vs i w) ≡ newest (λ x. stands gone x.timestamp x.fate && nat_le x.timestamp t) (as_written w ∷ map as_written vs)
shows_replaced gone t i [] w d lt c e p q = absurd (omega arith)
shows_replaced gone t zero (v ∷ vs) w d lt c e p q =
    sym (shows_twice (λ x. stands gone x.timestamp x.fate && nat_le x.timestamp t) (as_written w) (as_written v) (map as_written vs) (sym e) (rw (p, q, e) refl))
shows_replaced gone t (suc i) (v ∷ vs) w d lt c e p q =
    let above = each_at (IsBefore v) vs i d (omega arith) c.0 in
    let test : Written → Bool = λ x. stands gone x.timestamp x.fate && nat_le x.timestamp t in
    seen_behind test (as_written v) (map as_written (set vs i w)) (as_written w ∷ map as_written vs) (shows_replaced gone t i vs w d (omega arith) c.2 e p q)
    ∙ seen_swapped test (as_written v) (as_written w) (map as_written vs) (λ same. omega (arith, above.0, e, same))

pub chain_ascends : (vs : List Version) → IsChain vs → IsNonDecreasingBy (λ v. v.timestamp) vs
chain_ascends vs c = λ i j d le lt. up vs c i j d le lt
  where
    up : (vs : List Version) → IsChain vs → (i j : ℕ) (d : Version) → i ≤ j → j < length vs → (get_or vs i d).timestamp ≤ (get_or vs j d).timestamp
    up [] c i j d le lt = absurd (omega arith)
    up (v ∷ vs) c zero zero d le lt = omega arith
    up (v ∷ vs) c zero (suc j) d le lt = let above = each_at (IsBefore v) vs j d (omega arith) c.0 in omega (arith, above.0)
    up (v ∷ vs) c (suc i) zero d le lt = absurd (omega arith)
    up (v ∷ vs) c (suc i) (suc j) d le lt = up vs c.2 i j d (omega arith) (omega arith)

pub is_index_at : (t i : ℕ) (vs : List Version) → i ≤ length vs → IsPartitionPoint (λ v. leb v.timestamp t ≡ true) (λ v. leb v.timestamp t ≡ false) vs i → IsIndex t i vs
is_index_at t i vs le h = is_index t i vs le (λ k d lt. let test : leb (get_or vs k d).timestamp t ≡ true = h.0 k d (omega arith) lt in grind (arith, nat_tests)) (λ k d from lt. let test : leb (get_or vs k d).timestamp t ≡ false = h.1 k d from lt in grind (arith, nat_tests))

pub read_any : (vs : List Version) (i : ℕ) (d e : Version) → i < length vs → get_or vs i d ≡ get_or vs i e
read_any [] i d e lt = absurd (omega arith)
read_any (v ∷ vs) zero d e lt = refl
read_any (v ∷ vs) (suc i) d e lt = read_any vs i d e (omega arith)

-- the last version up to t isn't t's
pub new_after : (vs : List Version) (t n : ℕ) (x : Version) → 0 < n → n ≤ length vs → ((get_or vs (n - 1) x).timestamp ≡ t → ⊥) → (j : ℕ) (d : Version) → n ≡ suc j → (get_or vs j d).timestamp ≡ t → ⊥
new_after vs t n x pos le ne j d e same =
    let k : n - 1 ≡ j = omega arith in
    ne (ap (λ v. v.timestamp) (ap (λ m. get_or vs m x) k ∙ read_any vs j x d (omega arith)) ∙ same)
